-- A job at its places: first its blocks, then its slot, then its table.
use Rattle.std.proofs.Common.{◌≡◌, ℕ, ◌+◌, ◌*◌, ◌<◌, ◌≤◌, inr, List, [], ◌∷◌, ap, ◌∙◌, arith, Ok, subst, sym}
use Rattle.std.proofs.lemmas.List.Elements.{All-nil, All-cons, All-head, All-tail}
use Rattle.host_mem.specs.Memory.{Memory, HasRange, bytes_of}
use Rattle.storage_model.specs.declared.block.Block.{Block}
use Rattle.storage_model.specs.declared.plan.Fill.{Fill}
use Rattle.storage_model.specs.Plan.{block_at}
use Rattle.cq_desc.specs.declared.xfer.Xfer.TheVariants.{Link}
use Rattle.cq_chain.specs.declared.pieces.Piece.{Piece}
use Rattle.cq_chain.specs.Descriptors.{Reads, word_at, size_of as descriptor_size}
use Rattle.cq_task.specs.Place.{place_of, chain_of, first_word}
use Rattle.piece_data.specs.Data.{block_of}
use Rattle.piece_data.specs.Laws.{HasSameSpace, IsApart, KeepsOthers}
use Rattle.piece_data.proofs.Kept.{range-same_space}
use Rattle.drv_ring.specs.declared.places.Layout.{Layout}
use Rattle.drv_ring.specs.Layout.{list_of, chunk_at, link_at, row_at, table_at, block_place, HasLayout}
use Rattle.drv_ring.specs.Pieces.{piece_count, tag_pieces}
use Rattle.drv_ring.specs.Asks.{HasChain, transfer_at}
use Rattle.drv_ring.specs.Changes.{ChangesAmong, ChangesWithin, area, slot_area, table_area}
use Rattle.drv_ring.proofs.Changed.{within-kept, word-same, reads-kept, others-more, pair-first, pair-within}
use Rattle.drv_ring.proofs.Inside.{slot-inside, layout-same_space, part-of, slot-ends, size-some}
use Rattle.drv_ring.proofs.Pieced.{block_of-pieces}
use Rattle.drv_ring.proofs.Scattered.{block-held}

-- the two descriptors of a slot, one behind the other
pub slot-first : (layout : Layout) (tag slot size : ℕ) (old middle new : Memory) → HasLayout old layout → tag < 32
    → slot ≡ place_of (list_of layout) tag → size ≡ descriptor_size layout.wide
    → ChangesWithin (area slot (descriptor_size layout.wide)) old middle → ChangesWithin (area (slot + size) (descriptor_size layout.wide)) middle new
    → first_word new (list_of layout) tag ≡ word_at middle slot
slot-first layout tag slot size old middle new held lt is e first second =
    let At : ℕ → Type 0 = λ s. ChangesWithin (area (slot + s) (descriptor_size layout.wide)) middle new in
    let In : ℕ → Type 0 = λ at. HasRange old at (2 * descriptor_size layout.wide) in
    ap (word_at new) (sym is)
    ∙ pair-first old middle new slot (descriptor_size layout.wide) (size-some layout) (subst In (sym is) (slot-inside old layout tag held lt)) first (subst At e second)

pub slot-within : (layout : Layout) (tag slot size : ℕ) (old middle new : Memory) → slot ≡ place_of (list_of layout) tag
    → size ≡ descriptor_size layout.wide → ChangesWithin (area slot (descriptor_size layout.wide)) old middle
    → ChangesWithin (area (slot + size) (descriptor_size layout.wide)) middle new → ChangesWithin (slot_area layout tag) old new
slot-within layout tag slot size old middle new is e first second =
    let At : ℕ → Type 0 = λ s. ChangesWithin (area (slot + s) (descriptor_size layout.wide)) middle new in
    let In : ℕ → Type 0 = λ at. ChangesWithin (area at (2 * descriptor_size layout.wide)) old new in
    subst In is (pair-within old middle new slot (descriptor_size layout.wide) first (subst At e second))

-- the slot stays while the table is written
slot-bytes : (layout : Layout) (tag at n : ℕ) (old new : Memory) → HasLayout old layout → tag < layout.depth
    → ChangesWithin (table_area layout tag) old new → place_of (list_of layout) tag ≤ at
    → at + n ≤ place_of (list_of layout) tag + 2 * descriptor_size layout.wide → bytes_of new at n ≡ bytes_of old at n
slot-bytes layout tag at n old new held lt change low high =
    let depth = held.depth in
    let below : tag < 32 = omega arith in
    let ends = slot-ends layout tag below in
    within-kept (table_at layout tag) 4096 old new change at n
    (part-of old (place_of (list_of layout) tag) (2 * descriptor_size layout.wide) at n (slot-inside old layout tag held below) low high)
    (inr (omega arith))

pub placed-word : (layout : Layout) (tag : ℕ) (old new : Memory) → HasLayout old layout → tag < layout.depth
    → ChangesWithin (table_area layout tag) old new → first_word new (list_of layout) tag ≡ first_word old (list_of layout) tag
placed-word layout tag old new held lt change =
    let at = place_of (list_of layout) tag in
    let some = size-some layout in
    word-same old new at (slot-bytes layout tag at 8 old new held lt change (omega arith) (omega arith))

pub placed-chain : (layout : Layout) (tag blocks : ℕ) (old new : Memory) → HasLayout old layout → tag < layout.depth
    → Reads old layout.wide (chain_of (list_of layout) tag) (Ok (Link (table_at layout tag)))
    → ((k : ℕ) → k < piece_count blocks
    → Reads new layout.wide (row_at layout tag k) (Ok (transfer_at layout tag blocks k)))
    → ((c : ℕ) → 32 * (c + 1) < piece_count blocks → Reads new layout.wide (link_at layout tag c) (Ok (Link (chunk_at layout tag (c + 1)))))
    → ChangesWithin (table_area layout tag) old new → HasChain new layout tag blocks
placed-chain layout tag blocks old new held lt link rows links change =
    let at = chain_of (list_of layout) tag in
    record {
      link = reads-kept layout.wide old new at (Ok (Link (table_at layout tag))) change.space
          (slot-bytes layout tag at (descriptor_size layout.wide) old new held lt change (omega arith) (omega arith)) link;
      transfers = rows;
      links = links;
    }

pub placed-outside : (layout : Layout) (tag : ℕ) (old middle new : Memory) → ChangesWithin (slot_area layout tag) old middle
    → ChangesWithin (table_area layout tag) middle new → KeepsOthers (slot_area layout tag ∷ table_area layout tag ∷ []) old new
placed-outside layout tag old middle new first second =
    others-more (slot_area layout tag ∷ []) (table_area layout tag ∷ []) old middle new first.space first.others second.others

abbrev made : List ℕ → Block
made bytes = record { 0 = bytes }

-- the blocks stay while the descriptors are written
pub placed-data : (layout : Layout) (tag blocks k : ℕ) (listed : List Block) (fill : Fill) (old new : Memory) → HasLayout old layout
    → tag < layout.depth → blocks ≤ 1024 → k < blocks → bytes_of old (block_place layout tag k) 512 ≡ (block_at listed fill k).0
    → HasSameSpace old new → KeepsOthers (slot_area layout tag ∷ table_area layout tag ∷ []) old new
    → block_of new (tag_pieces layout tag blocks) k ≡ block_at listed fill k
placed-data layout tag blocks k listed fill old new held lt few within bytes space others =
    let at = block_place layout tag k in
    let depth = held.depth in
    let ends = slot-ends layout tag (omega arith) in
    let has : HasRange old at 512 = block-held old layout tag k held lt (omega arith) in
    let still = layout-same_space old new layout space held in
    let P : Piece → Type 0 = IsApart (area at 512) in
    block_of-pieces new layout tag blocks k still lt few within
    ∙ ap made (others (area at 512) has
    (All-cons P (slot_area layout tag) (table_area layout tag ∷ []) (λ i j less low e. omega arith)
    (All-cons P (table_area layout tag) [] (λ i j less low e. omega arith) (All-nil P))))
    ∙ ap made bytes

pub filled-outside : (layout : Layout) (tag blocks : ℕ) (old middle new : Memory) → ChangesAmong (tag_pieces layout tag blocks) old middle
    → KeepsOthers (slot_area layout tag ∷ table_area layout tag ∷ []) middle new
    → KeepsOthers (slot_area layout tag ∷ table_area layout tag ∷ tag_pieces layout tag blocks) old new
filled-outside layout tag blocks old middle new first second = λ range has apart.
    let P : Piece → Type 0 = IsApart range in
    let slot = slot_area layout tag in
    let table = table_area layout tag in
    let pieces = tag_pieces layout tag blocks in
    let rest = All-tail P slot (table ∷ pieces) apart in
    second range (range-same_space old middle range.at range.len first.space has)
    (All-cons P slot (table ∷ []) (All-head P slot (table ∷ pieces) apart)
    (All-cons P table [] (All-head P table pieces rest) (All-nil P)))
    ∙ first.others range has (All-tail P table pieces rest)

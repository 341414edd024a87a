-- The slot, the table and the buffer of any other tag stay.
use Rattle.std.proofs.Common.{◌≡◌, ◌≢◌, ℕ, ◌+◌, ◌*◌, ◌<◌, ◌≤◌, Bool, List, [], ◌∷◌, sym, ap, ◌∙◌, arith, Ok, inl, inr}
use Rattle.std.specs.Prelude.{All}
use Rattle.std.proofs.lemmas.List.Elements.{All-nil, All-cons}
use Rattle.host_mem.specs.Memory.{Memory, HasRange, bytes_of}
use Rattle.storage_model.specs.declared.block.Block.{Block}
use Rattle.storage_model.specs.declared.plan.Job.{Job}
use Rattle.storage_model.specs.declared.plan.Job.TheVariants.{Read, Write, Flush, Barrier, Status}
use Rattle.cq_desc.specs.Task.{task_read}
use Rattle.cq_desc.specs.Direct.{direct_read}
use Rattle.cq_desc.specs.declared.xfer.Xfer.TheVariants.{Link}
use Rattle.cq_chain.specs.declared.pieces.Piece.{Piece}
use Rattle.cq_chain.specs.Descriptors.{word_at, size_of as descriptor_size}
use Rattle.cq_task.specs.Place.{place_of, chain_of}
use Rattle.piece_data.specs.Data.{block_of}
use Rattle.piece_data.specs.Laws.{HasSameSpace, IsApart, KeepsOthers}
use Rattle.drv_ring.specs.declared.places.Layout.{Layout}
use Rattle.drv_ring.specs.Layout.{list_of, chunk_at, link_at, row_at, table_at, block_place, HasLayout, IsTagOf}
use Rattle.drv_ring.specs.Pieces.{tag_pieces}
use Rattle.drv_ring.specs.Asks.{Asks, HasBlocks, HasChain, HasRest, transfer_at}
use Rattle.drv_ring.specs.Changes.{KeepsTag, area, areas_of, slot_area, table_area}
use Rattle.drv_ring.proofs.Changed.{word-same, reads-kept}
use Rattle.drv_ring.proofs.Inside.{layout-same_space, slot-inside, table-inside, part-of, shape, slot-ends, size-some, row-ends, link-ends}
use Rattle.drv_ring.proofs.Pieced.{block_of-pieces}
use Rattle.drv_ring.proofs.Scattered.{block-held, low-apart, block-apart}
use Rattle.drv_ring.proofs.Meant.{HasWord, asks-from, asks-word}

-- the bytes that carry what a tag's slot asks for are the same
pub record SameWords (layout : Layout) (tag : ℕ) (old new : Memory) : Type 0 where
  pub first : word_at new (place_of (list_of layout) tag) ≡ word_at old (place_of (list_of layout) tag)
  pub second : bytes_of new (chain_of (list_of layout) tag) (descriptor_size layout.wide) ≡ bytes_of old (chain_of (list_of layout) tag) (descriptor_size layout.wide)
  pub table : tag < layout.depth → (at n : ℕ) → table_at layout tag ≤ at → at + n ≤ table_at layout tag + 4096
      → bytes_of new at n ≡ bytes_of old at n

chain-kept : (layout : Layout) (tag blocks : ℕ) (old new : Memory) → HasSameSpace old new → SameWords layout tag old new
    → tag < layout.depth → blocks ≤ 1024 → HasChain old layout tag blocks → HasChain new layout tag blocks
chain-kept layout tag blocks old new space same lt few chain = record {
  link = reads-kept layout.wide old new (chain_of (list_of layout) tag) _ space same.second chain.link;
  transfers = λ k less.
      let ends = row-ends layout tag k (omega arith) in
      reads-kept layout.wide old new (row_at layout tag k) (Ok (transfer_at layout tag blocks k)) space
      (same.table lt (row_at layout tag k) (descriptor_size layout.wide) (omega arith) ends) (chain.transfers k less);
  links = λ c less.
      let ends = link-ends layout tag c (omega arith) in
      reads-kept layout.wide old new (link_at layout tag c) (Ok (Link (chunk_at layout tag (c + 1)))) space
      (same.table lt (link_at layout tag c) (descriptor_size layout.wide) (omega arith) ends) (chain.links c less);
}

word-kept : (layout : Layout) (tag : ℕ) (job : Job) (int : Bool) (old new : Memory) → SameWords layout tag old new
    → HasWord old layout tag job int → HasWord new layout tag job int
word-kept layout tag (Read sector blocks high) int old new same word = ap task_read same.first ∙ word
word-kept layout tag (Write sector blocks fill forced reliable high) int old new same word = ap task_read same.first ∙ word
word-kept layout tag Flush int old new same word = ap direct_read same.first ∙ word
word-kept layout tag Barrier int old new same word = ap direct_read same.first ∙ word
word-kept layout tag Status int old new same word = ap direct_read same.first ∙ word

rest-kept : (layout : Layout) (tag : ℕ) (job : Job) (old new : Memory) → HasSameSpace old new → SameWords layout tag old new
    → IsTagOf layout tag job → HasBlocks job → HasRest old layout tag job → HasRest new layout tag job
rest-kept layout tag (Read sector blocks high) old new space same fits few rest =
    chain-kept layout tag blocks old new space same fits few.1 rest
rest-kept layout tag (Write sector blocks fill forced reliable high) old new space same fits few rest =
    chain-kept layout tag blocks old new space same fits few.1 rest
rest-kept layout tag Flush old new space same fits few rest = same.second ∙ rest
rest-kept layout tag Barrier old new space same fits few rest = same.second ∙ rest
rest-kept layout tag Status old new space same fits few rest = same.second ∙ rest

-- a slot asks for the same while the words of its tag are the same
pub asks-kept : (layout : Layout) (tag : ℕ) (job : Job) (int : Bool) (old new : Memory) → HasLayout old layout → HasSameSpace old new
    → SameWords layout tag old new → Asks old layout tag job int → Asks new layout tag job int
asks-kept layout tag job int old new held space same asks =
    asks-from new layout tag job int (layout-same_space old new layout space held) asks.tag_fits asks.blocks_fit
    (word-kept layout tag job int old new same (asks-word old layout tag job int held.depth asks))
    (rest-kept layout tag job old new space same asks.tag_fits asks.blocks_fit asks.rest)

two-apart : (range slot table : Piece) → IsApart range slot → IsApart range table → All (IsApart range) (slot ∷ table ∷ [])
two-apart range slot table a b = All-cons (IsApart range) slot (table ∷ []) a (All-cons (IsApart range) table [] b (All-nil (IsApart range)))

-- a range apart from the places of a tag is apart from those that a job changes
areas-apart : (layout : Layout) (tag : ℕ) (job : Job) (range : Piece) → layout.depth ≤ 31 → IsTagOf layout tag job
    → IsApart range (slot_area layout tag) → (tag < 31 → IsApart range (table_area layout tag))
    → (tag < layout.depth → (blocks : ℕ) → All (IsApart range) (tag_pieces layout tag blocks)) → All (IsApart range) (areas_of layout tag job)
areas-apart layout tag (Read sector blocks high) range few fits slot table buffer =
    let lt : tag < 31 = omega arith in two-apart range (slot_area layout tag) (table_area layout tag) slot (table lt)
areas-apart layout tag (Write sector blocks fill forced reliable high) range few fits slot table buffer =
    let lt : tag < 31 = omega arith in
    All-cons (IsApart range) (slot_area layout tag) (table_area layout tag ∷ tag_pieces layout tag blocks) slot
    (All-cons (IsApart range) (table_area layout tag) (tag_pieces layout tag blocks) (table lt) (buffer fits blocks))
areas-apart layout tag Flush range few fits slot table buffer = All-cons (IsApart range) (slot_area layout tag) [] slot (All-nil (IsApart range))
areas-apart layout tag Barrier range few fits slot table buffer = All-cons (IsApart range) (slot_area layout tag) [] slot (All-nil (IsApart range))
areas-apart layout tag Status range few fits slot table buffer = All-cons (IsApart range) (slot_area layout tag) [] slot (All-nil (IsApart range))

-- what a job changes of the memory
pub record JobWrites (layout : Layout) (tag : ℕ) (job : Job) (old new : Memory) : Type 0 where
  pub held : HasLayout old layout
  pub fits : IsTagOf layout tag job
  pub space : HasSameSpace old new
  pub others : KeepsOthers (areas_of layout tag job) old new

tag-below : (layout : Layout) (tag : ℕ) (job : Job) → layout.depth ≤ 31 → IsTagOf layout tag job → tag < 32
tag-below layout tag (Read sector blocks high) few fits = omega arith
tag-below layout tag (Write sector blocks fill forced reliable high) few fits = omega arith
tag-below layout tag Flush few fits = omega arith
tag-below layout tag Barrier few fits = omega arith
tag-below layout tag Status few fits = omega arith

slot-apart : (layout : Layout) (tag other d n : ℕ) → other ≢ tag → d + n ≤ 2 * descriptor_size layout.wide
    → IsApart (area (place_of (list_of layout) other + d) n) (slot_area layout tag)
slot-apart layout tag other d n apart within = λ i j less low e. elim (shape layout) [
  | inl h ↦ omega (arith, h.size, h.place tag, h.place other)
  | inr h ↦ omega (arith, h.size, h.place tag, h.place other)
]

slot-bytes : (layout : Layout) (tag other d n : ℕ) (job : Job) (old new : Memory) → JobWrites layout tag job old new → other < 32 → other ≢ tag
    → d + n ≤ 2 * descriptor_size layout.wide
    → bytes_of new (place_of (list_of layout) other + d) n ≡ bytes_of old (place_of (list_of layout) other + d) n
slot-bytes layout tag other d n job old new writes lt apart within =
    let at = place_of (list_of layout) other + d in
    let ends = slot-ends layout other lt in
    let has : HasRange old at n =
    part-of old (place_of (list_of layout) other) (2 * descriptor_size layout.wide) at n (slot-inside old layout other writes.held lt) (omega arith) (omega arith) in
    writes.others (area at n) has
    (areas-apart layout tag job (area at n) writes.held.depth writes.fits
    (slot-apart layout tag other d n apart within)
    (λ below i j less low e. omega arith)
    (λ below blocks. low-apart layout tag blocks (area at n) (omega arith)))

table-bytes : (layout : Layout) (tag other at n : ℕ) (job : Job) (old new : Memory) → JobWrites layout tag job old new → other < layout.depth
    → other ≢ tag → table_at layout other ≤ at → at + n ≤ table_at layout other + 4096 → bytes_of new at n ≡ bytes_of old at n
table-bytes layout tag other at n job old new writes lt apart low high =
    let depth = writes.held.depth in
    let own = tag-below layout tag job depth writes.fits in
    let ends = slot-ends layout tag own in
    writes.others (area at n) (table-inside old layout other at n writes.held lt low high)
    (areas-apart layout tag job (area at n) depth writes.fits
    (λ i j less within e. omega arith)
    (λ below i j less within e. omega arith)
    (λ below blocks. low-apart layout tag blocks (area at n) (omega arith)))

abbrev made : List ℕ → Block
made bytes = record { 0 = bytes }

buffer-block : (layout : Layout) (tag other blocks k : ℕ) (job : Job) (old new : Memory) → JobWrites layout tag job old new → other < layout.depth
    → other ≢ tag → blocks ≤ 1024 → k < blocks
    → block_of new (tag_pieces layout other blocks) k ≡ block_of old (tag_pieces layout other blocks) k
buffer-block layout tag other blocks k job old new writes lt apart few within =
    let at = block_place layout other k in
    let depth = writes.held.depth in
    let own = tag-below layout tag job depth writes.fits in
    let ends = slot-ends layout tag own in
    let has : HasRange old at 512 = block-held old layout other k writes.held lt (omega arith) in
    let still = layout-same_space old new layout writes.space writes.held in
    block_of-pieces new layout other blocks k still lt few within
    ∙ ap made (writes.others (area at 512) has
    (areas-apart layout tag job (area at 512) depth writes.fits
    (λ i j less low e. omega arith)
    (λ below i j less low e. omega arith)
    (λ below count. block-apart layout tag other count k below lt apart)))
    ∙ sym (block_of-pieces old layout other blocks k writes.held lt few within)

pub others-kept : (layout : Layout) (tag other : ℕ) (job : Job) (old new : Memory) → JobWrites layout tag job old new → other < 32 → other ≢ tag
    → KeepsTag layout other old new
others-kept layout tag other job old new writes lt apart =
    let size = descriptor_size layout.wide in
    let at = place_of (list_of layout) other in
    let some = size-some layout in
    let same : at + 0 ≡ at = omega arith in
    let words : SameWords layout other old new = record {
      first = word-same old new at (ap (λ p. bytes_of new p 8) (sym same) ∙ slot-bytes layout tag other 0 8 job old new writes lt apart (omega arith)
          ∙ ap (λ p. bytes_of old p 8) same);
      second = slot-bytes layout tag other size size job old new writes lt apart (omega arith);
      table = λ less at n low high. table-bytes layout tag other at n job old new writes less apart low high;
    } in
    record {
      job = λ kept int asks. asks-kept layout other kept int old new writes.held writes.space words asks;
      data_held = λ less blocks k few within. buffer-block layout tag other blocks k job old new writes less apart few within;
    }

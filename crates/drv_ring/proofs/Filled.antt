-- The loops that write the table and the blocks of a tag: what is written stays while the rest is written.
use Rattle.std.proofs.Common.{◌≡◌, ℕ, ◌+◌, ◌-◌, ◌*◌, ◌/◌, ◌%◌, ◌<◌, ◌≤◌, inl, inr, ap, List, [], refl, sym, subst, ◌∙◌, arith, below_more, Ok}
use Rattle.std.proofs.lemmas.Bool.{cases_lt}
use Rattle.std.proofs.lemmas.List.Elements.{All-nil, All-cons}
use Rattle.host_mem.specs.Memory.{Memory, HasRange, bytes_of}
use Rattle.storage_model.specs.declared.block.Block.{Block}
use Rattle.storage_model.specs.declared.plan.Fill.{Fill}
use Rattle.storage_model.specs.Plan.{block_at}
use Rattle.cq_desc.specs.declared.xfer.Xfer.TheVariants.{Link}
use Rattle.cq_chain.specs.Descriptors.{Reads, size_of as descriptor_size}
use Rattle.piece_data.specs.Laws.{HasSameSpace, IsApart}
use Rattle.piece_data.proofs.Kept.{range-same_space}
use Rattle.drv_ring.specs.declared.places.Layout.{Layout}
use Rattle.drv_ring.specs.Layout.{block_place, chunk_at, link_at, row_at, table_at, HasLayout}
use Rattle.drv_ring.specs.Pieces.{tag_pieces}
use Rattle.drv_ring.specs.Asks.{transfer_at}
use Rattle.drv_ring.specs.Changes.{ChangesAmong, ChangesWithin, area, gap_area, table_area}
use Rattle.drv_ring.proofs.Changed.{space-more, within-none, within-more, within-wider, within-kept, reads-kept}
use Rattle.drv_ring.proofs.Inside.{table-inside, row-ends, row-order, link-ends, link-order, link-is, size-some}
use Rattle.drv_ring.proofs.Scattered.{block-held, block-order, blocks-apart}

-- the descriptors of the first `count` pieces, with the links between them
pub record HasRows (layout : Layout) (tag blocks count : ℕ) (old new : Memory) : Type 0 where
  pub written : (k : ℕ) → k < count → Reads new layout.wide (row_at layout tag k) (Ok (transfer_at layout tag blocks k))
  pub links : (c : ℕ) → 32 * (c + 1) < count → Reads new layout.wide (link_at layout tag c) (Ok (Link (chunk_at layout tag (c + 1))))
  pub within : ChangesWithin (table_area layout tag) old new

pub rows-none : (layout : Layout) (tag blocks : ℕ) (memory : Memory) → HasRows layout tag blocks 0 memory memory
rows-none layout tag blocks memory = record {
  written = λ k lt. absurd (omega arith);
  links = λ c lt. absurd (omega arith);
  within = within-none (table_area layout tag) memory;
}

pub row-inside : (layout : Layout) (tag k at : ℕ) (old new : Memory) → HasLayout old layout → tag < layout.depth → HasSameSpace old new → k < 128
    → at ≡ row_at layout tag k → HasRange new at (descriptor_size layout.wide)
row-inside layout tag k at old new held lt space few is =
    let ends = row-ends layout tag k few in
    range-same_space old new at (descriptor_size layout.wide) space
    (table-inside old layout tag at (descriptor_size layout.wide) held lt (omega arith) (omega arith))

link-inside : (layout : Layout) (tag c : ℕ) (old new : Memory) → HasLayout old layout → tag < layout.depth → HasSameSpace old new → c < 4
    → HasRange new (link_at layout tag c) (descriptor_size layout.wide)
link-inside layout tag c old new held lt space few =
    let ends = link-ends layout tag c few in
    range-same_space old new (link_at layout tag c) (descriptor_size layout.wide) space
    (table-inside old layout tag (link_at layout tag c) (descriptor_size layout.wide) held lt (omega arith) (omega arith))

-- the link in front of a descriptor leaves those before
pub rows-linked : (layout : Layout) (tag blocks k : ℕ) (old middle new : Memory) → HasLayout old layout → tag < layout.depth → k < 128
    → HasRows layout tag blocks k old middle → ChangesWithin (gap_area layout tag k) middle new → HasRows layout tag blocks k old new
rows-linked layout tag blocks k old middle new held lt few rows change =
    let size = descriptor_size layout.wide in
    let from = row_at layout tag (k - 1) + size in
    let len = row_at layout tag k - from in
    let space = rows.within.space in
    let some = size-some layout in
    record {
      written = λ j less.
          let place = row_at layout tag j in
          let before : place + size ≤ from = row-upto layout tag j (k - 1) (omega arith) in
          let has : HasRange middle place size = row-inside layout tag j place old middle held lt space (omega arith) refl in
          reads-kept layout.wide middle new place (Ok (transfer_at layout tag blocks j)) change.space
          (within-kept from len middle new change place size has (inr before)) (rows.written j less);
      links = λ c less.
          let place = link_at layout tag c in
          let before = link-order layout tag c (k - 1) (omega arith) in
          let has : HasRange middle place size = link-inside layout tag c old middle held lt space (omega arith) in
          reads-kept layout.wide middle new place (Ok (Link (chunk_at layout tag (c + 1)))) change.space
          (within-kept from len middle new change place size has (inr (omega arith))) (rows.links c less);
      within = within-more (table_area layout tag) old middle new rows.within
          (within-wider (gap_area layout tag k) (table_area layout tag) middle new (omega arith) (gap-ends layout tag k few) change);
    }
  where
    row-upto : (layout : Layout) (tag j k : ℕ) → j ≤ k → row_at layout tag j + descriptor_size layout.wide ≤ row_at layout tag k + descriptor_size layout.wide
    row-upto layout tag j k upto = elim (cases_lt j k) [
      | inl less ↦ omega (arith, row-order layout tag j k less)
      | inr late ↦ let same : j ≡ k = omega arith in let at = ap (row_at layout tag) same in omega (arith, at)
    ]

    gap-ends : (layout : Layout) (tag k : ℕ) → k < 128
        → row_at layout tag (k - 1) + descriptor_size layout.wide + (row_at layout tag k - (row_at layout tag (k - 1) + descriptor_size layout.wide)) ≤ table_at layout tag + 4096
    gap-ends layout tag k few =
        let one = row-ends layout tag (k - 1) (omega arith) in
        let other = row-ends layout tag k few in
        omega arith

pub rows-more : (layout : Layout) (tag blocks k at : ℕ) (old middle new : Memory) → HasLayout old layout → tag < layout.depth → k < 128
    → HasRows layout tag blocks k old middle
    → ((c : ℕ) → 32 * (c + 1) ≡ k → Reads middle layout.wide (link_at layout tag c) (Ok (Link (chunk_at layout tag (c + 1)))))
    → at ≡ row_at layout tag k → Reads new layout.wide at (Ok (transfer_at layout tag blocks k))
    → ChangesWithin (area at (descriptor_size layout.wide)) middle new → HasRows layout tag blocks (k + 1) old new
rows-more layout tag blocks k at old middle new held lt few rows link is reads change =
    let size = descriptor_size layout.wide in
    let ends = row-ends layout tag k few in
    let space = rows.within.space in
    let P : ℕ → Type 0 = λ j. Reads new layout.wide (row_at layout tag j) (Ok (transfer_at layout tag blocks j)) in
    let At : ℕ → Type 0 = λ place. Reads new layout.wide place (Ok (transfer_at layout tag blocks k)) in
    record {
      written = below_more P k
          (λ j less.
          let place = row_at layout tag j in
          let before = row-order layout tag j k less in
          let has : HasRange middle place size = row-inside layout tag j place old middle held lt space (omega arith) refl in
          reads-kept layout.wide middle new place (Ok (transfer_at layout tag blocks j)) change.space
          (within-kept at size middle new change place size has (inr (omega arith))) (rows.written j less))
          (subst At is reads);
      links = λ c less.
          let place = link_at layout tag c in
          let before = link-order layout tag c k (omega arith) in
          let has : HasRange middle place size = link-inside layout tag c old middle held lt space (omega arith) in
          let was : Reads middle layout.wide place (Ok (Link (chunk_at layout tag (c + 1)))) = elim (cases_lt (32 * (c + 1)) k) [
            | inl older ↦ rows.links c older
            | inr last ↦ link c (omega arith)
          ] in
          reads-kept layout.wide middle new place (Ok (Link (chunk_at layout tag (c + 1)))) change.space
          (within-kept at size middle new change place size has (inr (omega arith))) was;
      within = within-more (table_area layout tag) old middle new rows.within
          (within-wider (area at size) (table_area layout tag) middle new (omega arith) (omega arith) change);
    }

-- a link was written, or nothing
pub gap-none : (layout : Layout) (tag k : ℕ) (memory : Memory) → ChangesWithin (gap_area layout tag k) memory memory
gap-none layout tag k memory = within-none (gap_area layout tag k) memory

pub gap-link : (layout : Layout) (tag k at : ℕ) (old new : Memory) → 0 < k → at ≡ row_at layout tag (k - 1) + descriptor_size layout.wide → k % 32 ≡ 0
    → ChangesWithin (area at (descriptor_size layout.wide)) old new → ChangesWithin (gap_area layout tag k) old new
gap-link layout tag k at old new some is first change =
    let link = link-is layout tag ((k - 1) / 32) (k - 1) (omega arith) in
    let order = link-order layout tag ((k - 1) / 32) k (omega arith) in
    within-wider (area at (descriptor_size layout.wide)) (gap_area layout tag k) old new (omega arith) (omega arith) change

pub link-written : (layout : Layout) (tag k at to c : ℕ) (new : Memory) → 32 * (c + 1) ≡ k → at ≡ row_at layout tag (k - 1) + descriptor_size layout.wide
    → to ≡ chunk_at layout tag (k / 32) → Reads new layout.wide at (Ok (Link to)) → Reads new layout.wide (link_at layout tag c) (Ok (Link (chunk_at layout tag (c + 1))))
link-written layout tag k at to c new e is leads reads =
    let place = is ∙ link-is layout tag c (k - 1) (omega arith) in
    let chunk : k / 32 ≡ c + 1 = omega arith in
    let At : ℕ → Type 0 = λ p. Reads new layout.wide p (Ok (Link (chunk_at layout tag (c + 1)))) in
    let To : ℕ → Type 0 = λ t. Reads new layout.wide at (Ok (Link t)) in
    subst At place (subst To (leads ∙ ap (chunk_at layout tag) chunk) reads)

-- the first `count` of a tag's blocks
pub record HasFill (layout : Layout) (tag blocks : ℕ) (listed : List Block) (fill : Fill) (count : ℕ) (old new : Memory) : Type 0 where
  pub written : (k : ℕ) → k < count → bytes_of new (block_place layout tag k) 512 ≡ (block_at listed fill k).0
  pub among : ChangesAmong (tag_pieces layout tag blocks) old new

pub fill-none : (layout : Layout) (tag blocks : ℕ) (listed : List Block) (fill : Fill) (memory : Memory) → HasFill layout tag blocks listed fill 0 memory memory
fill-none layout tag blocks listed fill memory = record {
  written = λ k lt. absurd (omega arith);
  among = record { space = record { base = refl; size = refl }; others = λ range has apart. refl };
}

pub block-inside : (layout : Layout) (tag blocks count k at : ℕ) (listed : List Block) (fill : Fill) (old new : Memory) → HasLayout old layout
    → tag < layout.depth → HasFill layout tag blocks listed fill count old new → k < 1024 → at ≡ block_place layout tag k → HasRange new at 512
block-inside layout tag blocks count k at listed fill old new held lt filled few is =
    let In : ℕ → Type 0 = λ place. HasRange old place 512 in
    range-same_space old new at 512 filled.among.space (subst In (sym is) (block-held old layout tag k held lt few))

pub fill-more : (layout : Layout) (tag blocks k at : ℕ) (listed : List Block) (fill : Fill) (old middle new : Memory) → HasLayout old layout
    → tag < layout.depth → blocks ≤ 1024 → k < blocks → HasFill layout tag blocks listed fill k old middle → at ≡ block_place layout tag k
    → bytes_of new at 512 ≡ (block_at listed fill k).0 → ChangesWithin (area at 512) middle new
    → HasFill layout tag blocks listed fill (k + 1) old new
fill-more layout tag blocks k at listed fill old middle new held lt few less filled is bytes change =
    let P : ℕ → Type 0 = λ j. bytes_of new (block_place layout tag j) 512 ≡ (block_at listed fill j).0 in
    let At : ℕ → Type 0 = λ place. bytes_of new place 512 ≡ (block_at listed fill k).0 in
    record {
      written = below_more P k
          (λ j before.
          let place = block_place layout tag j in
          let order = block-order layout tag j k lt before in
          let has : HasRange middle place 512 = block-inside layout tag blocks k j place listed fill old middle held lt filled (omega arith) refl in
          within-kept at 512 middle new change place 512 has (inr (omega (arith, order, is))) ∙ filled.written j before)
          (subst At is bytes);
      among = record {
        space = space-more old middle new filled.among.space change.space;
        others = λ range has apart.
            let P : ℕ → Type 0 = λ place. IsApart range (area place 512) in
            let own : IsApart range (area at 512) = subst P (sym is) (blocks-apart layout tag blocks k range less apart) in
            change.others range (range-same_space old middle range.at range.len filled.among.space has)
            (All-cons (IsApart range) (area at 512) [] own (All-nil (IsApart range)))
            ∙ filled.among.others range has apart;
      };
    }

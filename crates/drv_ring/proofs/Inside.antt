-- The parts of a layout are in the memory, and apart from one another.
use Rattle.std.proofs.Common.{◌≡◌, ℕ, ◌+◌, ◌-◌, ◌*◌, ◌/◌, ◌%◌, ◌<◌, ◌≤◌, ◌⊎◌, inl, inr, Bool, true, false, refl, ap, ◌∙◌, arith}
use Rattle.std.proofs.lemmas.Bool.{cases_lt}
use Rattle.host_mem.specs.Memory.{Memory, HasRange}
use Rattle.cq_chain.specs.Descriptors.{size_of as descriptor_size}
use Rattle.cq_task.specs.Place.{place_of}
use Rattle.piece_data.specs.Laws.{HasSameSpace}
use Rattle.piece_data.proofs.Kept.{range-same_space}
use Rattle.drv_ring.specs.declared.places.Layout.{Layout}
use Rattle.drv_ring.specs.Layout.{list_of, chunk_at, link_at, row_at, table_at, size_of, HasLayout}

pub layout-same_space : (old new : Memory) (layout : Layout) → HasSameSpace old new → HasLayout old layout → HasLayout new layout
layout-same_space old new layout space held = record {
  depth = held.depth;
  below = held.below;
  narrow = held.narrow;
  inside = range-same_space old new layout.base (size_of layout) space held.inside;
}

-- a part of a range
pub part-of : (memory : Memory) (start whole at len : ℕ) → HasRange memory start whole → start ≤ at → at + len ≤ start + whole
    → HasRange memory at len
part-of memory start whole at len range low high k lt =
    let one = range (at - start + k) (omega arith) in
    (omega (arith, one.0), omega (arith, one.1))

-- a part of the layout
pub part-inside : (memory : Memory) (layout : Layout) (at len : ℕ) → HasLayout memory layout → layout.base ≤ at
    → at + len ≤ layout.base + size_of layout → HasRange memory at len
part-inside memory layout at len held low high k lt =
    let whole = held.inside (at - layout.base + k) (omega arith) in
    (omega (arith, whole.0), omega (arith, whole.1))

-- where slots and rows of a table stand, with descriptors of 8 bytes and with those of 16
pub record IsNarrow (layout : Layout) : Type 0 where
  pub size : descriptor_size layout.wide ≡ 8
  pub place : (tag : ℕ) → place_of (list_of layout) tag ≡ layout.base + 16 * tag
  pub row : (k : ℕ) → descriptor_size layout.wide * k ≡ 8 * k

pub record IsWide (layout : Layout) : Type 0 where
  pub size : descriptor_size layout.wide ≡ 16
  pub place : (tag : ℕ) → place_of (list_of layout) tag ≡ layout.base + 32 * tag
  pub row : (k : ℕ) → descriptor_size layout.wide * k ≡ 16 * k

size_cases : (wide : Bool) → (descriptor_size wide ≡ 8) ⊎ (descriptor_size wide ≡ 16)
size_cases false = inl refl
size_cases true = inr refl

pub shape : (layout : Layout) → IsNarrow layout ⊎ IsWide layout
shape layout = elim (size_cases layout.wide) [
  | inl e ↦ inl (record {
    size = e;
    place = λ tag. ap (λ s. layout.base + tag * (2 * s)) e ∙ omega arith;
    row = λ k. ap (λ s. s * k) e;
  })
  | inr e ↦ inr (record {
    size = e;
    place = λ tag. ap (λ s. layout.base + tag * (2 * s)) e ∙ omega arith;
    row = λ k. ap (λ s. s * k) e;
  })
]

-- the slots end before the tables
pub slot-ends : (layout : Layout) (tag : ℕ) → tag < 32
    → place_of (list_of layout) tag + 2 * descriptor_size layout.wide ≤ layout.base + 1024
slot-ends layout tag lt = elim (shape layout) [
  | inl n ↦ omega (arith, n.size, n.place tag)
  | inr w ↦ omega (arith, w.size, w.place tag)
]

pub size-some : (layout : Layout) → 8 ≤ descriptor_size layout.wide
size-some layout = elim (shape layout) [ inl n ↦ omega (arith, n.size) | inr w ↦ omega (arith, w.size) ]

pub slot-inside : (memory : Memory) (layout : Layout) (tag : ℕ) → HasLayout memory layout → tag < 32
    → HasRange memory (place_of (list_of layout) tag) (2 * descriptor_size layout.wide)
slot-inside memory layout tag held lt =
    part-inside memory layout (place_of (list_of layout) tag) (2 * descriptor_size layout.wide) held (omega arith) (omega (arith, slot-ends layout tag lt))

-- a chunk has room for 33 descriptors
pub entry-ends : (layout : Layout) (r : ℕ) → r ≤ 32 → descriptor_size layout.wide * r + descriptor_size layout.wide ≤ 1024
entry-ends layout r few = elim (shape layout) [
  | inl n ↦ omega (arith, n.size, n.row r)
  | inr w ↦ omega (arith, w.size, w.row r)
]

pub row-before : (layout : Layout) (j k : ℕ) → j < k
    → descriptor_size layout.wide * j + descriptor_size layout.wide ≤ descriptor_size layout.wide * k
row-before layout j k lt = elim (shape layout) [
  | inl n ↦ omega (arith, n.size, n.row j, n.row k)
  | inr w ↦ omega (arith, w.size, w.row j, w.row k)
]

-- the descriptors of the pieces and the links stand in order, in the table
pub row-ends : (layout : Layout) (tag k : ℕ) → k < 128 → row_at layout tag k + descriptor_size layout.wide ≤ table_at layout tag + 4096
row-ends layout tag k lt = omega (arith, entry-ends layout (k % 32) (omega arith))

pub link-ends : (layout : Layout) (tag c : ℕ) → c < 4 → link_at layout tag c + descriptor_size layout.wide ≤ table_at layout tag + 4096
link-ends layout tag c lt = omega (arith, entry-ends layout 32 (omega arith))

pub row-order : (layout : Layout) (tag j k : ℕ) → j < k → row_at layout tag j + descriptor_size layout.wide ≤ row_at layout tag k
row-order layout tag j k lt = elim (cases_lt (j / 32) (k / 32)) [
  | inl before ↦ omega (arith, entry-ends layout (j % 32) (omega arith))
  | inr late ↦ omega (arith, row-before layout (j % 32) (k % 32) (omega arith))
]

pub link-order : (layout : Layout) (tag c k : ℕ) → 32 * (c + 1) ≤ k → link_at layout tag c + descriptor_size layout.wide ≤ row_at layout tag k
link-order layout tag c k past = omega (arith, entry-ends layout 32 (omega arith))

-- the link stands behind the last descriptor of its chunk
pub link-is : (layout : Layout) (tag c k : ℕ) → 32 * (c + 1) ≡ k + 1 → row_at layout tag k + descriptor_size layout.wide ≡ link_at layout tag c
link-is layout tag c k e =
    let chunk : k / 32 ≡ c = omega arith in
    let row : k % 32 ≡ 31 = omega arith in
    ap (λ n. chunk_at layout tag n + descriptor_size layout.wide * (k % 32) + descriptor_size layout.wide) chunk
    ∙ ap (λ r. chunk_at layout tag c + descriptor_size layout.wide * r + descriptor_size layout.wide) row
    ∙ omega arith

-- the first of a chunk, and any other one
pub row-first : (layout : Layout) (tag k : ℕ) → k % 32 ≡ 0 → row_at layout tag k ≡ chunk_at layout tag (k / 32)
row-first layout tag k e = ap (λ r. chunk_at layout tag (k / 32) + descriptor_size layout.wide * r) e ∙ omega arith

pub row-next : (layout : Layout) (tag k : ℕ) → ((k + 1) % 32 ≡ 0 → ⊥) → row_at layout tag (k + 1) ≡ row_at layout tag k + descriptor_size layout.wide
row-next layout tag k not =
    let chunk : (k + 1) / 32 ≡ k / 32 = omega arith in
    let row : (k + 1) % 32 ≡ k % 32 + 1 = omega arith in
    ap (λ n. chunk_at layout tag n + descriptor_size layout.wide * ((k + 1) % 32)) chunk
    ∙ ap (λ r. chunk_at layout tag (k / 32) + descriptor_size layout.wide * r) row
    ∙ omega arith

pub table-inside : (memory : Memory) (layout : Layout) (tag at len : ℕ) → HasLayout memory layout → tag < layout.depth
    → table_at layout tag ≤ at → at + len ≤ table_at layout tag + 4096 → HasRange memory at len
table-inside memory layout tag at len held lt low high = part-inside memory layout at len held (omega arith) (omega (arith, held.depth))

-- the memory begins no later than the layout
pub base-below : (memory : Memory) (layout : Layout) → HasLayout memory layout → memory.base ≤ layout.base
base-below memory layout held = let first = held.inside 0 (omega arith) in omega (arith, first.0)

-- The pieces of all tags, one after the other: those of different tags or numbers are apart.
use Rattle.std.proofs.Common.{◌≡◌, ◌≢◌, ℕ, ◌+◌, ◌-◌, ◌*◌, ◌/◌, ◌%◌, ◌<◌, ◌≤◌, ◌⊎◌, inl, inr, get_or, map, min, ap, subst, sym, arith}
use Rattle.std.specs.Prelude.{All}
use Rattle.std.specs.List.{range_with_len}
use Rattle.std.proofs.Math.Nat.{mul-le-mul_left}
use Rattle.std.proofs.lemmas.Bool.{cases_lt}
use Rattle.std.proofs.lemmas.List.Elements.{All-map}
use Rattle.std.proofs.lemmas.List.FromFn.{length-map-range_with_len, get_or-map-range_with_len}
use Rattle.host_mem.specs.Memory.{Memory, HasRange}
use Rattle.cq_desc.specs.Transfer.{IsXferInRange}
use Rattle.cq_chain.specs.declared.pieces.Piece.{Piece}
use Rattle.piece_data.specs.Laws.{IsApart, AreApart}
use Rattle.drv_ring.specs.declared.places.Layout.{Layout}
use Rattle.drv_ring.specs.Layout.{piece_place, block_place, HasLayout}
use Rattle.drv_ring.specs.Pieces.{piece_count, piece_at, tag_pieces}
use Rattle.drv_ring.specs.Asks.{transfer_at}
use Rattle.drv_ring.specs.Changes.{area}
use Rattle.drv_ring.proofs.Inside.{part-inside}

-- a later turn of the tags begins behind an earlier one
pub turn-before : (depth i j : ℕ) → i < j → depth * i + depth ≤ depth * j
turn-before depth i j lt = let more : i + 1 ≤ j = omega arith in omega (arith, mul-le-mul_left depth more)

pub place-below : (depth tag k : ℕ) → tag < depth → k < 128 → depth * k + tag + 1 ≤ 128 * depth
place-below depth tag k lt few = omega (arith, turn-before depth k 128 few)

pub places-apart : (depth tag other i j : ℕ) → tag < depth → other < depth → other ≢ tag
    → (depth * i + tag < depth * j + other) ⊎ (depth * j + other < depth * i + tag)
places-apart depth tag other i j lt less apart = elim (cases_lt i j) [
  | inl before ↦ inl (omega (arith, turn-before depth i j before))
  | inr past ↦ elim (cases_lt j i) [
    | inl behind ↦ inr (omega (arith, turn-before depth j i behind))
    | inr late ↦
        let same : i ≡ j = omega arith in
        let turns = ap (λ n. depth * n) same in
        elim (cases_lt tag other) [ inl low ↦ inl (omega (arith, turns)) | inr high ↦ inr (omega (arith, turns)) ]
  ]
]

-- in the memory

pub piece-inside : (memory : Memory) (layout : Layout) (tag k at len : ℕ) → HasLayout memory layout → tag < layout.depth → k < 128
    → piece_place layout tag k ≤ at → at + len ≤ piece_place layout tag k + 4096 → HasRange memory at len
piece-inside memory layout tag k at len held lt few low high =
    let below = place-below layout.depth tag k lt few in part-inside memory layout at len held (omega arith) (omega arith)

pub block-held : (memory : Memory) (layout : Layout) (tag k : ℕ) → HasLayout memory layout → tag < layout.depth → k < 1024
    → HasRange memory (block_place layout tag k) 512
block-held memory layout tag k held lt few =
    piece-inside memory layout tag (k / 8) (block_place layout tag k) 512 held lt (omega arith) (omega arith) (omega arith)

-- the blocks of a tag stand in order
pub block-order : (layout : Layout) (tag j k : ℕ) → tag < layout.depth → j < k → block_place layout tag j + 512 ≤ block_place layout tag k
block-order layout tag j k lt less = elim (cases_lt (j / 8) (k / 8)) [
  | inl before ↦ omega (arith, turn-before layout.depth (j / 8) (k / 8) before)
  | inr late ↦
      let same : j / 8 ≡ k / 8 = omega arith in
      let turns = ap (λ n. layout.depth * n) same in
      omega (arith, turns)
]

pieces-in_order : (layout : Layout) (tag blocks i j : ℕ) → tag < layout.depth → i < j → IsApart (piece_at layout tag blocks i) (piece_at layout tag blocks j)
pieces-in_order layout tag blocks i j lt less p q low high e = omega (arith, turn-before layout.depth i j less)

-- no two pieces of a tag have a byte in common
pub pieces-apart : (layout : Layout) (tag blocks : ℕ) → tag < layout.depth → AreApart (tag_pieces layout tag blocks)
unfolding tag_pieces
pieces-apart layout tag blocks own i j d lt low =
    let f = piece_at layout tag blocks in
    let n = piece_count blocks in
    let within : j < n = omega (arith, length-map-range_with_len f 0 n) in
    let one : get_or (map f (range_with_len 0 n)) i d ≡ f i = get_or-map-range_with_len f 0 n i i d (omega arith) (omega arith) in
    let two : get_or (map f (range_with_len 0 n)) j d ≡ f j = get_or-map-range_with_len f 0 n j j d within (omega arith) in
    let P : Piece → Type 0 = λ piece. IsApart piece (get_or (map f (range_with_len 0 n)) j d) in
    let Q : Piece → Type 0 = λ piece. IsApart (f i) piece in
    subst P (sym one) (subst Q (sym two) (pieces-in_order layout tag blocks i j own lt))

-- what stands before all pieces is apart from those of a tag
pub low-apart : (layout : Layout) (tag blocks : ℕ) (range : Piece) → range.at + range.len ≤ layout.base + 131072
    → All (IsApart range) (tag_pieces layout tag blocks)
unfolding tag_pieces
low-apart layout tag blocks range before =
    All-map (IsApart range) (piece_at layout tag blocks) (range_with_len 0 (piece_count blocks)) (λ i d less p q low high e. omega arith)

-- a block of one tag is apart from the pieces of another
pub block-apart : (layout : Layout) (tag other blocks k : ℕ) → tag < layout.depth → other < layout.depth → other ≢ tag
    → All (IsApart (area (block_place layout other k) 512)) (tag_pieces layout tag blocks)
unfolding tag_pieces
block-apart layout tag other blocks k lt less apart =
    All-map (IsApart (area (block_place layout other k) 512)) (piece_at layout tag blocks) (range_with_len 0 (piece_count blocks))
    (λ i d within.
    let n = get_or (range_with_len 0 (piece_count blocks)) i d in
    λ p q low high e. elim (places-apart layout.depth tag other n (k / 8) lt less apart) [ inl before ↦ omega arith | inr behind ↦ omega arith ])

-- what is apart from the pieces of a tag is apart from each of its blocks
pub blocks-apart : (layout : Layout) (tag blocks k : ℕ) (range : Piece) → k < blocks → All (IsApart range) (tag_pieces layout tag blocks)
    → IsApart range (area (block_place layout tag k) 512)
unfolding tag_pieces
blocks-apart layout tag blocks k range less apart =
    let f = piece_at layout tag blocks in
    let n = piece_count blocks in
    let d = area 0 0 in
    let within : k / 8 < n = omega arith in
    let at : get_or (map f (range_with_len 0 n)) (k / 8) d ≡ f (k / 8) = get_or-map-range_with_len f 0 n (k / 8) (k / 8) d within (omega arith) in
    let whole : IsApart range (f (k / 8)) = subst (IsApart range) at (apart (k / 8) d (omega (arith, length-map-range_with_len f 0 n))) in
    λ p q low high e. whole p (512 * (k % 8) + q) low (omega arith) (omega arith)

-- the descriptor of a piece can be written
pub transfer-fits : (memory : Memory) (layout : Layout) (tag blocks k : ℕ) → HasLayout memory layout → tag < layout.depth → blocks ≤ 1024
    → k < piece_count blocks → IsXferInRange layout.wide (transfer_at layout tag blocks k)
transfer-fits memory layout tag blocks k held lt few less =
    let below = place-below layout.depth tag k lt (omega arith) in
    let some : 1 ≤ min 4096 (512 * blocks - 4096 * k) = omega arith in
    let short : min 4096 (512 * blocks - 4096 * k) ≤ 65536 = omega arith in
    (some, short, λ narrow. let end = held.narrow narrow in omega arith)

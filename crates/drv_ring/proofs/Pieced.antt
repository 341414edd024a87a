-- The blocks of a tag stand in its pieces, one after the other.
use Rattle.std.proofs.Common.{◌≡◌, ℕ, zero, suc, ◌+◌, ◌-◌, ◌*◌, ◌/◌, ◌%◌, ◌<◌, ◌≤◌, List, [], ◌∷◌, ◌++◌, length, get_or, map, min, take, drop, refl, sym, ap, ◌∙◌, arith}
use Rattle.std.specs.List.{range_with_len, flat_map}
use Rattle.std.proofs.lemmas.List.Elements.{All-map}
use Rattle.std.proofs.lemmas.List.Sums.{sum_by-cons}
use Rattle.host_mem.specs.Memory.{Memory, HasRange, bytes_of}
use Rattle.host_mem.proofs.MemoryLaws.{bytes_of-part, length-bytes_of}
use Rattle.storage_model.specs.declared.block.Block.{Block}
use Rattle.cq_chain.specs.declared.pieces.Piece.{Piece}
use Rattle.cq_chain.specs.Descriptors.{AreInside, bytes_in}
use Rattle.piece_data.specs.Data.{bytes_at, block_of}
use Rattle.drv_ring.specs.declared.places.Layout.{Layout}
use Rattle.drv_ring.specs.Layout.{block_place, piece_place, HasLayout}
use Rattle.drv_ring.specs.Pieces.{piece_count, piece_at, tag_pieces}
use Rattle.drv_ring.proofs.Inside.{base-below}
use Rattle.drv_ring.proofs.Scattered.{piece-inside}

take-front : (a : ℕ) (xs ys : List ℕ) → a ≤ length xs → take a (xs ++ ys) ≡ take a xs
take-front zero xs ys h = refl
take-front (suc a) [] ys h = absurd (omega arith)
take-front (suc a) (x ∷ xs) ys h = ap (λ l. x ∷ l) (take-front a xs ys (omega arith))

front-part : (a b : ℕ) (xs ys : List ℕ) → b + a ≤ length xs → take a (drop b (xs ++ ys)) ≡ take a (drop b xs)
front-part a zero xs ys h = take-front a xs ys (omega arith)
front-part a (suc b) [] ys h = absurd (omega arith)
front-part a (suc b) (x ∷ xs) ys h = front-part a b xs ys (omega arith)

drop-past : (a b : ℕ) (xs ys : List ℕ) → length xs ≡ a → drop (a + b) (xs ++ ys) ≡ drop b ys
drop-past a b [] ys e = let n : a + b ≡ b = omega arith in ap (λ m. drop m ys) n
drop-past zero b (x ∷ xs) ys e = absurd (omega arith)
drop-past (suc a) b (x ∷ xs) ys e =
    let n : suc a + b ≡ suc (a + b) = omega arith in
    ap (λ m. drop m (x ∷ (xs ++ ys))) n ∙ drop-past a b xs ys (omega arith)

-- the bytes of the pieces from one on
abbrev bytes_from : Memory → Layout → (tag blocks s n : ℕ) → List ℕ
bytes_from memory layout tag blocks s n =
    flat_map (λ (piece : Piece). bytes_of memory piece.at piece.len) (map (piece_at layout tag blocks) (range_with_len s n))

-- block r of a piece, behind j whole ones
block-in : (memory : Memory) (layout : Layout) (tag blocks s n j r : ℕ) → HasLayout memory layout → tag < layout.depth → blocks ≤ 1024 → r < 8
    → j < n → 4096 * (s + j) + 512 * r + 512 ≤ 512 * blocks
    → take 512 (drop (4096 * j + 512 * r) (bytes_from memory layout tag blocks s n)) ≡ bytes_of memory (piece_place layout tag (s + j) + 512 * r) 512
block-in memory layout tag blocks s zero j r held lt few eighth less within = absurd (omega arith)
block-in memory layout tag blocks s (suc n) zero r held lt few eighth less within =
    let at = piece_place layout tag s in
    let len = min 4096 (512 * blocks - 4096 * s) in
    let inside : HasRange memory at len = piece-inside memory layout tag s at len held lt (omega arith) (omega arith) (omega arith) in
    let long = length-bytes_of memory at len inside in
    let low = base-below memory layout held in
    let from : 4096 * 0 + 512 * r ≡ 512 * r = omega arith in
    let here : s + 0 ≡ s = omega arith in
    ap (λ m. take 512 (drop m (bytes_of memory at len ++ bytes_from memory layout tag blocks (s + 1) n))) from
    ∙ front-part 512 (512 * r) (bytes_of memory at len) (bytes_from memory layout tag blocks (s + 1) n) (omega arith)
    ∙ sym (bytes_of-part memory at len (512 * r) 512 (omega arith) (omega arith))
    ∙ ap (λ m. bytes_of memory (piece_place layout tag m + 512 * r) 512) (sym here)
block-in memory layout tag blocks s (suc n) (suc j) r held lt few eighth less within =
    let at = piece_place layout tag s in
    let len = min 4096 (512 * blocks - 4096 * s) in
    let inside : HasRange memory at len = piece-inside memory layout tag s at len held lt (omega arith) (omega arith) (omega arith) in
    let full : len ≡ 4096 = omega arith in
    let from : 4096 * suc j + 512 * r ≡ 4096 + (4096 * j + 512 * r) = omega arith in
    let there : s + 1 + j ≡ s + suc j = omega arith in
    ap (λ m. take 512 (drop m (bytes_of memory at len ++ bytes_from memory layout tag blocks (s + 1) n))) from
    ∙ ap (take 512) (drop-past 4096 (4096 * j + 512 * r) (bytes_of memory at len) (bytes_from memory layout tag blocks (s + 1) n) (length-bytes_of memory at len inside ∙ full))
    ∙ block-in memory layout tag blocks (s + 1) n j r held lt few eighth (omega arith) (omega arith)
    ∙ ap (λ m. bytes_of memory (piece_place layout tag m + 512 * r) 512) there

abbrev made : List ℕ → Block
made bytes = record { 0 = bytes }

-- block k stands at the same place whatever the number of blocks is
pub block_of-pieces : (memory : Memory) (layout : Layout) (tag blocks k : ℕ) → HasLayout memory layout → tag < layout.depth → blocks ≤ 1024 → k < blocks
    → block_of memory (tag_pieces layout tag blocks) k ≡ made (bytes_of memory (block_place layout tag k) 512)
unfolding block_of bytes_at tag_pieces
block_of-pieces memory layout tag blocks k held lt few less =
    let from : 512 * k ≡ 4096 * (k / 8) + 512 * (k % 8) = omega arith in
    let here : 0 + k / 8 ≡ k / 8 = omega arith in
    ap (λ m. made (take 512 (drop m (bytes_from memory layout tag blocks 0 (piece_count blocks))))) from
    ∙ ap made (block-in memory layout tag blocks 0 (piece_count blocks) (k / 8) (k % 8) held lt few (omega arith) (omega arith) (omega arith))
    ∙ ap (λ m. made (bytes_of memory (piece_place layout tag m + 512 * (k % 8)) 512)) here

pub pieces-inside : (memory : Memory) (layout : Layout) (tag blocks : ℕ) → HasLayout memory layout → tag < layout.depth → blocks ≤ 1024
    → AreInside memory (tag_pieces layout tag blocks)
unfolding tag_pieces
pieces-inside memory layout tag blocks held lt few =
    let P : Piece → Type 0 = λ piece. HasRange memory piece.at piece.len in
    All-map P (piece_at layout tag blocks) (range_with_len 0 (piece_count blocks))
    (λ i d less.
    let k = get_or (range_with_len 0 (piece_count blocks)) i d in
    λ j low.
    let few : k < 128 = omega arith in
    piece-inside memory layout tag k (piece_place layout tag k) 4096 held lt few (omega arith) (omega arith) j (omega arith))

lengths : (layout : Layout) (tag blocks s n : ℕ) → 512 * blocks - 4096 * s ≤ 4096 * n
    → bytes_in (map (piece_at layout tag blocks) (range_with_len s n)) ≡ 512 * blocks - 4096 * s
lengths layout tag blocks s zero h = omega arith
lengths layout tag blocks s (suc n) h =
    let rest = lengths layout tag blocks (s + 1) n (omega arith) in
    let step : bytes_in (map (piece_at layout tag blocks) (range_with_len s (suc n)))
    ≡ min 4096 (512 * blocks - 4096 * s) + bytes_in (map (piece_at layout tag blocks) (range_with_len (s + 1) n)) = sum_by-cons (λ (piece : Piece). piece.len) (piece_at layout tag blocks s) (map (piece_at layout tag blocks) (range_with_len (s + 1) n)) in
    omega (arith, step, rest)

pub pieces-length : (layout : Layout) (tag blocks : ℕ) → bytes_in (tag_pieces layout tag blocks) ≡ 512 * blocks
unfolding tag_pieces
pieces-length layout tag blocks =
    let all : 512 * blocks - 4096 * 0 ≡ 512 * blocks = omega arith in
    lengths layout tag blocks 0 (piece_count blocks) (omega arith) ∙ all

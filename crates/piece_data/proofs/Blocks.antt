-- Where no two pieces have a byte in common, a write changes just its bytes of the data.
use Rattle.std.proofs.Common.{◌≡◌, ◌≢◌, ℕ, suc, ◌+◌, ◌-◌, ◌*◌, ◌<◌, ◌≤◌, inl, inr, List, [], ◌∷◌, ◌++◌, length, take, drop, min, refl, sym, ap, ◌∙◌, arith, length-drop}
use Rattle.std.specs.Prelude.{All}
use Rattle.std.proofs.lemmas.Bool.{cases_lt}
use Rattle.std.proofs.lemmas.List.{length-take}
use Rattle.std.proofs.lemmas.List.Elements.{All-head, All-tail}
use Rattle.host_mem.specs.Memory.{Memory, HasRange, bytes_of, with_bytes}
use Rattle.host_mem.proofs.MemoryLaws.{between_ends, length-bytes_of, with_bytes-range}
use Rattle.storage_model.specs.declared.block.Block.{Block}
use Rattle.cq_chain.specs.declared.pieces.Piece.{Piece}
use Rattle.cq_chain.specs.Descriptors.{AreInside, bytes_in}
use Rattle.piece_data.specs.Data.{bytes_at, block_of, parts, scatter, with_block}
use Rattle.piece_data.specs.Laws.{HasSameSpace, IsApart, AreApart, KeepsOthers, ChangesBlock}
use Rattle.piece_data.proofs.Ranges.{with_bytes-none}
use Rattle.piece_data.proofs.Bytes.{inside-first, inside-others, length-bytes_at}
use Rattle.piece_data.proofs.Writing.{range-within, inside-written}
use Rattle.piece_data.proofs.Kept.{written-apart, scatter-space, scatter-others, parts-inside, parts-apart}
use Rattle.piece_data.proofs.Over.{put_over, put_over-none, joined-over, drop-over, take-put_over, append-over, over-this, over-behind, over-before}

-- a write within a range
over-piece : (memory : Memory) (at len skip : ℕ) (bytes : List ℕ) → HasRange memory at len → length bytes ≤ len - skip
    → bytes_of (with_bytes memory (at + skip) bytes) at len ≡ put_over (bytes_of memory at len) skip bytes
unfolding bytes_of with_bytes
over-piece memory at len skip [] range h =
    ap (λ (m : Memory). bytes_of m at len) (with_bytes-none memory (at + skip)) ∙ sym (put_over-none (bytes_of memory at len) skip)
over-piece memory at len skip (x ∷ bytes) range h =
    let some : 0 < len = omega arith in
    let ends = between_ends memory at len some range in
    let p = at - memory.base in
    let place = at + skip - memory.base in
    ap (λ l. take len (drop p l)) (joined-over memory.bytes place (x ∷ bytes) (omega (arith, ends.low, ends.high)))
    ∙ ap (take len) (drop-over memory.bytes p skip place (x ∷ bytes) (omega (arith, ends.low)))
    ∙ take-put_over (drop p memory.bytes) len skip (x ∷ bytes) (omega arith)

-- a write within a piece leaves the pieces that are apart from it
pieces-kept : (memory : Memory) (piece : Piece) (skip : ℕ) (bytes : List ℕ) (ps : List Piece) → HasRange memory (piece.at + skip) (length bytes)
    → length bytes ≤ piece.len - skip → AreInside memory ps → All (IsApart piece) ps
    → bytes_at (with_bytes memory (piece.at + skip) bytes) ps ≡ bytes_at memory ps
unfolding bytes_at
pieces-kept memory piece skip bytes [] range h inside apart = refl
pieces-kept memory piece skip bytes (p ∷ ps) range h inside apart =
    let whole = All-head (IsApart piece) p ps apart in
    let first : bytes_of (with_bytes memory (piece.at + skip) bytes) p.at p.len ≡ bytes_of memory p.at p.len =
    written-apart memory (piece.at + skip) p.at p.len bytes range (inside-first memory p ps inside)
    (λ i j lt less e. whole (skip + j) i (omega arith) lt (omega arith)) in
    let others = pieces-kept memory piece skip bytes ps range h (inside-others memory p ps inside) (All-tail (IsApart piece) p ps apart) in
    ap (λ l. l ++ bytes_at (with_bytes memory (piece.at + skip) bytes) ps) first ∙ ap (λ l. bytes_of memory p.at p.len ++ l) others

apart-first : (p : Piece) (ps : List Piece) → AreApart (p ∷ ps) → All (IsApart p) ps
apart-first p ps apart = λ k d lt. apart 0 (suc k) d (omega arith) (omega arith)

apart-others : (p : Piece) (ps : List Piece) → AreApart (p ∷ ps) → AreApart ps
apart-others p ps apart = λ i j d lt less. apart (suc i) (suc j) d (omega arith) (omega arith)

pub data-over : (memory : Memory) (ps : List Piece) (first n : ℕ) (bytes : List ℕ) → AreInside memory ps → AreApart ps → n ≡ length bytes
    → bytes_at (scatter memory (parts ps first n) bytes) ps ≡ put_over (bytes_at memory ps) first bytes
unfolding bytes_at parts scatter
data-over memory [] first n bytes inside apart e = refl
data-over memory (p ∷ ps) first n bytes inside apart e =
    let c = min (p.len - first) n in
    let part = take c bytes in
    let behind = drop c bytes in
    let len : length part ≡ c = omega (arith, length-take c bytes) in
    let range : HasRange memory p.at p.len = inside-first memory p ps inside in
    let inner : HasRange memory (p.at + first) (length part) = range-within memory p.at p.len first (length part) range (omega arith) in
    let next = with_bytes memory (p.at + first) part in
    let still : AreInside next ps = inside-written memory (p.at + first) part ps inner (inside-others memory p ps inside) in
    let others = parts ps (first - p.len) (n - (p.len - first)) in
    let last = scatter next others behind in
    let heads = apart-first p ps apart in
    let kept : bytes_of last p.at p.len ≡ bytes_of next p.at p.len =
    scatter-others next others behind (parts-inside next ps (first - p.len) (n - (p.len - first)) still) p
    (with_bytes-range memory (p.at + first) part inner p.at p.len range)
    (parts-apart p ps (first - p.len) (n - (p.len - first)) heads) in
    let this : bytes_of next p.at p.len ≡ put_over (bytes_of memory p.at p.len) first part =
    over-piece memory p.at p.len first part range (omega arith) in
    let rest : bytes_at last ps ≡ put_over (bytes_at next ps) (first - p.len) behind =
    data-over next ps (first - p.len) (n - (p.len - first)) behind still (apart-others p ps apart) (omega (arith, length-drop c bytes)) in
    let same : bytes_at next ps ≡ bytes_at memory ps =
    pieces-kept memory p first part ps inner (omega arith) (inside-others memory p ps inside) heads in
    let whole : length (bytes_of memory p.at p.len) ≡ p.len = length-bytes_of memory p.at p.len range in
    let joined = append-over (bytes_of memory p.at p.len) (bytes_at memory ps) first bytes in
    ap (λ l. l ++ bytes_at last ps) (kept ∙ this)
    ∙ ap (λ l. put_over (bytes_of memory p.at p.len) first part ++ l) (rest ∙ ap (λ l. put_over l (first - p.len) behind) same)
    ∙ ap (λ m. put_over (bytes_of memory p.at p.len) first (take (min (m - first) n) bytes) ++ put_over (bytes_at memory ps) (first - m) (drop (min (m - first) n) bytes)) (sym whole)
    ∙ ap (λ m. put_over (bytes_of memory p.at p.len) first (take (min (length (bytes_of memory p.at p.len) - first) m) bytes)
    ++ put_over (bytes_at memory ps) (first - length (bytes_of memory p.at p.len)) (drop (min (length (bytes_of memory p.at p.len) - first) m) bytes)) e
    ∙ sym joined

abbrev made : List ℕ → Block
made bytes = record { 0 = bytes }

this_block : (whole bytes : List ℕ) (k : ℕ) → length bytes ≡ 512 → 512 * (k + 1) ≤ length whole
    → take 512 (drop (512 * k) (put_over whole (512 * k) bytes)) ≡ bytes
this_block whole bytes k long h =
    ap (λ n. take n (drop (512 * k) (put_over whole (512 * k) bytes))) (sym long)
    ∙ over-this whole (512 * k) bytes (omega arith)

other_block : (whole bytes : List ℕ) (k j : ℕ) → length bytes ≡ 512 → j ≢ k
    → take 512 (drop (512 * j) (put_over whole (512 * k) bytes)) ≡ take 512 (drop (512 * j) whole)
other_block whole bytes k j long other = elim (cases_lt j k) [
  | inl before ↦ over-before whole (512 * k) bytes (512 * j) 512 (omega arith)
  | inr behind ↦ ap (take 512) (over-behind whole (512 * k) bytes (512 * j) (omega arith))
]

pub blocks-changed : (memory : Memory) (ps : List Piece) (k : ℕ) (block : Block) → AreInside memory ps → 512 * (k + 1) ≤ bytes_in ps
    → length block.0 ≡ 512 → AreApart ps → ChangesBlock ps memory (with_block memory ps k block) k block
unfolding block_of with_block
blocks-changed memory ps k block inside h long apart =
    let over = data-over memory ps (512 * k) 512 block.0 inside apart (sym long) in
    let enough : 512 * (k + 1) ≤ length (bytes_at memory ps) = rw (length-bytes_at memory ps inside) h in
    record {
      this = ap (λ l. made (take 512 (drop (512 * k) l))) over ∙ ap made (this_block (bytes_at memory ps) block.0 k long enough);
      others = λ j other. ap (λ l. made (take 512 (drop (512 * j) l))) over ∙ ap made (other_block (bytes_at memory ps) block.0 k j long other);
    }

pub block-space : (memory : Memory) (ps : List Piece) (k : ℕ) (block : Block) → AreInside memory ps → HasSameSpace memory (with_block memory ps k block)
unfolding with_block
block-space memory ps k block inside = scatter-space memory (parts ps (512 * k) 512) block.0 (parts-inside memory ps (512 * k) 512 inside)

pub block-others : (memory : Memory) (ps : List Piece) (k : ℕ) (block : Block) → AreInside memory ps
    → KeepsOthers (parts ps (512 * k) 512) memory (with_block memory ps k block)
unfolding with_block
block-others memory ps k block inside = scatter-others memory (parts ps (512 * k) 512) block.0 (parts-inside memory ps (512 * k) 512 inside)

-- The loop that writes: what it has still to write makes of the memory what the whole write makes.
use Rattle.std.proofs.Common.{◌≡◌, ℕ, ◌+◌, ◌-◌, ◌<◌, ◌≤◌, List, [], ◌∷◌, length, get_or, take, drop, min, refl, sym, ap, ◌∙◌, arith, length-drop}
use Rattle.std.proofs.lemmas.List.{drop_all, drop-drop, length-take}
use Rattle.host_mem.specs.Memory.{Memory, HasRange, with_bytes}
use Rattle.host_mem.proofs.MemoryLaws.{with_bytes-range}
use Rattle.cq_chain.specs.declared.pieces.Piece.{Piece}
use Rattle.cq_chain.specs.Descriptors.{AreInside, bytes_in}
use Rattle.piece_data.specs.Data.{parts, scatter}
use Rattle.piece_data.proofs.Bytes.{inside-at, next_pieces, bytes_in-next}

-- before piece i, with `done` bytes written and `skip` bytes of the pieces from i on to skip
pub record HasWritten (old new : Memory) (pieces : List Piece) (first : ℕ) (from : List ℕ) (i done skip : ℕ) : Type 0 where
  pub within : done ≤ length from
  pub left : skip + (length from - done) ≤ bytes_in (drop i pieces)
  pub inside : AreInside new pieces
  pub so_far : scatter new (parts (drop i pieces) skip (length from - done)) (drop done from)
      ≡ scatter old (parts pieces first (length from)) from

pub write-start : (memory : Memory) (pieces : List Piece) (first : ℕ) (from : List ℕ) → AreInside memory pieces
    → first + length from ≤ bytes_in pieces → HasWritten memory memory pieces first from 0 0 first
write-start memory pieces first from inside h = record {
  within = omega arith;
  left = omega arith;
  inside = inside;
  so_far = ap (λ n. scatter memory (parts pieces first n) from) (omega arith);
}

pub write-end : (old new : Memory) (pieces : List Piece) (first : ℕ) (from : List ℕ) (i done skip : ℕ)
    → HasWritten old new pieces first from i done skip → length pieces ≤ i → new ≡ scatter old (parts pieces first (length from)) from
unfolding parts scatter
write-end old new pieces first from i done skip written h =
    let none : drop i pieces ≡ [] = drop_all i pieces h in
    sym (ap (λ ps. scatter new (parts ps skip (length from - done)) (drop done from)) none) ∙ written.so_far

-- a part of a range of the memory
pub range-within : (memory : Memory) (at len skip count : ℕ) → HasRange memory at len → count ≤ len - skip → HasRange memory (at + skip) count
range-within memory at len skip count range h k lt =
    let whole = range (skip + k) (omega arith) in
    (omega (arith, whole.0), omega (arith, whole.1))

pub inside-written : (memory : Memory) (at : ℕ) (bytes : List ℕ) (pieces : List Piece) → HasRange memory at (length bytes)
    → AreInside memory pieces → AreInside (with_bytes memory at bytes) pieces
inside-written memory at bytes pieces range inside = λ k d lt. with_bytes-range memory at bytes range _ _ (inside k d lt)

pub write-more : (old new after : Memory) (pieces : List Piece) (first : ℕ) (from part : List ℕ) (i done skip count : ℕ) (d piece : Piece)
    → HasWritten old new pieces first from i done skip
    → i < length pieces → piece ≡ get_or pieces i d
    → count ≡ min (piece.len - skip) (length from - done)
    → part ≡ take count (drop done from)
    → after ≡ with_bytes new (piece.at + skip) part
    → HasWritten old after pieces first from (i + 1) (done + count) (skip - piece.len)
unfolding parts scatter
write-more old new after pieces first from part i done skip count d piece written lt is c p a =
    let n = length from - done in
    let rest = drop (i + 1) pieces in
    let ys = drop done from in
    let part_len : length part ≡ count = ap length p ∙ omega (arith, length-take count ys, length-drop done from, written.within) in
    let range : HasRange new piece.at piece.len = inside-at new pieces i d piece written.inside lt is in
    let part_range : HasRange new (piece.at + skip) (length part) = range-within new piece.at piece.len skip (length part) range (omega arith) in
    let n_is : n - (piece.len - skip) ≡ length from - (done + count) = omega arith in
    let step : scatter new (parts (piece ∷ rest) skip n) ys
    ≡ scatter (with_bytes new (piece.at + skip) (take (min (piece.len - skip) n) ys)) (parts rest (skip - piece.len) (n - (piece.len - skip)))
    (drop (min (piece.len - skip) n) ys) = refl in
    let next : scatter (with_bytes new (piece.at + skip) (take count ys)) (parts rest (skip - piece.len) (length from - (done + count))) (drop count ys)
    ≡ scatter new (parts (piece ∷ rest) skip n) ys =
    ap (λ m. scatter (with_bytes new (piece.at + skip) (take m ys)) (parts rest (skip - piece.len) (length from - (done + count))) (drop m ys)) c
    ∙ ap (λ m. scatter (with_bytes new (piece.at + skip) (take (min (piece.len - skip) n) ys)) (parts rest (skip - piece.len) m) (drop (min (piece.len - skip) n) ys)) (sym n_is) in
    record {
      within = omega (arith, written.within);
      left = omega (arith, written.left, written.within, bytes_in-next pieces i d piece lt is);
      inside = rw a (inside-written new (piece.at + skip) part pieces part_range written.inside);
      so_far =
          ap (λ m. scatter m (parts rest (skip - piece.len) (length from - (done + count))) (drop (done + count) from)) (a ∙ ap (with_bytes new (piece.at + skip)) p)
          ∙ ap (λ l. scatter (with_bytes new (piece.at + skip) (take count ys)) (parts rest (skip - piece.len) (length from - (done + count))) l) (sym (drop-drop count done from))
          ∙ next
          ∙ ap (λ ps. scatter new (parts ps skip n) ys) (sym (next_pieces pieces i d piece lt is))
          ∙ written.so_far;
    }

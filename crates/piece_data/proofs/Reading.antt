-- The loop that reads: what it has and what it has still to read are what is wanted.
use Rattle.std.proofs.Common.{◌≡◌, ℕ, ◌+◌, ◌-◌, ◌<◌, ◌≤◌, List, [], ◌++◌, length, get_or, take, drop, min, refl, sym, ap, ◌∙◌, arith, append_assoc}
use Rattle.std.proofs.lemmas.List.{take_all, drop_all, append-nil}
use Rattle.host_mem.specs.Memory.{Memory, HasRange, bytes_of}
use Rattle.host_mem.proofs.MemoryLaws.{length-bytes_of}
use Rattle.cq_chain.specs.declared.pieces.Piece.{Piece}
use Rattle.cq_chain.specs.Descriptors.{AreInside, bytes_in}
use Rattle.piece_data.specs.Data.{bytes_at}
use Rattle.piece_data.proofs.Ranges.{bytes_of-within}
use Rattle.piece_data.proofs.Bytes.{bytes_at-cons, next_pieces, bytes_in-next, take-over, inside-at}

-- before piece i, with `done` bytes read and `skip` bytes of the pieces from i on to skip
pub record HasRead (memory : Memory) (pieces : List Piece) (first : ℕ) (to : List ℕ) (i done skip : ℕ) : Type 0 where
  pub within : done ≤ length to
  pub left : skip + (length to - done) ≤ bytes_in (drop i pieces)
  pub so_far : take done to ++ take (length to - done) (drop skip (bytes_at memory (drop i pieces)))
      ≡ take (length to) (drop first (bytes_at memory pieces))

pub read-start : (memory : Memory) (pieces : List Piece) (first : ℕ) (to : List ℕ) → first + length to ≤ bytes_in pieces
    → HasRead memory pieces first to 0 0 first
read-start memory pieces first to h = record { within = omega arith; left = omega arith; so_far = ap (λ n. take n (drop first (bytes_at memory pieces))) (omega arith) }

pub read-end : (memory : Memory) (pieces : List Piece) (first : ℕ) (to : List ℕ) (i done skip : ℕ)
    → HasRead memory pieces first to i done skip → length pieces ≤ i → to ≡ take (length to) (drop first (bytes_at memory pieces))
read-end memory pieces first to i done skip read h =
    let none : drop i pieces ≡ [] = drop_all i pieces h in
    let left : skip + (length to - done) ≤ 0 = rw none at read.left in
    let all : done ≡ length to = omega (arith, read.within) in
    let rest : length to - done ≡ 0 = omega arith in
    let so_far = read.so_far in
    sym (ap (λ n. take n to ++ take (length to - done) (drop skip (bytes_at memory (drop i pieces)))) all
    ∙ ap (λ n. take (length to) to ++ take n (drop skip (bytes_at memory (drop i pieces)))) rest
    ∙ append-nil (take (length to) to)
    ∙ take_all (length to) to (omega arith))
    ∙ so_far

pub read-more : (memory : Memory) (pieces : List Piece) (first : ℕ) (to after part : List ℕ) (i done skip count : ℕ) (d piece : Piece)
    → AreInside memory pieces → HasRead memory pieces first to i done skip
    → i < length pieces → piece ≡ get_or pieces i d
    → count ≡ min (piece.len - skip) (length to - done)
    → part ≡ bytes_of memory (piece.at + skip) count
    → take (done + count) after ≡ take done to ++ part
    → length after ≡ length to
    → HasRead memory pieces first after (i + 1) (done + count) (skip - piece.len)
read-more memory pieces first to after part i done skip count d piece inside read lt is c p front same =
    let n = length to - done in
    let rest = drop (i + 1) pieces in
    let range : HasRange memory piece.at piece.len = inside-at memory pieces i d piece inside lt is in
    let whole = bytes_of memory piece.at piece.len in
    let len : length whole ≡ piece.len = length-bytes_of memory piece.at piece.len range in
    let some : count ≤ piece.len - skip = omega arith in
    let part_is : part ≡ take count (drop skip whole) = p ∙ bytes_of-within memory piece.at piece.len skip count range some in
    let n_is : n - (length whole - skip) ≡ length after - (done + count) = omega arith in
    let c_is : min (length whole - skip) n ≡ count = rw len (sym c) in
    let s_is : skip - length whole ≡ skip - piece.len = rw len refl in
    let split : take n (drop skip (bytes_at memory (drop i pieces))) ≡ part ++ take (length after - (done + count)) (drop (skip - piece.len) (bytes_at memory rest)) =
    ap (λ ps. take n (drop skip (bytes_at memory ps))) (next_pieces pieces i d piece lt is)
    ∙ ap (λ l. take n (drop skip l)) (bytes_at-cons memory piece rest)
    ∙ take-over n skip whole (bytes_at memory rest)
    ∙ ap (λ k. take k (drop skip whole) ++ take (n - (length whole - skip)) (drop (skip - length whole) (bytes_at memory rest))) c_is
    ∙ ap (λ l. l ++ take (n - (length whole - skip)) (drop (skip - length whole) (bytes_at memory rest))) (sym part_is)
    ∙ ap (λ k. part ++ take k (drop (skip - length whole) (bytes_at memory rest))) n_is
    ∙ ap (λ k. part ++ take (length after - (done + count)) (drop k (bytes_at memory rest))) s_is in
    record {
      within = omega (arith, read.within);
      left = omega (arith, read.left, read.within, bytes_in-next pieces i d piece lt is);
      so_far =
          ap (λ l. l ++ take (length after - (done + count)) (drop (skip - piece.len) (bytes_at memory rest))) front
          ∙ append_assoc (take done to) part (take (length after - (done + count)) (drop (skip - piece.len) (bytes_at memory rest)))
          ∙ ap (λ l. take done to ++ l) (sym split)
          ∙ read.so_far
          ∙ ap (λ k. take k (drop first (bytes_at memory pieces))) (sym same);
    }

-- The data of pieces, piece by piece.
use Rattle.std.proofs.Common.{◌≡◌, ℕ, zero, suc, ◌+◌, ◌-◌, ◌<◌, List, [], ◌∷◌, ◌++◌, length, get_or, take, drop, min, refl, sym, ap, subst, ◌∙◌, arith, length-append}
use Rattle.std.proofs.lemmas.List.{drop_more}
use Rattle.std.proofs.lemmas.List.Sums.{sum_by-cons}
use Rattle.std.proofs.lemmas.List.Elements.{All-head, All-tail}
use Rattle.host_mem.specs.Memory.{Memory, HasRange, bytes_of}
use Rattle.host_mem.proofs.MemoryLaws.{length-bytes_of}
use Rattle.cq_chain.specs.declared.pieces.Piece.{Piece}
use Rattle.cq_chain.specs.Descriptors.{AreInside, bytes_in}
use Rattle.piece_data.specs.Data.{bytes_at}

pub bytes_at-cons : (memory : Memory) (piece : Piece) (pieces : List Piece)
    → bytes_at memory (piece ∷ pieces) ≡ bytes_of memory piece.at piece.len ++ bytes_at memory pieces
unfolding bytes_at
bytes_at-cons memory piece pieces = refl

pub inside-first : (memory : Memory) (piece : Piece) (pieces : List Piece) → AreInside memory (piece ∷ pieces)
    → HasRange memory piece.at piece.len
inside-first memory piece pieces inside = All-head (λ (p : Piece). HasRange memory p.at p.len) piece pieces inside

pub inside-others : (memory : Memory) (piece : Piece) (pieces : List Piece) → AreInside memory (piece ∷ pieces) → AreInside memory pieces
inside-others memory piece pieces inside = All-tail (λ (p : Piece). HasRange memory p.at p.len) piece pieces inside

pub bytes_in-cons : (piece : Piece) (pieces : List Piece) → bytes_in (piece ∷ pieces) ≡ piece.len + bytes_in pieces
bytes_in-cons piece pieces = sum_by-cons (λ (p : Piece). p.len) piece pieces

pub length-bytes_at : (memory : Memory) (pieces : List Piece) → AreInside memory pieces → length (bytes_at memory pieces) ≡ bytes_in pieces
unfolding bytes_at
length-bytes_at memory [] inside = refl
length-bytes_at memory (piece ∷ pieces) inside =
    let first = length-bytes_of memory piece.at piece.len (inside-first memory piece pieces inside) in
    let others = length-bytes_at memory pieces (inside-others memory piece pieces inside) in
    let joined = length-append (bytes_of memory piece.at piece.len) (bytes_at memory pieces) in
    joined ∙ ap (λ n. n + length (bytes_at memory pieces)) first ∙ ap (λ n. piece.len + n) others ∙ sym (bytes_in-cons piece pieces)

pub inside-at : (memory : Memory) (pieces : List Piece) (i : ℕ) (d piece : Piece) → AreInside memory pieces → i < length pieces
    → piece ≡ get_or pieces i d → HasRange memory piece.at piece.len
inside-at memory pieces i d piece inside lt is =
    let P : Piece → Type 0 = λ p. HasRange memory p.at p.len in
    subst P (sym is) (inside i d lt)

-- the pieces from one on
pub next_pieces : (pieces : List Piece) (i : ℕ) (d piece : Piece) → i < length pieces → piece ≡ get_or pieces i d
    → drop i pieces ≡ piece ∷ drop (i + 1) pieces
next_pieces pieces i d piece lt is =
    drop_more pieces i d lt ∙ ap (λ (p : Piece). p ∷ drop (i + 1) pieces) (sym is)

pub bytes_in-next : (pieces : List Piece) (i : ℕ) (d piece : Piece) → i < length pieces → piece ≡ get_or pieces i d
    → bytes_in (drop i pieces) ≡ piece.len + bytes_in (drop (i + 1) pieces)
bytes_in-next pieces i d piece lt is = ap bytes_in (next_pieces pieces i d piece lt is) ∙ bytes_in-cons piece (drop (i + 1) pieces)

-- bytes of two lists one after the other
pub take-over : (n skip : ℕ) (xs ys : List ℕ) → take n (drop skip (xs ++ ys))
    ≡ take (min (length xs - skip) n) (drop skip xs) ++ take (n - (length xs - skip)) (drop (skip - length xs) ys)
take-over n zero [] ys = let a : min 0 n ≡ 0 = omega arith in let b : n - 0 ≡ n = omega arith in rw (a, b) refl
take-over n (suc skip) [] ys =
    let a : min (0 - suc skip) n ≡ 0 = omega arith in
    let b : n - (0 - suc skip) ≡ n = omega arith in
    let c : suc skip - 0 ≡ suc skip = omega arith in
    rw (a, b, c) refl
take-over n (suc skip) (x ∷ xs) ys =
    let a : suc (length xs) - suc skip ≡ length xs - skip = omega arith in
    let c : suc skip - suc (length xs) ≡ skip - length xs = omega arith in
    rw (a, c) (take-over n skip xs ys)
take-over zero zero (x ∷ xs) ys =
    let a : min (suc (length xs) - 0) 0 ≡ 0 = omega arith in
    let b : 0 - (suc (length xs) - 0) ≡ 0 = omega arith in
    rw (a, b) refl
take-over (suc n) zero (x ∷ xs) ys =
    let a : min (suc (length xs) - 0) (suc n) ≡ suc (min (length xs - 0) n) = omega arith in
    let b : suc n - (suc (length xs) - 0) ≡ n - (length xs - 0) = omega arith in
    let c : 0 - suc (length xs) ≡ 0 - length xs = omega arith in
    rw (a, b, c) (ap (λ l. x ∷ l) (take-over n zero xs ys))

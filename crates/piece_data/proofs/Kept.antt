-- What a write into parts keeps: the addresses, and the bytes of the ranges apart from them.
use Rattle.std.proofs.Common.{◌≡◌, ◌≢◌, ℕ, zero, suc, ◌+◌, ◌-◌, ◌<◌, ◌≤◌, ◌⊎◌, inl, inr, List, [], ◌∷◌, length, take, drop, min, refl, ap, ◌∙◌, arith}
use Rattle.std.specs.Prelude.{All}
use Rattle.std.proofs.lemmas.Bool.{cases_lt}
use Rattle.std.proofs.lemmas.List.{length-take}
use Rattle.std.proofs.lemmas.List.Elements.{All-nil, All-head, All-tail, All-cons}
use Rattle.host_mem.specs.Memory.{Memory, HasRange, bytes_of, with_bytes}
use Rattle.host_mem.proofs.MemoryLaws.{with_bytes-base, with_bytes-length, with_bytes-range, bytes_of-with_bytes_apart}
use Rattle.cq_chain.specs.declared.pieces.Piece.{Piece}
use Rattle.cq_chain.specs.Descriptors.{AreInside}
use Rattle.piece_data.specs.Data.{parts, scatter}
use Rattle.piece_data.specs.Laws.{HasSameSpace, IsApart, KeepsOthers}
use Rattle.piece_data.proofs.Ranges.{with_bytes-none}
use Rattle.piece_data.proofs.Bytes.{inside-first, inside-others}
use Rattle.piece_data.proofs.Writing.{range-within, inside-written}

-- ranges that have no byte in common lie one after the other
pub one_after_other : (at len start n : ℕ) → 0 < len → 0 < n → ((i j : ℕ) → i < n → j < len → start + i ≢ at + j)
    → (at + len ≤ start) ⊎ (start + n ≤ at)
one_after_other at len start n some also apart = elim (cases_lt start (at + len)) [
  | inr above ↦ inl above
  | inl below ↦ elim (cases_lt at (start + n)) [
    | inr under ↦ inr under
    | inl over ↦ elim (cases_lt start at) [
      | inl before ↦ absurd (apart (at - start) 0 (omega arith) some (omega arith))
      | inr behind ↦ absurd (apart 0 (start - at) also (omega arith) (omega arith))
    ]
  ]
]

pub written-apart : (memory : Memory) (at start n : ℕ) (bytes : List ℕ) → HasRange memory at (length bytes) → HasRange memory start n
    → ((i j : ℕ) → i < n → j < length bytes → start + i ≢ at + j)
    → bytes_of (with_bytes memory at bytes) start n ≡ bytes_of memory start n
unfolding bytes_of
written-apart memory at start zero bytes range other apart = refl
written-apart memory at start (suc n) [] range other apart = ap (λ (m : Memory). bytes_of m start (suc n)) (with_bytes-none memory at)
written-apart memory at start (suc n) (x ∷ bytes) range other apart =
    bytes_of-with_bytes_apart memory at (x ∷ bytes) start (suc n) range other
    (one_after_other at (length (x ∷ bytes)) start (suc n) (omega arith) (omega arith) apart)

short-take : (k : ℕ) (bytes : List ℕ) → length (take k bytes) ≤ k
short-take k bytes = omega (arith, length-take k bytes)

pub first-range : (memory : Memory) (part : Piece) (others : List Piece) (bytes : List ℕ) → AreInside memory (part ∷ others)
    → HasRange memory part.at (length (take part.len bytes))
first-range memory part others bytes inside k lt =
    inside-first memory part others inside k (omega (arith, short-take part.len bytes))

pub scatter-space : (memory : Memory) (ps : List Piece) (bytes : List ℕ) → AreInside memory ps → HasSameSpace memory (scatter memory ps bytes)
unfolding scatter
scatter-space memory [] bytes inside = record { base = refl; size = refl }
scatter-space memory (p ∷ ps) bytes inside =
    let part = take p.len bytes in
    let range : HasRange memory p.at (length part) = first-range memory p ps bytes inside in
    let next = with_bytes memory p.at part in
    let still = inside-written memory p.at part ps range (inside-others memory p ps inside) in
    let space = scatter-space next ps (drop p.len bytes) still in
    record { base = space.base ∙ with_bytes-base memory p.at part; size = space.size ∙ with_bytes-length memory p.at part range }

pub scatter-others : (memory : Memory) (ps : List Piece) (bytes : List ℕ) → AreInside memory ps → KeepsOthers ps memory (scatter memory ps bytes)
unfolding scatter
scatter-others memory [] bytes inside = λ range has apart. refl
scatter-others memory (p ∷ ps) bytes inside = λ range has apart.
    let part = take p.len bytes in
    let inner : HasRange memory p.at (length part) = first-range memory p ps bytes inside in
    let next = with_bytes memory p.at part in
    let still = inside-written memory p.at part ps inner (inside-others memory p ps inside) in
    let first = All-head (IsApart range) p ps apart in
    scatter-others next ps (drop p.len bytes) still range (with_bytes-range memory p.at part inner range.at range.len has) (All-tail (IsApart range) p ps apart)
    ∙ written-apart memory p.at range.at range.len part inner has (λ i j lt less. first i j lt (omega (arith, short-take p.len bytes)))

pub parts-inside : (memory : Memory) (ps : List Piece) (first len : ℕ) → AreInside memory ps → AreInside memory (parts ps first len)
unfolding parts
parts-inside memory [] first len inside = All-nil (λ (p : Piece). HasRange memory p.at p.len)
parts-inside memory (p ∷ ps) first len inside =
    All-cons (λ (q : Piece). HasRange memory q.at q.len) (record { at = p.at + first; len = min (p.len - first) len }) (parts ps (first - p.len) (len - (p.len - first)))
    (range-within memory p.at p.len first (min (p.len - first) len) (inside-first memory p ps inside) (omega arith))
    (parts-inside memory ps (first - p.len) (len - (p.len - first)) (inside-others memory p ps inside))

pub parts-apart : (range : Piece) (ps : List Piece) (first len : ℕ) → All (IsApart range) ps → All (IsApart range) (parts ps first len)
unfolding parts
parts-apart range [] first len apart = All-nil (IsApart range)
parts-apart range (p ∷ ps) first len apart =
    let whole = All-head (IsApart range) p ps apart in
    All-cons (IsApart range) (record { at = p.at + first; len = min (p.len - first) len }) (parts ps (first - p.len) (len - (p.len - first)))
    (λ i j lt less e. whole i (first + j) lt (omega arith) (omega arith))
    (parts-apart range ps (first - p.len) (len - (p.len - first)) (All-tail (IsApart range) p ps apart))

-- what is in a memory is in one of the same space
pub range-same_space : (old new : Memory) (at len : ℕ) → HasSameSpace old new → HasRange old at len → HasRange new at len
range-same_space old new at len space range k lt =
    let has = range k lt in
    (omega (arith, has.0, space.base), omega (arith, has.1, space.base, space.size))

pub inside-same_space : (old new : Memory) (ps : List Piece) → HasSameSpace old new → AreInside old ps → AreInside new ps
inside-same_space old new ps space inside = λ k d lt. range-same_space old new _ _ space (inside k d lt)

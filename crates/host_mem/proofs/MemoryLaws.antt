-- The laws of a memory: what is written is read, and the bytes elsewhere stay.
use Rattle.std.proofs.Common.{◌≡◌, ℕ, zero, suc, ◌+◌, ◌-◌, ◌<◌, ◌≤◌, ◌⊎◌, inl, inr, List, [], ◌∷◌, ◌++◌, length, take, drop, refl, sym, ap, ◌∙◌, arith, append_assoc, length-append, length-drop}
use Rattle.std.proofs.lemmas.List.{drop-append-le, take-append-le, drop_all, length-take, take-append-drop, drop-drop}
use Rattle.std.proofs.lemmas.Slice.{drop-append-drop}
use Rattle.host_mem.specs.Memory.{Memory, HasRange, bytes_of, with_bytes}
use Rattle.host_mem.proofs.Copies.{part, rejoined}

-- a range that isn't empty lies between the ends
pub record IsBetween (memory : Memory) (at len : ℕ) : Type 0 where
  pub low : memory.base ≤ at
  pub high : at + len ≤ memory.base + length memory.bytes

pub between_ends : (memory : Memory) (at len : ℕ) → 0 < len → HasRange memory at len → IsBetween memory at len
between_ends memory at len some range =
    let first = range 0 some in
    let before : len - 1 < len = omega arith in
    let last = range (len - 1) before in
    record { low = omega (arith, first.0); high = omega (arith, last.1) }

pub range_between : (memory : Memory) (at len : ℕ) → IsBetween memory at len → HasRange memory at len
range_between memory at len between k lt = (omega (arith, between.low), omega (arith, between.high))

pub with_bytes-base : (memory : Memory) (at : ℕ) (from : List ℕ) → (with_bytes memory at from).base ≡ memory.base
unfolding with_bytes
with_bytes-base memory at from = refl

joined-length : (place : ℕ) (from bytes : List ℕ) → place + length from ≤ length bytes
    → length (take place bytes ++ (from ++ drop (place + length from) bytes)) ≡ length bytes
joined-length place from bytes h =
    omega (
      arith,
      length-append (take place bytes) (from ++ drop (place + length from) bytes),
      length-append from (drop (place + length from) bytes),
      length-take place bytes,
      length-drop (place + length from) bytes,
    )

pub with_bytes-length : (memory : Memory) (at : ℕ) (from : List ℕ) → HasRange memory at (length from)
    → length (with_bytes memory at from).bytes ≡ length memory.bytes
unfolding with_bytes
with_bytes-length memory at [] range = ap length (rejoined (at - memory.base) memory.bytes)
with_bytes-length memory at (x ∷ from) range =
    let some : 0 < length (x ∷ from) = omega arith in
    let ends = between_ends memory at (length (x ∷ from)) some range in
    joined-length (at - memory.base) (x ∷ from) memory.bytes (omega (arith, ends.low, ends.high))

-- the addresses stay
pub with_bytes-range : (memory : Memory) (at : ℕ) (from : List ℕ) → HasRange memory at (length from) → (start len : ℕ)
    → HasRange memory start len → HasRange (with_bytes memory at from) start len
with_bytes-range memory at from range start len other k lt =
    let b = with_bytes-base memory at from in
    let n = with_bytes-length memory at from range in
    let h = other k lt in
    (omega (arith, b, h.0), omega (arith, b, n, h.1))

pub length-bytes_of : (memory : Memory) (at len : ℕ) → HasRange memory at len → length (bytes_of memory at len) ≡ len
unfolding bytes_of
length-bytes_of memory at zero range = refl
length-bytes_of memory at (suc n) range =
    let some : 0 < suc n = omega arith in
    let ends = between_ends memory at (suc n) some range in
    omega (arith, ends.low, ends.high, length-take (suc n) (drop (at - memory.base) memory.bytes), length-drop (at - memory.base) memory.bytes)

seam : (place : ℕ) (bytes rest : List ℕ) → place ≤ length bytes → drop place (take place bytes ++ rest) ≡ rest
seam place bytes rest h =
    let whole : length (take place bytes) ≡ place = omega (arith, length-take place bytes) in
    let front : place ≤ length (take place bytes) = omega arith in
    let none : length (take place bytes) ≤ place = omega arith in
    drop-append-le place (take place bytes) rest front ∙ ap (λ ys. ys ++ rest) (drop_all place (take place bytes) none)

taken : (from rest : List ℕ) → take (length from) (from ++ rest) ≡ from
taken [] rest = refl
taken (x ∷ from) rest = ap (λ ys. x ∷ ys) (taken from rest)

-- what is written is read
pub bytes_of-with_bytes : (memory : Memory) (at : ℕ) (from : List ℕ) → HasRange memory at (length from)
    → bytes_of (with_bytes memory at from) at (length from) ≡ from
unfolding bytes_of with_bytes
bytes_of-with_bytes memory at [] range = refl
bytes_of-with_bytes memory at (x ∷ from) range =
    let some : 0 < length (x ∷ from) = omega arith in
    let ends = between_ends memory at (length (x ∷ from)) some range in
    let place = at - memory.base in
    ap (take (length (x ∷ from))) (seam place memory.bytes ((x ∷ from) ++ drop (place + length (x ∷ from)) memory.bytes) (omega (arith, ends.low, ends.high)))
    ∙ taken (x ∷ from) (drop (place + length (x ∷ from)) memory.bytes)

joined-above : (place q : ℕ) (from bytes : List ℕ) → place + length from ≤ q → place + length from ≤ length bytes
    → drop q (take place bytes ++ (from ++ drop (place + length from) bytes)) ≡ drop q bytes
joined-above place q from bytes h low =
    let whole : length (take place bytes ++ from) ≡ place + length from =
    omega (arith, length-append (take place bytes) from, length-take place bytes) in
    let e : (take place bytes ++ from) ++ drop (place + length from) bytes ≡ take place bytes ++ (from ++ drop (place + length from) bytes) =
    rw append_assoc in
    ap (drop q) (sym e) ∙ drop-append-drop (place + length from) bytes (take place bytes ++ from) q h whole

joined-below : (place q len : ℕ) (rest bytes : List ℕ) → q + len ≤ place → place ≤ length bytes
    → take len (drop q (take place bytes ++ rest)) ≡ take len (drop q bytes)
joined-below place q len rest bytes h low =
    let whole : length (take place bytes) ≡ place = omega (arith, length-take place bytes) in
    let front : q ≤ length (take place bytes) = omega arith in
    let enough : len ≤ length (drop q (take place bytes)) = omega (arith, length-drop q (take place bytes)) in
    ap (take len) (drop-append-le q (take place bytes) rest front)
    ∙ take-append-le len (drop q (take place bytes)) rest enough
    ∙ sym (take-append-le len (drop q (take place bytes)) (drop place bytes) enough)
    ∙ ap (take len) (sym (drop-append-le q (take place bytes) (drop place bytes) front) ∙ ap (drop q) (take-append-drop place bytes))

-- the bytes of a range apart from it stay
pub bytes_of-with_bytes_apart : (memory : Memory) (at : ℕ) (from : List ℕ) (start len : ℕ) → HasRange memory at (length from)
    → HasRange memory start len → (at + length from ≤ start) ⊎ (start + len ≤ at)
    → bytes_of (with_bytes memory at from) start len ≡ bytes_of memory start len
unfolding bytes_of with_bytes
bytes_of-with_bytes_apart memory at from start zero range other apart = refl
bytes_of-with_bytes_apart memory at [] start (suc n) range other apart =
    ap (λ bytes. take (suc n) (drop (start - memory.base) bytes)) (rejoined (at - memory.base) memory.bytes)
bytes_of-with_bytes_apart memory at (x ∷ from) start (suc n) range other apart =
    let some : 0 < length (x ∷ from) = omega arith in
    let ends = between_ends memory at (length (x ∷ from)) some range in
    let also : 0 < suc n = omega arith in
    let others = between_ends memory start (suc n) also other in
    let place = at - memory.base in
    elim apart [
      | inl above ↦ ap (take (suc n)) (joined-above place (start - memory.base) (x ∷ from) memory.bytes
          (omega (arith, ends.low, ends.high, others.low)) (omega (arith, ends.low, ends.high)))
      | inr below ↦ joined-below place (start - memory.base) (suc n) ((x ∷ from) ++ drop (place + length (x ∷ from)) memory.bytes) memory.bytes
          (omega (arith, ends.low, others.low)) (omega (arith, ends.low, ends.high))
    ]

-- a part of a range
pub bytes_of-part : (memory : Memory) (at len k n : ℕ) → memory.base ≤ at → k + n ≤ len
    → bytes_of memory (at + k) n ≡ take n (drop k (bytes_of memory at len))
unfolding bytes_of
bytes_of-part memory at len k n low h =
    let e : at + k - memory.base ≡ at - memory.base + k = omega arith in
    rw (part k n len (drop (at - memory.base) memory.bytes) h, drop-drop k (at - memory.base) memory.bytes, e)

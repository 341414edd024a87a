-- A byte written many times, one after the other.
use Rattle.std.proofs.Common.{◌≡◌, ℕ, zero, suc, ◌+◌, ◌-◌, ◌<◌, ◌≤◌, List, ◌∷◌, ◌++◌, length, take, drop, set, replicate, refl, sym, ap, ◌∙◌, arith, add-one, drop-cons}
use Rattle.std.proofs.lemmas.List.{length-replicate, length-take, set-append_right}
use Rattle.host_mem.specs.Memory.{HasByte, HasRange, Memory, with_byte, with_bytes}
use Rattle.piece_data.proofs.Ranges.{with_bytes-none}
use Rattle.host_mem.proofs.MemoryLaws.{IsBetween, between_ends, with_bytes-range}

abbrev made : ℕ → List ℕ → Memory
made base bytes = record { base = base; bytes = bytes }

pushed : (k v : ℕ) (rest : List ℕ) → replicate k v ++ (v ∷ rest) ≡ replicate (suc k) v ++ rest
pushed zero v rest = refl
pushed (suc k) v rest = ap (λ xs. v ∷ xs) (pushed k v rest)

set_first : (xs : List ℕ) (n v : ℕ) → n < length xs → set (drop n xs) 0 v ≡ v ∷ drop (suc n) xs
set_first xs n v below = ap (λ ys. set ys 0 v) (drop-cons xs n 0 below)

-- one byte more
pub filled_more : (memory : Memory) (at k v len : ℕ) → HasRange memory at len → k < len
    → with_byte (with_bytes memory at (replicate k v)) (at + k) v ≡ with_bytes memory at (replicate (k + 1) v)
unfolding with_bytes
filled_more memory at k v len range below =
    let between : IsBetween memory at len = between_ends memory at len (omega arith) range in
    let low : memory.base ≤ at = between.low in
    let high : at + len ≤ memory.base + length memory.bytes = between.high in
    let p = at - memory.base in
    let xs = memory.bytes in
    let inside : p + k < length xs = omega arith in
    let front : length (take p xs) ≡ p = omega (arith, length-take p xs) in
    let place : at + k - memory.base - p ≡ k = omega arith in
    let past : p ≤ at + k - memory.base = omega arith in
    let rep : length (replicate k v) ≡ k = length-replicate k v in
    let last : k - k ≡ 0 = omega arith in
    let within : k ≤ k = omega arith in
    let e : set (take p xs ++ (replicate k v ++ drop (p + length (replicate k v)) xs)) (at + k - memory.base) v
    ≡ take p xs ++ (replicate (k + 1) v ++ drop (p + length (replicate (k + 1) v)) xs) =
    set-append_right (take p xs) (replicate k v ++ drop (p + length (replicate k v)) xs) p (at + k - memory.base) v front past
    ∙ ap (λ n. take p xs ++ set (replicate k v ++ drop (p + length (replicate k v)) xs) n v) place
    ∙ ap (λ ys. take p xs ++ ys) (set-append_right (replicate k v) (drop (p + length (replicate k v)) xs) k k v rep within)
    ∙ ap (λ n. take p xs ++ (replicate k v ++ set (drop (p + length (replicate k v)) xs) n v)) last
    ∙ ap (λ n. take p xs ++ (replicate k v ++ set (drop (p + n) xs) 0 v)) rep
    ∙ ap (λ ys. take p xs ++ (replicate k v ++ ys)) (set_first xs (p + k) v inside)
    ∙ ap (λ ys. take p xs ++ ys) (pushed k v (drop (suc (p + k)) xs))
    ∙ ap (λ n. take p xs ++ (replicate n v ++ drop (suc (p + k)) xs)) (sym (add-one k))
    ∙ ap (λ n. take p xs ++ (replicate (k + 1) v ++ drop n xs))
    (let m : length (replicate (k + 1) v) ≡ k + 1 = length-replicate (k + 1) v in let s : suc (p + k) ≡ p + length (replicate (k + 1) v) = omega arith in s) in
    ap (λ bytes. made memory.base bytes) e

pub filled_none : (memory : Memory) (at v : ℕ) → memory ≡ with_bytes memory at (replicate 0 v)
filled_none memory at v = sym (with_bytes-none memory at)

-- the next byte of the range is in the memory, however much of it was written
pub filled_has : (memory : Memory) (at k v len : ℕ) → HasRange memory at len → k < len → HasByte (with_bytes memory at (replicate k v)) (at + k)
filled_has memory at k v len range below =
    let rep : length (replicate k v) ≡ k = length-replicate k v in
    with_bytes-range memory at (replicate k v) (λ j lt. range j (omega (arith, rep))) at len range k below

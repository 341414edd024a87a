-- Ranges of the memory below its end, and parts of them.
use Rattle.std.proofs.Common.{◌≡◌, ℕ, zero, suc, ◌+◌, ◌-◌, ◌^◌, ◌<◌, ◌≤◌, List, [], ◌∷◌, ◌++◌, length, take, drop, refl, sym, ap, ◌∙◌, arith}
use Rattle.host_mem.specs.Memory.{Memory, HasRange, bytes_of, with_bytes}
use Rattle.host_mem.proofs.MemoryLaws.{between_ends, bytes_of-part}
use Rattle.std.proofs.lemmas.List.{take-append-drop}

abbrev made : ℕ → List ℕ → Memory
made base bytes = record { base = base; bytes = bytes }

pub rejoined : (place : ℕ) (bytes : List ℕ) → take place bytes ++ ([] ++ drop (place + 0) bytes) ≡ bytes
rejoined place bytes = let e : place + 0 ≡ place = omega arith in rw e (take-append-drop place bytes)

-- an empty write changes nothing
pub with_bytes-none : (memory : Memory) (at : ℕ) → with_bytes memory at [] ≡ memory
unfolding with_bytes
with_bytes-none memory at = ap (made memory.base) (rejoined (at - memory.base) memory.bytes)

-- a sum of addresses that stops at the greatest number, where the range from there ends below it
pub bytes_of-stopped : (memory : Memory) (at place len : ℕ) → (place < 2 ^ 64 - 1 → place ≡ at) → place + len < 2 ^ 64
    → bytes_of memory place len ≡ bytes_of memory at len
unfolding bytes_of
bytes_of-stopped memory at place zero e below = refl
bytes_of-stopped memory at place (suc n) e below = let h : place < 2 ^ 64 - 1 = omega arith in ap (λ p. bytes_of memory p (suc n)) (e h)

pub with_bytes-stopped : (memory : Memory) (at place : ℕ) (bytes : List ℕ) → (place < 2 ^ 64 - 1 → place ≡ at) → place + length bytes < 2 ^ 64
    → with_bytes memory place bytes ≡ with_bytes memory at bytes
with_bytes-stopped memory at place [] e below = with_bytes-none memory place ∙ sym (with_bytes-none memory at)
with_bytes-stopped memory at place (x ∷ bytes) e below =
    let h : place < 2 ^ 64 - 1 = omega arith in ap (λ p. with_bytes memory p (x ∷ bytes)) (e h)

-- a part of a piece
pub bytes_of-within : (memory : Memory) (at len skip count : ℕ) → HasRange memory at len → count ≤ len - skip
    → bytes_of memory (at + skip) count ≡ take count (drop skip (bytes_of memory at len))
unfolding bytes_of
bytes_of-within memory at len skip zero range h = refl
bytes_of-within memory at len skip (suc n) range h =
    let some : 0 < len = omega arith in
    let ends = between_ends memory at len some range in
    bytes_of-part memory at len skip (suc n) ends.low (omega arith)

-- The test of a range, and what it says.
use Rattle.std.proofs.Common.{◌≡◌, ℕ, zero, suc, ◌+◌, ◌<◌, Bool, true, false, length, refl, sym, ◌∙◌, arith}
use Rattle.std.specs.Prelude.{◌==◌, ◌&&◌, ◌||◌, nat_le}
use Rattle.std.proofs.lemmas.Bool.{le-leb, leb-true, ne_eqb, false≢true}
use Rattle.host_mem.specs.Memory.{Memory, HasRange}
use Rattle.host_mem.proofs.MemoryLaws.{between_ends, range_between}
use Rattle.cq_chain.specs.Steps.{has_range}

both_tests : (none low high : Bool) → low ≡ true → high ≡ true → (none || (low && high)) ≡ true
both_tests true low high l h = refl
both_tests false true true l h = refl
both_tests false true false l h = h
both_tests false false high l h = l

pub has_range-range : (memory : Memory) (at len : ℕ) → HasRange memory at len → has_range memory at len ≡ true
unfolding has_range
has_range-range memory at zero range = refl
has_range-range memory at (suc len) range =
    let some : 0 < suc len = omega arith in
    let ends = between_ends memory at (suc len) some range in
    both_tests (suc len == 0) (nat_le memory.base at) (nat_le (at + suc len) (memory.base + length memory.bytes))
    (le-leb memory.base at ends.low)
    (le-leb (at + suc len) (memory.base + length memory.bytes) ends.high)

first_test : (none low high : Bool) → none ≡ false → (none || (low && high)) ≡ true → low ≡ true
first_test true low high n h = absurd (false≢true (sym n))
first_test false true high n h = refl
first_test false false high n h = h

second_test : (none low high : Bool) → none ≡ false → (none || (low && high)) ≡ true → high ≡ true
second_test true low high n h = absurd (false≢true (sym n))
second_test false true high n h = h
second_test false false high n h = absurd (false≢true h)

pub range-has_range : (memory : Memory) (at len : ℕ) → has_range memory at len ≡ true → HasRange memory at len
unfolding has_range
range-has_range memory at zero h = λ k lt. absurd (omega arith)
range-has_range memory at (suc len) h =
    let none : (suc len == 0) ≡ false = ne_eqb (suc len) 0 (λ e. absurd (omega arith)) in
    let low = nat_le memory.base at in
    let high = nat_le (at + suc len) (memory.base + length memory.bytes) in
    range_between memory at (suc len)
    (record {
      low = leb-true memory.base at (first_test (suc len == 0) low high none h);
      high = leb-true (at + suc len) (memory.base + length memory.bytes) (second_test (suc len == 0) low high none h);
    })

pub has_range-none : (memory : Memory) (at len : ℕ) → (HasRange memory at len → ⊥) → has_range memory at len ≡ false
has_range-none memory at len none =
    elim (has_range memory at len) as (λ b. has_range memory at len ≡ b → b ≡ false) [
      | true ↦ λ e. absurd (none (range-has_range memory at len e))
      | false ↦ λ e. refl
    ]
    refl

pub none-has_range : (memory : Memory) (at len : ℕ) → has_range memory at len ≡ false → HasRange memory at len → ⊥
none-has_range memory at len h range = false≢true (sym h ∙ has_range-range memory at len range)

-- ---- two words side by side

pub range-joined : (memory : Memory) (at : ℕ) → HasRange memory at 8 → HasRange memory (at + 8) 8 → HasRange memory at 16
range-joined memory at low high =
    let some : 0 < 8 = omega arith in
    let first = between_ends memory at 8 some low in
    let second = between_ends memory (at + 8) 8 some high in
    range_between memory at 16 (record { low = first.low; high = omega (arith, second.high) })

pub range-low : (memory : Memory) (at : ℕ) → HasRange memory at 16 → HasRange memory at 8
range-low memory at range k lt = range k (omega arith)

pub range-high : (memory : Memory) (at : ℕ) → HasRange memory at 16 → HasRange memory (at + 8) 8
range-high memory at range =
    let some : 0 < 16 = omega arith in
    let ends = between_ends memory at 16 some range in
    range_between memory (at + 8) 8 (record { low = omega (arith, ends.low); high = omega (arith, ends.high) })

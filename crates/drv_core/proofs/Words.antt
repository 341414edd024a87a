-- A word without its own bits is 0.
use Rattle.std.proofs.Common.{◌≡◌, ℕ, ◌-◌, ◌^◌, ◌<◌, Bool, true, false, refl, ap, subst, arith}
use Rattle.std.specs.Prelude.{nat_lt}
use Rattle.std.specs.Int.{bit_at, w32}
use Rattle.std.specs.Int.RustNames.{bit_and}
use Rattle.cq_regs.specs.State.{Registers}
use Rattle.cq_regs.specs.Effects.{without_bits, written_by}
use Rattle.cq_regs.specs.declared.table.Register.TheVariants.{InterruptStatus, CompletionNotification}
use Rattle.cq_regs.specs.declared.table.Access.TheVariants.{OneClears}
use Rattle.drv_core.specs.Event.{acknowledged}
use Rattle.std.proofs.lemmas.Bool.{ltb-true, ltb-false}
use Rattle.std.proofs.lemmas.Nat.Bits.{bit_at_above, bit_at_and, bit_at-lt, bit_at_not, bit_at-zero, same_from_bits}

no_bit : (inside : Bool) (word i : ℕ) → nat_lt i 32 ≡ inside → word < 2 ^ 32 → bit_at (bit_and word (2 ^ 32 - 1 - word)) i ≡ bit_at 0 i
no_bit true word i h small =
    let both = bit_at_and word (2 ^ 32 - 1 - word) i in
    let other = bit_at_not w32 word i small (ltb-true i 32 h) in
    let zero = bit_at-zero i in
    let low = bit_at-lt word i in
    omega (arith, both, other, zero, low)
no_bit false word i h small =
    let both = bit_at_and word (2 ^ 32 - 1 - word) i in
    let high = bit_at_above word 32 i small (ltb-false i 32 h) in
    let zero = bit_at-zero i in
    omega (arith, both, high, zero)

pub without_itself : (word : ℕ) → word < 2 ^ 32 → bit_and word (2 ^ 32 - 1 - word) ≡ 0
without_itself word small = same_from_bits (bit_and word (2 ^ 32 - 1 - word)) 0 (λ i. no_bit (nat_lt i 32) word i refl small)

-- the completion notification and the task notice after ones were written to their bits
pub acknowledged-is : (regs : Registers) (mask : ℕ) → mask ≡ regs.completed → mask < 2 ^ 32
    → written_by OneClears (written_by OneClears regs CompletionNotification mask) InterruptStatus 2 ≡ acknowledged regs
acknowledged-is regs mask is small =
    let none : bit_and regs.completed (2 ^ 32 - 1 - mask) ≡ 0 = subst (λ n. bit_and n (2 ^ 32 - 1 - mask) ≡ 0) is (without_itself mask small) in
    ap (λ n. record regs { completed = n; interrupts = without_bits regs.interrupts 2 }) none

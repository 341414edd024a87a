-- The bits of a cleared interrupt status.
use Rattle.std.proofs.Common.{◌≡◌, ℕ, ◌-◌, ◌^◌, ◌<◌, ap, arith}
use Rattle.std.specs.Prelude.{◌==◌}
use Rattle.std.specs.Int.{bit_at}
use Rattle.std.specs.Int.RustNames.{bit_and}
use Rattle.std.proofs.lemmas.Nat.Bits.{bit_at_and, bit_at_mask_below}
use Rattle.cq_regs.specs.State.{Registers}
use Rattle.drv_recover.specs.Recovery.{cleaned, IsQuiet}

no_low_bit : (word bit : ℕ) → bit < 4 → bit_at (bit_and word (2 ^ 32 - 2 ^ 4)) bit ≡ 0
no_low_bit word bit low =
    let both = bit_at_and word (2 ^ 32 - 2 ^ 4) bit in
    let mask = bit_at_mask_below 4 32 bit low in
    omega (arith, both, mask)

-- a cleared interrupt status has no bit
pub IsQuiet-cleaned : (regs : Registers) → IsQuiet (cleaned regs)
IsQuiet-cleaned regs bit low = ap (λ n. n == 1) (no_low_bit regs.interrupts bit low)

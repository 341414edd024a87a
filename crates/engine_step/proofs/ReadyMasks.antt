-- The bits of ready slots fit.
use Rattle.std.proofs.Common.{◌≡◌, ℕ, zero, suc, ◌+◌, ◌*◌, ◌^◌, ◌<◌, ◌≤◌, ◌%◌, Bool, true, false, List, arith, if◌then◌else◌, lit<}
use Rattle.std.proofs.Math.Nat.{pow-suc}
use Rattle.std.proofs.Math.Pow.{pow_mono}
use Rattle.cq_regs.specs.declared.slots.Progress.TheVariants.{Ready}
use Rattle.cq_regs.specs.declared.slots.Ringed.{Ringed}
use Rattle.cq_regs.specs.Slots.{progress_of}
use Rattle.cq_schedule.specs.Held.{same}
use Rattle.world_state.specs.Engine.{ready_below}

bit_fits : (b : Bool) (mask power : ℕ) → mask < power → mask + (if b then power else 0) < power * 2
bit_fits true mask power below = omega arith
bit_fits false mask power below = omega arith

pub mask_fits : (ring : List Ringed) (slot : ℕ) → ready_below ring slot < 2 ^ slot
mask_fits ring zero = lit< tt
mask_fits ring (suc slot) = rw pow-suc (bit_fits (same (progress_of ring slot) Ready) (ready_below ring slot) (2 ^ slot) (mask_fits ring slot))

power_below : (slot : ℕ) → slot < 32 → 2 ^ slot ≤ 2147483648
power_below slot below = pow_mono {i = slot} {j = 31} (omega arith)

sum_fits : (mask power : ℕ) → mask < power → power ≤ 2147483648 → mask + (1 * power) % 4294967296 < 4294967296
sum_fits mask power below small = omega arith

pub more_fits : (ring : List Ringed) (mask slot : ℕ) → slot < 32 → mask ≡ ready_below ring slot → mask + (1 * 2 ^ slot) % 4294967296 < 4294967296
more_fits ring mask slot below is =
    let fits = mask_fits ring slot in
    sum_fits mask (2 ^ slot) (rw is fits) (power_below slot below)

-- The bits of the interrupt status and of the completion notification: those that a write of ones clears, and those that are
-- set while their status is enabled.
use Rattle.std.proofs.Common.{◌≡◌, ◌<◌, ◌-◌, ◌^◌, ◌⊎◌, ◌==◌, ◌&&◌, ℕ, Bool, true, false, refl, sym, ◌∙◌, ap, subst, min, max, arith, inl, inr}
use Rattle.std.specs.Prelude.{not, cond}
use Rattle.std.specs.Int.{bit_at, w32}
use Rattle.std.specs.Int.RustNames.{bit_and, bit_or}
use Rattle.std.proofs.lemmas.Bool.Decides.{nat_tests}
use Rattle.std.proofs.lemmas.Nat.Bits.{bit_at_and, bit_at_not, bit_at_or, bit_at-lt}
use Rattle.cq_regs.specs.declared.table.Register.{Register}
use Rattle.cq_regs.specs.declared.table.Register.TheVariants.{Version, Capabilities, Configuration, Control, InterruptStatus, InterruptStatusEnable, InterruptSignalEnable, InterruptCoalescing, ListBase, ListBaseUpper, Doorbell, CompletionNotification, DeviceQueueStatus, DevicePendingTasks, TaskClear, SendStatusConfiguration1, SendStatusConfiguration2, DirectCommandResponse, ResponseErrorMask, TaskErrorInformation, CommandResponseIndex, CommandResponseArgument}
use Rattle.cq_regs.specs.State.{Registers}
use Rattle.cq_regs.specs.Slots.{has_bit}
use Rattle.cq_regs.specs.Effects.{stored, value_of, without_bits, ClearsOnes, LosesBits}

lost : (n w o : ℕ) → n ≡ min w (1 - o) → w < 2 → o < 2 → (n == 1) ≡ ((w == 1) && not (o == 1))
lost n w o e small few = grind (arith, nat_tests)

loses : (word ones : ℕ) → ones < 2 ^ 32 → LosesBits word ones (without_bits word ones)
loses word ones fits b below =
    lost (bit_at (without_bits word ones) b) (bit_at word b) (bit_at ones b)
    (bit_at_and word (2 ^ 32 - 1 - ones) b ∙ ap (λ n. min (bit_at word b) n) (bit_at_not w32 ones b fits below))
    (bit_at-lt word b) (bit_at-lt ones b)

pub clears_ones : (regs : Registers) (register : Register) (value : ℕ) → value < 2 ^ 32
    → ClearsOnes regs register value (stored regs register (without_bits (value_of regs register) value))
clears_ones regs InterruptStatus value fits = loses regs.interrupts value fits
clears_ones regs CompletionNotification value fits = loses regs.completed value fits
clears_ones regs _ value fits = tt

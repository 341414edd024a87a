-- Which tasks the engine has to hold.
use Rattle.std.specs.Prelude.{◌≡◌, ℕ, ◌<◌, true, false, IsSome}
use Rattle.std.specs.Option.{IsSomeAnd}
use Rattle.cq_regs.specs.State.{Registers}
pub use Rattle.cq_regs.specs.Slots.{is_begun}
use Rattle.cq_regs.specs.Slots.{progress_of}
use Rattle.cq_schedule.specs.Held.{Places, held_at}

-- the engine holds the task of a slot, and left it as far as it is
abbrev pub IsHeld : Places → Registers → ℕ → Type 0
IsHeld held regs slot = IsSomeAnd (held_at held slot) (λ h. h.progress ≡ progress_of regs.ring slot)

-- while it isn't stopped, the engine holds the task of each slot that is named and not complete
abbrev pub HoldsTasks : Places → Registers → Type 0
HoldsTasks held regs =
    regs.stopped ≡ false → (slot : ℕ) → slot < 32 → is_begun (progress_of regs.ring slot) ≡ true → IsHeld held regs slot

-- the same without how far it left it
abbrev pub HasTasks : Places → Registers → Type 0
HasTasks held regs =
    regs.stopped ≡ false → (slot : ℕ) → slot < 32 → is_begun (progress_of regs.ring slot) ≡ true → IsSome (held_at held slot)

-- What the engine holds between its events.
use Rattle.std.specs.Prelude.{◌≡◌, ◌≢◌, ◌<◌, ◌≤◌, ◌*◌, ℕ, true, IfSome, IsSome}
use Rattle.host_mem.specs.Memory.{Memory}
use Rattle.cq_chain.specs.Descriptors.{AreInside, bytes_in}
use Rattle.cq_regs.specs.declared.slots.Progress.TheVariants.{Active}
use Rattle.cq_regs.specs.State.{Registers}
use Rattle.cq_task.specs.declared.slot.DataTask.{DataTask}
use Rattle.cq_task.specs.Place.{block_bytes}
use Rattle.cq_schedule.specs.declared.held.HeldTask.{HeldTask}
use Rattle.cq_schedule.specs.Held.{Places, held_at}
use Rattle.cq_schedule.specs.Holding.{HoldsTasks}
use Rattle.cq_engine.specs.Outcome.{Holding}

-- where the engine is stopped it holds the cause, else the task of each slot that is named and not complete
pub record Holds (engine : Holding) (regs : Registers) : Type 0 where
  pub cause : regs.stopped ≡ true → IsSome engine.cause
  pub tasks : HoldsTasks engine.held regs

-- the pieces of a task lie in the memory, and have as many bytes as its blocks
pub record LiesIn (memory : Memory) (task : DataTask) : Type 0 where
  pub inside : AreInside memory task.pieces
  pub whole : bytes_in task.pieces ≡ task.desc.blocks * block_bytes

-- those of every task that is held
abbrev pub LieIn : Memory → Places → Type 0
LieIn memory held = (slot : ℕ) → slot < 32 → IfSome (held_at held slot) (λ h. LiesIn memory h.task)

-- as many blocks moved as the task has at most, and none but in its data phase
pub record IsCounted (held : HeldTask) : Type 0 where
  pub within : held.moved ≤ held.task.desc.blocks
  pub phase : held.progress ≢ Active → held.moved ≡ 0

-- so it is with every task that is held
abbrev pub AreCounted : Places → Type 0
AreCounted held = (slot : ℕ) → slot < 32 → IfSome (held_at held slot) IsCounted

-- the next block of a task is the k-th
pub record IsNextBlock (memory : Memory) (k : ℕ) (held : HeldTask) : Type 0 where
  pub lies : LiesIn memory held.task
  pub next : held.moved ≡ k
  pub left : k < held.task.desc.blocks

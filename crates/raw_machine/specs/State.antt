-- What a raw script can tell of the machine: the host's memory, the registers, what was read of each slot when it was served, and the
-- card by its queue, its extended CSD, and its contents with the marks over them. No cache, no gate and no page is in it.
use Rattle.std.specs.Prelude.{ℕ, ◌==◌, Option, Some, if◌then◌else◌, map}
use Rattle.std.specs.Option.{option_map}
use Rattle.card_store.specs.Store.{Contents, with_bar}
use Rattle.cq_regs.specs.State.{Registers}
use Rattle.cq_schedule.specs.Held.{Places, newly_held, slots}
use Rattle.cq_task.specs.declared.slot.DataTask.{DataTask}
use Rattle.epoch_cache.specs.Cache.{next_epoch}
use Rattle.ext_csd.specs.declared.csd.ExtCsd.{ExtCsd}
use Rattle.host_mem.specs.Memory.{Memory}
use Rattle.task_queue.specs.Places.{Queue}

-- `epoch`: the number of the last epoch, which is how many barriers were set since the power came
pub record PlainCard : Type 0 where
  pub queue : Queue
  pub csd : ExtCsd
  pub contents : Contents
  pub epoch : ℕ

pub record RawState : Type 0 where
  pub memory : Memory
  pub regs : Registers
  pub tasks : ℕ → Option DataTask
  pub card : PlainCard

abbrev pub with_registers : RawState → Registers → RawState
with_registers state regs = record state { regs = regs }

-- the task of a slot, as it was read when the slot was served
abbrev pub with_task : RawState → ℕ → DataTask → RawState
with_task state slot task = record state { tasks = λ other. if other == slot then Some task else state.tasks other }

-- the tasks as the rules of what comes next look at them
abbrev pub places_of : (ℕ → Option DataTask) → Places
places_of tasks = map (λ slot. option_map newly_held (tasks slot)) slots

-- other contents
abbrev pub turned : (Contents → Contents) → PlainCard → PlainCard
turned f card = record card { contents = f card.contents }

-- a barrier, and the epoch that it begins
abbrev pub barred : PlainCard → PlainCard
barred card = record card { contents = with_bar card.epoch card.contents; epoch = next_epoch card.epoch }

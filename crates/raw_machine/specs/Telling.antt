-- The machine with its array is in a state that a raw script can tell.
use Rattle.std.specs.Prelude.{◌≡◌, ◌≢◌, ◌<◌, ℕ, [], true, false, Option, Some, None, is_some}
use Rattle.std.specs.List.{All}
use Rattle.std.specs.Option.{IsSomeAnd}
use Rattle.bus_link.specs.Script.{Script}
use Rattle.card_core.specs.Card.{CardState}
use Rattle.card_store.specs.Store.{Contents, Stands as StoreStands}
use Rattle.cq_regs.specs.Slots.{is_rung, progress_of}
use Rattle.cq_regs.specs.State.{Registers}
use Rattle.cq_regs.specs.declared.slots.Progress.TheVariants.{Active, Named}
use Rattle.cq_schedule.specs.Held.{Places, held_at}
use Rattle.cq_schedule.specs.Holding.{is_begun}
use Rattle.cq_task.specs.declared.slot.DataTask.{DataTask}
use Rattle.raw_machine.specs.Machine.{Moment}
use Rattle.raw_machine.specs.State.{PlainCard, RawState}

-- no fault befalls the bus, and all queued tasks are ready at each poll
pub record IsQuietScript (script : Script) : Type 0 where
  pub hits : script.hits ≡ []
  pub ready : script.ready ≡ []
  pub hit : script.hit ≡ None

-- the engine holds these tasks of the slots that are named and not complete, and no block moved of one whose data phase is not under way
abbrev pub Keeps : Places → Registers → (ℕ → Option DataTask) → Type 0
Keeps held regs tasks = (slot : ℕ) → slot < 32 → is_begun (progress_of regs.ring slot) ≡ true
    → IsSomeAnd (held_at held slot)
    (λ h. (h.progress ≡ progress_of regs.ring slot) × (tasks slot ≡ Some h.task) × (progress_of regs.ring slot ≢ Active → h.moved ≡ 0))

-- no task waits for its start sector, and no data phase is under way
abbrev pub IsBetweenTasks : Registers → Type 0
IsBetweenTasks regs = (slot : ℕ) → (progress_of regs.ring slot ≢ Named) × (progress_of regs.ring slot ≢ Active)

-- the card as a script sees it, with these contents
abbrev pub plain : CardState → Contents → PlainCard
plain card c = record { queue = card.queue; csd = card.csd; contents = c; epoch = card.store.cache.last }

-- where the engine is stopped, its tasks can't go on any more, and nothing is said of them
pub record Tells (m : Moment) (state : RawState) : Type 0 where
  pub memory : state.memory ≡ m.machine.memory
  pub regs : state.regs ≡ m.machine.regs
  pub card : state.card ≡ plain m.machine.card state.card.contents
  pub contents : StoreStands state.card.contents m.machine.card.store m.array
  pub told : is_some m.array.told ≡ true
  pub script : IsQuietScript m.machine.script
  pub rung : All (λ r. is_rung r.progress ≡ true) m.machine.regs.ring
  pub tasks : m.machine.regs.stopped ≡ false → Keeps m.machine.engine.held m.machine.regs state.tasks
  pub between : m.machine.regs.stopped ≡ false → IsBetweenTasks m.machine.regs

-- The state of the storage machine, read off what holds it. What nobody holds is a context: contents and marks, the number of the
-- last command, how often faults named each request, and whether the cache may have been staged.
use Rattle.std.specs.Prelude.{ℕ, ◌+◌, ◌&&◌, ◌^◌, Bool, true, false, if◌then◌else◌, List, [], Option, None, Some, map, min, option_map}
use Rattle.std.specs.List.{range_with_len, fold}
use Rattle.storage_model.specs.declared.block.Block.{Block}
use Rattle.storage_model.specs.declared.faults.ArrayHit.{ArrayHit}
use Rattle.storage_model.specs.declared.faults.Faults.{Faults}
use Rattle.storage_model.specs.declared.marks.Mark.{Mark}
use Rattle.storage_model.specs.declared.plan.Job.{Job}
use Rattle.storage_model.specs.Plan.{blocks_of}
use Rattle.storage_machine.specs.Jobs.{is_read}
use Rattle.storage_machine.specs.declared.state.State.{State}
use Rattle.storage_machine.specs.declared.state.Task.{Task}
use Rattle.storage_machine.specs.declared.state.Standing.{Standing}
use Rattle.storage_machine.specs.declared.state.Standing.TheVariants as standing
use Rattle.storage_machine.specs.declared.state.Stop.{Stop}
use Rattle.storage_machine.specs.declared.state.Stop.TheVariants as stop
use Rattle.storage_machine.specs.declared.state.Recovery.{Recovery}
use Rattle.storage_machine.specs.declared.state.Recovery.TheVariants as recovery
use Rattle.storage_machine.specs.declared.state.Event.TheVariants.{Untold}
use Rattle.storage_machine.specs.declared.state.Owed.TheVariants.{Nothing}
use Rattle.bus_link.specs.declared.link.Cause.{Cause}
use Rattle.bus_link.specs.declared.link.Cause.TheVariants.{Bus as BusFault, Response, Dark}
use Rattle.cq_regs.specs.declared.slots.Progress.{Progress}
use Rattle.cq_regs.specs.declared.slots.Progress.TheVariants as progress
use Rattle.cq_regs.specs.Slots.{has_bit, progress_of}
use Rattle.cq_schedule.specs.Held.{slots}
use Rattle.cq_schedule.specs.Order.{order_of}
use Rattle.piece_data.specs.Data.{block_of}
use Rattle.drv_ring.specs.Pieces.{tag_pieces}
use Rattle.drv_recover.specs.declared.recovery.RecoveryState.{RecoveryState}
use Rattle.drv_recover.specs.declared.recovery.RecoveryState.TheVariants as driver
use Rattle.drv_jobs.specs.Changes.{waits_again}
use Rattle.drv_core.specs.declared.act.Stop.{Stop as Ending}
use Rattle.drv_core.specs.declared.act.Stop.TheVariants.{Flash as FlashEnding, Range as RangeEnding}
use Rattle.drv_core.specs.Judge.{error_of}
use Rattle.drv_core.specs.State.{DriverState, is_recovering}
use Rattle.cut_order.specs.Order.{OrderState}
use Rattle.world_state.specs.Path.{PathState, holder, is_busy, job, layout, moved, plan_of}

pub record Context : Type 0 where
  pub base : List Block
  pub pend : List Mark
  pub n : ℕ
  pub named : List ℕ
  pub staged : Bool
  pub kept : Bool
  pub worked : Bool
  pub array : List ArrayHit

-- how far an engine's slot is; an active one is ready to the machine
abbrev pub standing_of : Progress → Standing
standing_of progress.Idle = standing.Rung
standing_of progress.Rung = standing.Rung
standing_of progress.Named = standing.Named
standing_of progress.Sent = standing.Sent
standing_of progress.Ready = standing.Ready
standing_of progress.Active = standing.Ready

abbrev pub is_done : PathState → ℕ → Bool
is_done p tag = has_bit p.regs.completed tag

abbrev pub standing_at : PathState → ℕ → Standing
standing_at p tag =
    if is_recovering p.driver.recovery then standing.Held
    else if is_done p tag then standing.Done
    else standing_of (progress_of p.regs.ring tag)

-- the task of a tag: the driver has the request, the registers how far it is
abbrev pub task_at : PathState → ℕ → Option Task
task_at p tag = option_map (λ id. record { id = id; standing = standing_at p tag }) (holder p tag)

unfoldable pub tasks_of : PathState → List (Option Task)
tasks_of p = map (task_at p) slots

-- a held request waits to the machine, to the driver from the recovery's last step on
abbrev pub waiting_of : DriverState → List Bool
waiting_of d =
    if is_recovering d.recovery then fold waits_again d.requests.waiting d.requests.holders else d.requests.waiting

-- the engine's tasks in order of ringing; what a recovery is to clear is in no order
abbrev pub order : PathState → List ℕ
order p = if is_recovering p.driver.recovery then [] else order_of p.regs.ring

-- what a done read shows: the blocks in the pieces of its slot
abbrev pub blocks_held : PathState → ℕ → Job → List Block
blocks_held p tag j =
    if is_read j then map (block_of p.memory (tag_pieces (layout p) tag (blocks_of j))) (range_with_len 0 (blocks_of j)) else []

abbrev pub data_by : PathState → ℕ → Option ℕ → List Block
data_by p tag None = []
data_by p tag (Some id) = if is_done p tag then blocks_held p tag (job p id) else []

unfoldable pub data_of : PathState → List (List Block)
data_of p = map (λ tag. data_by p tag (holder p tag)) slots

-- why the engine stands still. A stop that ends no request is one by the bus that names none
abbrev pub stop_by_word : Option Ending → Option ℕ → Stop
stop_by_word (Some FlashEnding) (Some id) = stop.Flash id
stop_by_word (Some RangeEnding) (Some id) = stop.Range id
stop_by_word _ _ = stop.Bus None

abbrev pub stop_by : PathState → Option Cause → Stop
stop_by p (Some (BusFault kind (Some tag))) = stop.Bus (holder p tag)
stop_by p (Some (Response word tag)) = stop_by_word (error_of word) (holder p tag)
stop_by p _ = stop.Bus None

abbrev pub stop_of : PathState → Stop
stop_of p =
    if is_recovering p.driver.recovery then stop.Running
    else if p.regs.stopped then stop_by p p.engine.cause
    else stop.Running

abbrev pub recovery_of : RecoveryState → Recovery
recovery_of driver.Calm = recovery.Calm
recovery_of driver.Halted = recovery.Halted
recovery_of driver.Cleared = recovery.Cleared
recovery_of driver.Discarded = recovery.Discarded
recovery_of driver.Cleaned = recovery.Cleaned
recovery_of driver.Resumed = recovery.Resumed

-- the interrupt status is free until the recovery clears it
abbrev pub is_free : RecoveryState → Bool
is_free driver.Halted = true
is_free driver.Cleared = true
is_free driver.Discarded = true
is_free state = false

abbrev pub notice_of : PathState → Bool
notice_of p = if is_free p.driver.recovery then false else has_bit p.regs.interrupts 1

abbrev pub spent_of : PathState → ℕ
spent_of p = if is_busy p then moved p + 1 else 0

abbrev pub faults_of : PathState → OrderState → Context → Faults
faults_of p o c = record { ready = p.script.ready; bus = p.script.hits; array = c.array; cuts = o.cuts; turns = o.turns }

-- between two events
unfoldable pub state_of : PathState → OrderState → Context → State
state_of p o c = record {
  plan = plan_of p;
  faults = faults_of p o c;
  base = c.base;
  pend = c.pend;
  waiting = waiting_of p.driver;
  named = c.named;
  slots = tasks_of p;
  order = order p;
  «data» = data_of p;
  n = c.n;
  bars = p.card.store.cache.last;
  words = p.script.used;
  letters = o.letters;
  cuts = o.used;
  busy = is_busy p;
  spent = spent_of p;
  stop = stop_of p;
  recovery = recovery_of p.driver.recovery;
  notice = notice_of p;
  count = p.regs.coalescing.counter;
  staged = c.staged;
  kept = c.kept;
  event = Untold;
  owed = Nothing;
  worked = c.worked;
  deferred = false;
  lefts = [];
  epochs = [];
}

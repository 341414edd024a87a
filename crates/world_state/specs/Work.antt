-- How much a run has left to do, as a number that falls with each step that `choose` picks: for every array, told or not.
use Rattle.std.specs.Prelude.{ℕ, ◌+◌, ◌-◌, ◌*◌, ◌==◌, Bool, true, false, not, if◌then◌else◌, List, Option, None, Some, is_some, length, count_by, nat_lt, sum_by, ◌&&◌}
use Rattle.drv_recover.specs.declared.recovery.RecoveryState.{RecoveryState}
use Rattle.drv_recover.specs.declared.recovery.RecoveryState.TheVariants as driver
use Rattle.storage_machine.specs.declared.state.Stop.{Stop}
use Rattle.storage_machine.specs.declared.state.Stop.TheVariants as stop
use Rattle.cq_regs.specs.State.{Registers}
use Rattle.cq_regs.specs.declared.slots.Progress.{Progress}
use Rattle.cq_regs.specs.declared.slots.Progress.TheVariants as progress
use Rattle.cq_regs.specs.Slots.{progress_of}
use Rattle.cq_schedule.specs.Held.{slots}
use Rattle.cq_schedule.specs.Order.{blocks_of, moved_of}
use Rattle.drv_core.specs.State.{is_recovering}
use Rattle.cut_order.specs.Order.{OrderState, letters_left, lines_left}
use Rattle.world_state.specs.Path.{PathState, is_busy}
use Rattle.world_state.specs.Reading.{stop_of}

-- requests that wait, and those that are issued
abbrev pub waiting : PathState → ℕ
waiting p = count_by (λ waits. waits) p.driver.requests.waiting

abbrev pub issued : PathState → ℕ
issued p = count_by is_some p.driver.requests.holders

-- one request that a stop is going to end counts as ended
abbrev pub doomed : Stop → ℕ
doomed (stop.Flash id) = 1
doomed (stop.Range id) = 1
doomed stop = 0

abbrev pub unanswered : PathState → ℕ
unanswered p = waiting p + issued p - doomed (stop_of p)

-- faults of the bus whose number is still to come
abbrev pub hits_left : PathState → ℕ
hits_left p = count_by (λ hit. nat_lt p.script.sent hit.n) p.script.hits

abbrev pub recovery_left : RecoveryState → ℕ
recovery_left driver.Calm = 0
recovery_left driver.Halted = 6
recovery_left driver.Cleared = 5
recovery_left driver.Discarded = 4
recovery_left driver.Cleaned = 3
recovery_left driver.Resumed = 2

-- the most that a request costs from its issue on: its commands, its blocks and its answer
abbrev pub request_cost : ℕ
request_cost = 200000

-- what a stop costs: a recovery, after which each tag is issued anew
abbrev pub stop_cost : ℕ
stop_cost = 32 * request_cost + 100

-- 1 while counted completions wait for the timer
abbrev pub ticks_left : Registers → ℕ
ticks_left regs = if regs.coalescing.counter == 0 then 0 else 1

-- events of the engine that are left for a task, by how far it is, its blocks and those that moved
abbrev pub events_left : Progress → (blocks moved : ℕ) → ℕ
events_left progress.Idle blocks moved = 0
events_left progress.Rung blocks moved = 65540
events_left progress.Named blocks moved = blocks + 4
events_left progress.Sent blocks moved = blocks + 3
events_left progress.Ready blocks moved = blocks + 2
events_left progress.Active blocks moved = blocks - moved + 1

abbrev pub work_left : PathState → ℕ
work_left p = sum_by (λ slot. events_left (progress_of p.regs.ring slot) (blocks_of p.engine.held slot) (moved_of p.engine.held slot)) slots

-- a fault of the data or of the end of the phase under way is used up, and has not stopped the engine yet
abbrev pub hit_waits : PathState → ℕ
hit_waits p = if is_busy p && is_some p.script.hit then stop_cost + 1 else 0

abbrev pub stop_left : PathState → ℕ
stop_left p =
    if is_recovering p.driver.recovery then request_cost * issued p + recovery_left p.driver.recovery
    else if p.regs.stopped then stop_cost
    else 0

abbrev pub answer_cost : ℕ
answer_cost = stop_cost + 32 * request_cost + 100

-- on the path, as long as no power is lost
unfoldable pub left_on_path : PathState → ℕ
left_on_path p =
    answer_cost * (unanswered p + hits_left p) + (length p.script.ready - p.script.used) + request_cost * waiting p + 3 * work_left p
    + stop_left p + hit_waits p + ticks_left p.regs

unfoldable pub left_to_do : PathState → OrderState → ℕ
left_to_do p o = answer_cost * (letters_left o + lines_left o) + left_on_path p

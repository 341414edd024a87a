-- The way of a request from the driver to the card: driver, registers, host memory, engine, card and bus. But for the array, and the letters
-- and `cut` lines of the fault text, it holds the state of a run.
use Rattle.std.specs.Prelude.{ℕ, ◌+◌, ◌==◌, Bool, true, false, not, List, Option, None, Some, is_some, if◌then◌else◌}
use Rattle.std.specs.Option.{option_map_or}
use Rattle.storage_model.specs.declared.plan.Job.{Job}
use Rattle.storage_model.specs.declared.plan.Plan.{Plan}
use Rattle.host_mem.specs.Memory.{Memory}
use Rattle.cq_regs.specs.declared.slots.Progress.TheVariants.{Active}
use Rattle.cq_regs.specs.State.{Registers}
use Rattle.cq_schedule.specs.Order.{first_at, moved_of}
use Rattle.cq_engine.specs.Outcome.{Holding}
use Rattle.bus_link.specs.Script.{Script}
use Rattle.card_core.specs.Card.{CardState}
use Rattle.card_link.specs.Behind.{Behind, behind}
use Rattle.array_edge.specs.Array.{ArrayState}
use Rattle.drv_ring.specs.declared.places.Layout.{Layout}
use Rattle.drv_jobs.specs.Standings.{holder_of, job_of}
use Rattle.drv_core.specs.State.{DriverState, is_recovering, layout_of}

-- the way of a request from driver to card
pub record PathState : Type 0 where
  pub driver : DriverState
  pub regs : Registers
  pub memory : Memory
  pub engine : Holding
  pub card : CardState
  pub script : Script

abbrev pub behind_path : PathState → ArrayState → Behind
behind_path p a = behind p.card a p.script

abbrev pub plan_of : PathState → Plan
plan_of p = p.driver.requests.plan

abbrev pub layout : PathState → Layout
layout p = layout_of (plan_of p)

-- the request of a tag, and its job
abbrev pub holder : PathState → ℕ → Option ℕ
holder p tag = holder_of p.driver.requests.holders tag

abbrev pub job : PathState → ℕ → Job
job p id = job_of (plan_of p) id

-- no recovery is under way, and the engine has not stopped
abbrev pub runs : PathState → Bool
runs p = if is_recovering p.driver.recovery then false else not p.regs.stopped

-- the tag whose data phase is under way, and how many of its blocks moved
abbrev pub under_way : PathState → Option ℕ
under_way p = if p.regs.stopped then None else first_at Active p.regs.ring

abbrev pub is_busy : PathState → Bool
is_busy p = is_some (under_way p)

abbrev pub moved_by : PathState → Option ℕ → ℕ
moved_by p None = 0
moved_by p (Some tag) = moved_of p.engine.held tag

abbrev pub moved : PathState → ℕ
moved p = moved_by p (under_way p)

-- The state of the driver: how its requests stand, and where a recovery is (struct cqhci_host of drivers/mmc/host/cqhci.h).
use Rattle.std.specs.Prelude.{ℕ, ◌+◌, ◌*◌, ◌^◌, ◌==◌, ◌||◌, Bool, true, false, Result, Ok, Err, if◌then◌else◌}
use Rattle.storage_model.specs.declared.plan.Job.{Job}
use Rattle.storage_model.specs.declared.plan.Plan.{Plan}
use Rattle.drv_recover.specs.declared.recovery.RecoveryState.{RecoveryState}
use Rattle.drv_recover.specs.declared.recovery.RecoveryState.TheVariants.{Calm}
use Rattle.drv_ring.specs.declared.places.Layout.{Layout}
use Rattle.drv_jobs.specs.declared.next.Due.{Due}
use Rattle.drv_jobs.specs.declared.next.Hold.{Hold}
use Rattle.storage_model.specs.Plan.{is_direct}
use Rattle.drv_jobs.specs.Standings.{Standings, all_waiting}
use Rattle.drv_core.specs.declared.set_up.TheConstants.{LIST_BASE}

-- while a recovery is under way, it holds the issued requests
pub record DriverState : Type 0 where
  pub requests : Standings
  pub recovery : RecoveryState

-- all requests of a plan wait, and no recovery is under way
abbrev pub at_start : Plan → DriverState
at_start plan = record { requests = all_waiting plan; recovery = Calm }

abbrev pub with_requests : DriverState → Standings → DriverState
with_requests driver requests = record driver { requests = requests }

-- whether a recovery is under way
abbrev pub is_recovering : RecoveryState → Bool
is_recovering Calm = false
is_recovering state = true

-- descriptors of 128 bits stand above 4 GiB
abbrev pub upper_base : (wide : Bool) → ℕ
upper_base wide = if wide then 1 else 0

-- where the driver's lists and buffers stand in a run
abbrev pub layout_of : Plan → Layout
layout_of plan = record { base = LIST_BASE + 2 ^ 32 * upper_base plan.wide; depth = plan.depth; wide = plan.wide }

-- the request that may be issued next
abbrev pub next_of : Result Due Hold → Result ℕ Hold
next_of (Ok due) = Ok due.id
next_of (Err hold) = Err hold

-- whether a job asks for a notice at once: each does without coalescing, and a direct one always
abbrev pub asks_notice : Plan → Job → Bool
asks_notice plan job = (plan.coalesce == 0) || is_direct job

-- What the driver has to do in an event: the first that applies (cqhci_irq, cqhci_recovery_start and cqhci_request of
-- drivers/mmc/host/cqhci-core.c).
use Rattle.std.specs.Prelude.{◌==◌, ◌&&◌, ◌||◌, Bool, true, not, if◌then◌else◌, is_ok}
use Rattle.std.specs.Int.RustNames.{bit_and}
use Rattle.cq_regs.specs.State.{Registers}
use Rattle.drv_recover.specs.declared.recovery.RecoveryState.{RecoveryState}
use Rattle.drv_recover.specs.declared.recovery.RecoveryState.TheVariants.{Calm}
use Rattle.drv_jobs.specs.Standings.{Standings}
use Rattle.drv_jobs.specs.Next.{due_of}
use Rattle.drv_core.specs.declared.work.Work.{Work}
use Rattle.drv_core.specs.State.{DriverState}
use Rattle.drv_core.specs.declared.work.Work.TheVariants.{Recover, Collect, Fail, Issue}

-- tasks are notified as complete, and the interrupt is signalled or the engine has stopped
abbrev pub is_noticed : Registers → Bool
is_noticed regs = not (regs.completed == 0) && (not (bit_and regs.interrupts regs.signal_enable == 0) || regs.stopped)

-- a recovery under way goes before completed tasks, these before a stop, and a stop before the next request
abbrev pub work_of : RecoveryState → Registers → Work
work_of Calm regs = if is_noticed regs then Collect else if regs.stopped then Fail else Issue
work_of state regs = Recover

-- an issue needs a request that may be issued
abbrev pub is_possible : Work → Standings → Bool
is_possible Recover requests = true
is_possible Collect requests = true
is_possible Fail requests = true
is_possible Issue requests = is_ok (due_of requests)

-- an event would do something
abbrev pub has_work : DriverState → Registers → Bool
has_work driver regs = is_possible (work_of driver.recovery regs) driver.requests

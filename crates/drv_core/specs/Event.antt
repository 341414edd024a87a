-- An event of the driver, by what it had to do: what it did, and driver, registers, memory and link after it (cqhci_irq,
-- cqhci_finish_mrq, cqhci_recovery_start, cqhci_recovery_finish and cqhci_request of drivers/mmc/host/cqhci-core.c).
use Rattle.std.specs.Prelude.{◌≡◌, ◌≢◌, ◌<◌, ℕ, ◌^◌, Option, Result, Ok, Err}
use Rattle.host_mem.specs.Memory.{Memory}
use Rattle.storage_model.specs.declared.plan.Plan.{Plan}
use Rattle.bus_link.specs.declared.link.Cause.{Cause}
use Rattle.bus_link.specs.Link.{Call}
use Rattle.cq_regs.specs.State.{Registers}
use Rattle.cq_regs.specs.Effects.{belled, without_bits}
use Rattle.cq_task.specs.declared.list.TheConstants.{SLOTS}
use Rattle.piece_data.specs.Laws.{HasSameSpace, KeepsOthers}
use Rattle.drv_ring.specs.Asks.{Asks, HoldsData}
use Rattle.drv_ring.specs.Changes.{KeepsTag, areas_of}
use Rattle.drv_recover.specs.Recovery.{Event as RecoveryEvent, halted}
use Rattle.drv_recover.specs.declared.recovery.RecoveryState.TheVariants.{Halted}
use Rattle.drv_recover.specs.declared.recovery.Step.{Step}
use Rattle.drv_recover.specs.declared.recovery.Step.TheVariants.{Moved, Over}
use Rattle.drv_jobs.specs.declared.next.Due.{Due}
use Rattle.drv_jobs.specs.declared.next.Hold.{Hold}
use Rattle.drv_jobs.specs.Changes.{collected, given_back, issued_if}
use Rattle.drv_jobs.specs.Next.{due_of}
use Rattle.drv_jobs.specs.Standings.{Standings, job_of}
use Rattle.drv_core.specs.declared.act.Act.{Act}
use Rattle.drv_core.specs.declared.act.Act.TheVariants.{Nothing, Issued, Collected, Step as Stepped}
use Rattle.drv_core.specs.declared.work.Work.{Work}
use Rattle.drv_core.specs.declared.work.Work.TheVariants.{Recover, Collect, Fail, Issue}
use Rattle.drv_core.specs.State.{DriverState, asks_notice, layout_of, with_requests}
use Rattle.drv_core.specs.Judge.{judged}
use Rattle.drv_core.specs.Work.{work_of}

-- driver, registers, memory and link at a moment
pub record Moment (L : Type 0) : Type 0 where
  pub driver : DriverState
  pub regs : Registers
  pub memory : Memory
  pub link : L

-- neither memory nor link is used
pub record IsAside {L : Type 0} (old new : Moment L) : Type 0 where
  pub memory : new.memory ≡ old.memory
  pub link : new.link ≡ old.link

-- how the requests stand after a step of a recovery: the last gives back all that it held
abbrev pub requests_after : Step → Standings → Standings
requests_after Over requests = given_back requests
requests_after step requests = requests

-- a recovery under way takes its next step
pub record Recovers {L : Type 0} (made : L → Call → L → Type 0) (old new : Moment L) (act : Act) : Type 0 where
  pub step : Step
  pub told : act ≡ Stepped step
  pub event : RecoveryEvent made old.link new.link old.driver.recovery new.driver.recovery old.regs new.regs step
  pub requests : new.driver.requests ≡ requests_after step old.driver.requests
  pub memory : new.memory ≡ old.memory

-- the completion notification and the task notice cleared
abbrev pub acknowledged : Registers → Registers
acknowledged regs = record regs { completed = 0; interrupts = without_bits regs.interrupts 2 }

-- the requests of the tasks that are notified as complete are answered, and their notice is cleared
pub record Collects {L : Type 0} (old new : Moment L) (act : Act) : Type 0 where
  pub aside : IsAside old new
  pub told : act ≡ Collected old.regs.completed
  pub driver : new.driver ≡ with_requests old.driver (collected old.driver.requests old.regs.completed)
  pub regs : new.regs ≡ acknowledged old.regs

-- a stop answers the request that it ends, and a recovery begins: the host interface is halted
pub record Fails {L : Type 0} (old new : Moment L) (cause : Option Cause) (act : Act) : Type 0 where
  pub aside : IsAside old new
  pub told : act ≡ (judged old.driver.requests cause).act
  pub driver : new.driver ≡ record { requests = (judged old.driver.requests cause).requests; recovery = Halted }
  pub regs : new.regs ≡ halted old.regs

-- the slot of a request's tag asks for its job and the buffer holds its data, and what stands for the other tags stays
pub record IsWritten (plan : Plan) (due : Due) (old new : Memory) : Type 0 where
  pub asks : Asks new (layout_of plan) due.tag (job_of plan due.id) (asks_notice plan (job_of plan due.id))
  pub data_held : HoldsData new (layout_of plan) due.tag (job_of plan due.id) plan.blocks
  pub others : (other : ℕ) → other < SLOTS → other ≢ due.tag → KeepsTag (layout_of plan) other old new
  pub space : HasSameSpace old new
  pub outside : KeepsOthers (areas_of (layout_of plan) due.tag (job_of plan due.id)) old new

-- what an issue tells
abbrev pub told_of : Result Due Hold → Act
told_of (Ok due) = Issued due.id due.tag
told_of (Err hold) = Nothing

-- the doorbell of the tag is rung
abbrev pub rung_for : Registers → Result Due Hold → Registers
rung_for regs (Ok due) = belled regs (2 ^ due.tag)
rung_for regs (Err hold) = regs

-- the descriptors are written
abbrev pub WritesFor : Plan → (old new : Memory) → Result Due Hold → Type 0
WritesFor plan old new (Ok due) = IsWritten plan due old new
WritesFor plan old new (Err hold) = new ≡ old

-- the next request is issued: its descriptors are written, and the doorbell of its tag is rung. Where there is none, nothing changes
pub record Issues {L : Type 0} (old new : Moment L) (act : Act) (next : Result Due Hold) : Type 0 where
  pub link : new.link ≡ old.link
  pub told : act ≡ told_of next
  pub driver : new.driver ≡ with_requests old.driver (issued_if old.driver.requests next)
  pub regs : new.regs ≡ rung_for old.regs next
  pub written : WritesFor old.driver.requests.plan old.memory new.memory next

-- what was to do is done
abbrev pub Does : {L : Type 0} → (L → Call → L → Type 0) → (old new : Moment L) → Option Cause → Act → Work → Type 0
Does made old new cause act Recover = Recovers made old new act
Does made old new cause act Collect = Collects old new act
Does made old new cause act Fail = Fails old new cause act
Does made old new cause act Issue = Issues old new act (due_of old.driver.requests)

-- an event; `cause` is why the engine stopped
abbrev pub Event : {L : Type 0} → (L → Call → L → Type 0) → (old new : Moment L) → Option Cause → Act → Type 0
Event made old new cause act = Does made old new cause act (work_of old.driver.recovery old.regs)

-- the step of a recovery that an event took; any other event uses no link
abbrev pub step_of : Act → Step
step_of (Stepped step) = step
step_of act = Moved

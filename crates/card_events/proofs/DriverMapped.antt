-- An event of the driver over a link is one over what the link is seen as.
use Rattle.std.proofs.Common.{◌≡◌, ap}
use Rattle.std.specs.Prelude.{Option}
use Rattle.bus_link.specs.Link.{Call}
use Rattle.bus_link.specs.Link.Call.{Exchanged}
use Rattle.bus_link.specs.declared.link.Cause.{Cause}
use Rattle.drv_core.specs.Event.{Collects, Does, Event, Fails, IsAside, Issues, Moment, Recovers}
use Rattle.drv_core.specs.Work.{work_of}
use Rattle.drv_core.specs.declared.act.Act.{Act}
use Rattle.drv_core.specs.declared.work.Work.{Work}
use Rattle.drv_core.specs.declared.work.Work.TheVariants.{Recover, Collect, Fail, Issue}
use Rattle.drv_recover.specs.Recovery.{Discards, Does as StepDoes, Event as RecoveryEvent, Silent, discard_queue}
use Rattle.drv_recover.specs.declared.recovery.RecoveryState.{RecoveryState}
use Rattle.drv_recover.specs.declared.recovery.RecoveryState.TheVariants.{Calm, Halted, Cleared, Discarded, Cleaned, Resumed}
use Rattle.drv_recover.specs.declared.recovery.Step.{Step}

abbrev pub seen_at : {L M : Type 0} → (L → M) → Moment L → Moment M
seen_at seen m = record { driver = m.driver; regs = m.regs; memory = m.memory; link = seen m.link }

module _ {L M : Type 0} (seen : L → M) (made : L → Call → L → Type 0) (made' : M → Call → M → Type 0)
    (maps : (old : L) (call : Call) (new : L) → made old call new → made' (seen old) call (seen new)) where
  silent_mapped : (old new : L) (step expected : Step) → Silent old new step expected → Silent (seen old) (seen new) step expected
  silent_mapped old new step expected s = record { link = ap seen s.link; told = s.told }

  step_mapped : (old new : L) (state : RecoveryState) (step : Step) → StepDoes made old new state step → StepDoes made' (seen old) (seen new) state step
  step_mapped old new Calm step d = silent_mapped old new step _ d
  step_mapped old new Halted step d = silent_mapped old new step _ d
  step_mapped old new Cleared step d = record { answer = d.answer; crossed = maps old (Exchanged discard_queue d.answer) new d.crossed; told = d.told }
  step_mapped old new Discarded step d = silent_mapped old new step _ d
  step_mapped old new Cleaned step d = silent_mapped old new step _ d
  step_mapped old new Resumed step d = silent_mapped old new step _ d

  aside_mapped : (old new : Moment L) → IsAside old new → IsAside (seen_at seen old) (seen_at seen new)
  aside_mapped old new a = record { memory = a.memory; link = ap seen a.link }

  work_mapped : (old new : Moment L) (cause : Option Cause) (act : Act) (work : Work) → Does made old new cause act work
      → Does made' (seen_at seen old) (seen_at seen new) cause act work
  work_mapped old new cause act Recover d = record {
    step = d.step;
    told = d.told;
    event = record { does = step_mapped old.link new.link old.driver.recovery d.step d.event.does; place = d.event.place; registers = d.event.registers };
    requests = d.requests;
    memory = d.memory;
  }
  work_mapped old new cause act Collect d = record { aside = aside_mapped old new d.aside; told = d.told; driver = d.driver; regs = d.regs }
  work_mapped old new cause act Fail d = record { aside = aside_mapped old new d.aside; told = d.told; driver = d.driver; regs = d.regs }
  work_mapped old new cause act Issue d = record { link = ap seen d.link; told = d.told; driver = d.driver; regs = d.regs; written = d.written }

  pub event_mapped : (old new : Moment L) (cause : Option Cause) (act : Act) → Event made old new cause act
      → Event made' (seen_at seen old) (seen_at seen new) cause act
  event_mapped old new cause act e = work_mapped old new cause act (work_of old.driver.recovery old.regs) e

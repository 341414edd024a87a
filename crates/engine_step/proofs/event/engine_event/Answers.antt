use Rattle.std.proofs.Common.{refl}
use Rattle.engine_step.proofs.Taken.{taken_event}
use Rattle.engine_step.proofs.event.engine_event.Goals as goal

pub returns-clause-event : goal.returns-clause-event
returns-clause-event g c =
    let e = c.engine_event-did.ensures in
    let store = rw c.store.ensures at c.keeps_lines.ensures in
    rw (← c.path.view_is)
    (taken_event _
    (record {
      driver = c.path.inside.driver;
      regs = c.engine_event-did.new.regs;
      memory = c.engine_event-did.new.mem;
      engine = c.engine_event-did.new.engine;
      card = c.engine_event-did.new.card;
      script = c.engine_event-did.new.script;
    }) _ _ _ _ _ c.take_phase-phase.ensures e.event refl e.fits e.holds e.lie e.ends e.space e.idle e.ring e.slots e.done e.set_up e.counts e.one store)

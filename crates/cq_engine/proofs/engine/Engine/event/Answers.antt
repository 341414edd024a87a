use Rattle.std.proofs.Common.{◌≡◌, length, refl, sym, ◌∙◌, ap, subst}
use Rattle.std.specs.Prelude.{Option, IsSome}
use Rattle.std.specs.Option.{option_or}
use Rattle.bus_link.specs.declared.link.Cause.{Cause}
use Rattle.cq_schedule.specs.Held.{Places, noted, remembered}
use Rattle.cq_schedule.specs.Holding.{HoldsTasks}
use Rattle.cq_engine.specs.Holds.{AreCounted, LieIn}
use Rattle.cq_engine.specs.Event.{Acts}
use Rattle.cq_engine.specs.Outcome.{host_of, outcome_of, stop_of}
use Rattle.cq_engine.proofs.Busy.{idle_acts}
use Rattle.cq_engine.proofs.Counting.{acts_count, counted_left, tallied_kept}
use Rattle.cq_engine.proofs.Events.{acts_keeps, caused, holding_is}
use Rattle.cq_engine.proofs.Keeping.{holds_has}
use Rattle.cq_engine.proofs.Lying.{lie_noted, lie_remembered, lie_same}
use Rattle.cq_engine.proofs.Opening.{acts_one}
use Rattle.cq_engine.proofs.Outcomes.{Keeps}
use Rattle.cq_engine.proofs.Places.{length-remembered}
use Rattle.cq_engine.proofs.Standing.{Follows, acts_follow}
use Rattle.cq_engine.proofs.engine.Engine.event.Given as given
use Rattle.cq_engine.proofs.engine.Engine.event.Goals as goal

held_is : (g : given.Over) (c : goal.After-keeps_ring-2 g) → c.self.inside.held ≡ c.args.self.now.held
held_is g c = ap (λ v. v.held) c.self.view_is

cause_is : (g : given.Over) (c : goal.After-keeps_ring-2 g) → c.self.inside.cause ≡ c.args.self.now.cause
cause_is g c = ap (λ v. v.cause) c.self.view_is

forgotten : (g : given.Over) (c : goal.After-keeps_ring-2 g) → c.forget.new.self ≡ remembered c.args.self.now.held c.args.regs.now
forgotten g c = c.forget.ensures.all ∙ ap (λ held. remembered held c.args.regs.now) (held_is g c)

pub returns-clause-event : goal.returns-clause-event
returns-clause-event g c =
    let P : Places → Type 0 = λ held. Acts g.L.Link.made c.args.link.now c.act-did.new.link (host_of held c.args.regs.now) c.args.mem.now c.act-did.new.mem (outcome_of c.act-did.result c.act-did.new.held c.act-did.new.regs) in
    record {
      left = host_of c.act-did.new.held c.act-did.new.regs;
      acts = subst P (forgotten g c) c.act-did.ensures.acts;
      registers = refl;
      keeps = holding_is c.note.new.self (noted c.act-did.new.held c.act-did.new.regs) c.note_stop.new.cause (option_or (stop_of c.act-did.result) c.args.self.now.cause)
          c.note.ensures.all (c.note_stop.ensures ∙ ap (option_or (stop_of c.act-did.result)) (cause_is g c));
    }

kept : (g : given.Over) (c : goal.After-keeps_ring-2 g)
    → Keeps c.args.regs.now.stopped c.args.mem.now (outcome_of c.act-did.result c.act-did.new.held c.act-did.new.regs)
kept g c =
    let long : length c.forget.new.self ≡ 32 = ap length (forgotten g c) ∙ length-remembered c.args.self.now.held c.args.regs.now in
    let P : Places → Type 0 = λ held. LieIn c.args.mem.now held in
    let Q : Places → Type 0 = λ held. HoldsTasks held c.args.regs.now in
    acts_keeps g.L.Link.made c.args.link.now c.act-did.new.link (host_of c.forget.new.self c.args.regs.now) c.args.mem.now c.act-did.new.mem
    (outcome_of c.act-did.result c.act-did.new.held c.act-did.new.regs)
    (record {
      tasks = holds_has c.forget.new.self c.args.regs.now (c.forget.ensures.holds (subst Q (sym (held_is g c)) c.requires.holds.tasks));
      long = long;
      lie = lie_remembered c.args.mem.now c.self.inside.held c.forget.new.self c.args.regs.now c.forget.ensures.each (subst P (sym (held_is g c)) c.requires.lie);
    }) c.act-did.ensures.acts

pub returns-clause-holds : goal.returns-clause-holds
returns-clause-holds g c =
    let P : Option Cause → Type 0 = λ o. IsSome o in
    record {
      cause = λ stopped. subst P (sym (c.note_stop.ensures ∙ ap (option_or (stop_of c.act-did.result)) (cause_is g c)))
          (caused (stop_of c.act-did.result) c.args.self.now.cause c.args.regs.now.stopped c.requires.holds.cause ((kept g c).stops stopped));
      tasks = c.note.ensures.holds (kept g c).tasks;
    }

pub returns-clause-lie : goal.returns-clause-lie
returns-clause-lie g c =
    lie_noted c.act-did.new.mem c.act-did.new.held c.note.new.self c.act-did.new.regs c.note.ensures.each
    (lie_same c.args.mem.now c.act-did.new.mem c.act-did.new.held c.act-did.ensures.space (kept g c).lie)

pub returns-clause-idle : goal.returns-clause-idle
returns-clause-idle g c =
    idle_acts g.L.Link.made c.args.link.now c.act-did.new.link (host_of c.forget.new.self c.args.regs.now) c.args.mem.now c.act-did.new.mem
    (outcome_of c.act-did.result c.act-did.new.held c.act-did.new.regs) c.keeps_ring.ensures.ring c.act-did.ensures.acts

follows : (g : given.Over) (c : goal.After-keeps_ring-2 g)
    → Follows c.args.regs.now (outcome_of c.act-did.result c.act-did.new.held c.act-did.new.regs)
follows g c =
    acts_follow g.L.Link.made c.args.link.now c.act-did.new.link (host_of c.forget.new.self c.args.regs.now) c.args.mem.now c.act-did.new.mem
    (outcome_of c.act-did.result c.act-did.new.held c.act-did.new.regs) c.act-did.ensures.acts

pub returns-clause-slots : goal.returns-clause-slots
returns-clause-slots g c = (follows g c).slots

pub returns-clause-done : goal.returns-clause-done
returns-clause-done g c = (follows g c).done

pub returns-clause-set_up : goal.returns-clause-set_up
returns-clause-set_up g c = (follows g c).set_up

pub returns-clause-counts : goal.returns-clause-counts
returns-clause-counts g c counted =
    let P : Places → Type 0 = λ held. AreCounted held in
    let long : length c.forget.new.self ≡ 32 = ap length (forgotten g c) ∙ length-remembered c.args.self.now.held c.args.regs.now in
    counted_left c.act-did.new.held c.note.new.self c.act-did.new.regs c.note.ensures.each
    (acts_count g.L.Link.made c.args.link.now c.act-did.new.link (host_of c.forget.new.self c.args.regs.now) c.args.mem.now c.act-did.new.mem
    (outcome_of c.act-did.result c.act-did.new.held c.act-did.new.regs) long
    (tallied_kept c.self.inside.held c.forget.new.self c.args.regs.now c.forget.ensures.each (subst P (sym (held_is g c)) counted))
    c.act-did.ensures.acts)

pub returns-clause-one : goal.returns-clause-one
returns-clause-one g c one =
    acts_one g.L.Link.made c.args.link.now c.act-did.new.link (host_of c.forget.new.self c.args.regs.now) c.args.mem.now c.act-did.new.mem
    (outcome_of c.act-did.result c.act-did.new.held c.act-did.new.regs) c.keeps_ring.ensures.ring c.act-did.ensures.acts one

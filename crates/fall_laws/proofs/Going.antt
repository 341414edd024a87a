-- The script goes on with each event of the engine.
use Rattle.std.proofs.Common.{◌≡◌, ap, subst, arith, false}
use Rattle.std.specs.Prelude.{Option}
use Rattle.array_edge.specs.Array.{ArrayState}
use Rattle.bus_link.specs.Script.{Script}
use Rattle.card_core.specs.declared.phase.Phase.{Phase}
use Rattle.card_link.specs.Behind.{Behind, behind}
use Rattle.card_link.specs.Made.{CardMade}
use Rattle.cq_engine.proofs.Places.{length-remembered}
use Rattle.cq_engine.specs.Event.{Does}
use Rattle.cq_engine.specs.Outcome.{Outcome}
use Rattle.cq_engine.specs.Words.{poll_of}
use Rattle.cq_engine.specs.declared.did.Did.{Did}
use Rattle.cq_schedule.specs.declared.rules.Due.{Due}
use Rattle.world_state.specs.Engine.{EngineEvent}
use Rattle.world_state.specs.Path.{PathState, behind_path}
use Rattle.world_state.specs.Ties.{AreTied}
use Rattle.fall_laws.specs.Falls.{ScriptGoesOn}
use Rattle.fall_laws.proofs.Charges.{command_charges}
use Rattle.fall_laws.proofs.Coming.{Comes, comes, is_phase}
use Rattle.fall_laws.proofs.Coming.Comes.{Called, Dropped, Rests, Polls}
use Rattle.fall_laws.proofs.Engines.{host_of}
use Rattle.fall_laws.proofs.Mosts.{left_so}

stays_on : (old new : Script) → new ≡ old → ScriptGoesOn old new
stays_on old new same =
    let sent : new.sent ≡ old.sent = ap (λ (s : Script). s.sent) same in
    let used : new.used ≡ old.used = ap (λ (s : Script). s.used) same in
    record {
      hits = ap (λ (s : Script). s.hits) same;
      ready = ap (λ (s : Script). s.ready) same;
      sent = omega (arith, sent);
      used = omega (arith, used);
    }

by_coming : (p p' : PathState) (a a' : ArrayState) (did : Did) (phase : Option Phase) (e : EngineEvent p a p' a' did phase) → AreTied p
    → Comes (host_of p) (behind_path p a) (behind e.card a' p'.script) (is_phase e.event.acts.due) (record { did = did; host = e.event.left }) e.event.acts.due
    → ScriptGoesOn p.script p'.script
by_coming p p' a a' did phase e t (Called struck shape charges) = charges.on
by_coming p p' a a' did phase e t (Dropped link stopped less) = stays_on p.script p'.script (ap (λ (b : Behind). b.script) link)
by_coming p p' a a' did phase e t (Rests still) =
    stays_on p.script p'.script (ap (λ (b : Behind). b.script) (left_so p p' a a' e.card did e.event.left e.event.acts.due e.event.acts.does still).1)
by_coming p p' a a' did phase e t (Polls due) =
    let P : Due → Type 0 = λ d. Does CardMade (behind_path p a) (behind e.card a' p'.script) (host_of p) p.memory p'.memory (record { did = did; host = e.event.left }) d in
    let x = (subst P due e.event.acts.does).0 in
    let c = command_charges (behind_path p a) (behind e.card a' p'.script) (poll_of p.regs) x.answer false x.crossed t.script in
    c.on

pub engine_goes_on : (p : PathState) (a : ArrayState) (p' : PathState) (a' : ArrayState) (did : Did) (phase : Option Phase) → EngineEvent p a p' a' did phase → AreTied p
    → ScriptGoesOn p.script p'.script
engine_goes_on p a p' a' did phase e t =
    let outcome : Outcome = record { did = did; host = e.event.left } in
    by_coming p p' a a' did phase e t
    (comes (behind_path p a) (behind e.card a' p'.script) (host_of p) p.memory p'.memory outcome e.event.acts.due (length-remembered p.engine.held p.regs) t.script
    e.event.acts.slot e.event.acts.does)

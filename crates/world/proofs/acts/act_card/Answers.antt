use Rattle.std.proofs.Common.{◌≡◌, ◌∙◌, true, Option, None, Some, Err, ap, refl, subst}
use Rattle.card_core.specs.Card.{CardState}
use Rattle.card_core.specs.declared.phase.Phase.{Phase}
use Rattle.card_store.specs.declared.ends.StageEnd.{StageEnd}
use Rattle.card_store.specs.declared.ends.StageEnd.TheVariants.{PowerLost}
use Rattle.power_laws.specs.Power.{CardEvent, phase_cut}
use Rattle.step_laws.specs.Acts.{Written, taken_from}
use Rattle.world_state.specs.Engine.{phase_line_of}
use Rattle.world_state.specs.Path.{PathState}
use Rattle.world.proofs.acts.act_card.Goals as goal

-- the phase under way is that before the event
line_same : (p : PathState) (card : CardState) (begun : Option Phase) → phase_line_of (record p { card = card }) (record p { card = card }) begun ≡ phase_line_of p p begun
line_same p card None = refl
line_same p card (Some phase) = refl

pub returns-in-Err-PowerLost-clause-acted : goal.returns-in-Err-PowerLost-clause-acted
returns-in-Err-PowerLost-clause-acted g c =
    let event = subst (λ (e : StageEnd). CardEvent c.args.path.now (g.A.Array.state c.args.array.now) c.card_event.new.path (g.A.Array.state c.card_event.new.array) (Err e)) c.in-Err-PowerLost.field-0-is c.in-Err-PowerLost.ensures.event in
    let same : phase_cut c.card_event.new.path ≡ phase_cut c.args.path.now =
    ap (λ (q : PathState). phase_cut q) event.stored.path ∙ line_same c.args.path.now c.card_event.new.path.card c.args.path.now.card.begun in
    record {
      path = c.card_event.new.path;
      array = g.A.Array.state c.card_event.new.array;
      end = Err PowerLost;
      event = event;
      written = subst (λ lines. Written g.K.Sink.took lines true (taken_from c.card_event.new.path) (g.A.Array.state c.card_event.new.array) c.args.out.now c.lose_power.result c.lose_power.new.path (g.A.Array.state c.lose_power.new.array) c.lose_power.new.out)
          same c.lose_power.ensures.acted;
    }

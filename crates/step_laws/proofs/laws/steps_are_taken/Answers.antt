use Rattle.io_edge.specs.Sink.{Joins}
use Rattle.step_laws.proofs.Events.{card_steps, engine_steps, host_steps, power_steps}
use Rattle.step_laws.specs.Laws.{AreLaws}
use Rattle.step_laws.proofs.laws.steps_are_taken.Goals as goal

pub returns : goal.returns
returns g c =
    let both : Joins g.K.Sink.took = record { join = g.met.K.Sink.took_both } in
    let l : AreLaws = record { events = c.events_are_known.ensures; lines = c.lines_are_known.ensures; causes = c.causes_are_known.ensures } in
    record {
      host = host_steps g.K.Sink.took both l;
      engine = engine_steps g.K.Sink.took both l;
      card = card_steps g.K.Sink.took both l;
      power = power_steps g.K.Sink.took both l;
    }

use Rattle.storage_model.specs.Count.{Later}
use Rattle.whole_run.specs.Course.{IsGoing, Went}
use Rattle.world_state.specs.Work.{left_to_do}
use Rattle.whole_run.proofs.run.take_events.Given as goal

abbrev pub invariant-loop-world : goal.invariant-loop-world
invariant-loop-world g l = record {
  went : Went g.K.Sink.took l.initial.world (g.A.Array.state l.initial.array) l.initial.out l.world (g.A.Array.state l.array) l.out;
  going : IsGoing l.world (g.A.Array.state l.array);
  faults : Later (g.K.Sink.faults l.initial.out) (g.K.Sink.faults l.out);
}

abbrev pub decreases-loop-world : goal.decreases-loop-world
decreases-loop-world g l = left_to_do l.world.path l.world.order

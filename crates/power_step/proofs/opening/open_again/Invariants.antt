use Rattle.std.proofs.Common.{◌≤◌, ◌-◌}
use Rattle.storage_model.specs.Count.{Later}
use Rattle.cut_laws.specs.Laws.{further_cuts}
use Rattle.trace_text.specs.Trace.{items_text}
use Rattle.power_step.specs.Cut.{IsKept, IsLike}
use Rattle.power_step.proofs.opening.open_again.Given as goal

abbrev pub invariant-loop-cuts : goal.invariant-loop-cuts
invariant-loop-cuts g l = record {
  few : l.cuts ≤ 8;
  taken : g.K.Sink.took l.initial.out (items_text (further_cuts l.cuts)) l.out;
  kept : IsKept l.cuts 0 (g.A.Array.state l.initial.array) (g.A.Array.state l.array);
  card : IsLike l.initial.card l.card;
  faults : Later (g.K.Sink.faults l.initial.out) (g.K.Sink.faults l.out);
}

abbrev pub decreases-loop-cuts : goal.decreases-loop-cuts
decreases-loop-cuts g l = 8 - l.cuts

use Rattle.std.proofs.Common.{◌≡◌}
use Rattle.trace_judge.proofs.Lines.{Took}
use Rattle.trace_judge.proofs.judge.judge.Given as goal

abbrev pub invariant-loop-item : goal.invariant-loop-item
invariant-loop-item l = record {
  line : l.line ≡ l.item-index;
  took : Took l.initial.state l.state l.items l.item-index;
}

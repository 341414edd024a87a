-- What was taken so far and what is left are, one after the other, what was left at first.
use Rattle.std.proofs.Common.{◌≡◌, ◌≤◌, ◌-◌, vec_len}
use Rattle.io_edge.specs.Source.{joined}
use Rattle.io_edge.proofs.take.take_all.Given as goal

abbrev pub invariant-loop-piece : goal.invariant-loop-piece
invariant-loop-piece g l = record {
  within : vec_len l.taken ≤ l.most;
  joined : joined l.taken.items (g.S.Source.left l.source) ≡ g.S.Source.left l.initial.source;
  calm : g.S.Source.faults l.source ≡ g.S.Source.faults l.initial.source;
}

abbrev pub decreases-loop-piece : goal.decreases-loop-piece
decreases-loop-piece g l = l.most - vec_len l.taken

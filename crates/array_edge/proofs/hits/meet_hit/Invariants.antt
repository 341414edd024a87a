use Rattle.std.proofs.Common.{◌-◌, length}
use Rattle.array_edge.specs.Hits.{IsPast}
use Rattle.array_edge.proofs.hits.meet_hit.Given as goal

abbrev pub invariant-loop-place : goal.invariant-loop-place
invariant-loop-place l = IsPast l.hits l.fetch l.number l.place

abbrev pub decreases-loop-place : goal.decreases-loop-place
decreases-loop-place l = length l.hits - l.place

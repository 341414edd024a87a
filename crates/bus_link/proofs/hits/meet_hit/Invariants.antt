use Rattle.std.proofs.Common.{◌-◌, length}
use Rattle.bus_link.specs.Hits.{IsPast}
use Rattle.bus_link.proofs.hits.meet_hit.Given as goal

abbrev pub invariant-loop-place : goal.invariant-loop-place
invariant-loop-place l = IsPast l.hits l.number l.place

abbrev pub decreases-loop-place : goal.decreases-loop-place
decreases-loop-place l = length l.hits - l.place

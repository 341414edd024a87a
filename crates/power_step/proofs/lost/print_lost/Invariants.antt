use Rattle.std.proofs.Common.{◌-◌, Result}
use Rattle.storage_model.specs.Count.{Later}
use Rattle.storage_model.specs.declared.ends.Halt.{Halt}
use Rattle.power_step.specs.Cut.{LostWritten}
use Rattle.power_step.proofs.lost.print_lost.Given as goal

abbrev pub invariant-loop-id : goal.invariant-loop-id
invariant-loop-id g l = record {
  lost : (result : Result (Unit {0}) Halt) (new : g.row.K.Denot) → LostWritten g.K.Sink.took l.driver.requests.holders l.last l.out result new → LostWritten g.K.Sink.took l.driver.requests.holders 0 l.initial.out result new;
  faults : Later (g.K.Sink.faults l.initial.out) (g.K.Sink.faults l.out);
}

abbrev pub decreases-loop-id : goal.decreases-loop-id
decreases-loop-id g l = 4294967296 - l.last

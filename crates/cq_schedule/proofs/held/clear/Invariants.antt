use Rattle.std.specs.Prelude.{None}
use Rattle.cq_schedule.proofs.Filling.{IsFilled}
use Rattle.cq_schedule.proofs.held.clear.Given as goal

abbrev pub invariant-loop-slot : goal.invariant-loop-slot
invariant-loop-slot l = IsFilled (λ _. None) l.initial.places l.places l.slot

use Rattle.std.proofs.Common.{arith, subst}
use Rattle.std.specs.Prelude.{None}
use Rattle.cq_schedule.proofs.Filling.{IsFilled, filled_none_held}
use Rattle.cq_schedule.proofs.held.clear.Goals as goal

pub returns : goal.returns
returns c =
    filled_none_held c.args.places.now c.loop-slot.places
    (subst (IsFilled (λ _. None) c.args.places.now c.loop-slot.places) (omega arith) c.loop-slot.invariant)

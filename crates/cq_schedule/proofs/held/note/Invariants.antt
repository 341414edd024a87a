use Rattle.cq_regs.specs.Slots.{progress_of}
use Rattle.cq_schedule.specs.Held.{held_at, left_at}
use Rattle.cq_schedule.proofs.Filling.{IsFilled}
use Rattle.cq_schedule.proofs.held.note.Given as goal

abbrev pub invariant-loop-slot : goal.invariant-loop-slot
invariant-loop-slot l = IsFilled (λ slot. left_at (progress_of l.regs.ring slot) (held_at l.initial.places slot)) l.initial.places l.places l.slot

use Rattle.std.proofs.Common.{◌≡◌}
use Rattle.cq_regs.specs.Slots.{with_first}
use Rattle.cq_regs.proofs.slots.ring_slots.Given as goal

abbrev pub invariant-loop-slot : goal.invariant-loop-slot
invariant-loop-slot l = l.ring.items ≡ with_first l.fn.ring.items l.anew l.slot

use Rattle.std.proofs.Common.{◌≡◌, ◌++◌, take, drop}
use Rattle.cq_regs.specs.Slots.{advanced}
use Rattle.cq_regs.proofs.slots.advance.Given as goal

abbrev pub invariant-loop-r : goal.invariant-loop-r
invariant-loop-r l = l.slots ≡ advanced (take l.r-index l.initial.slots) l.slot ++ drop l.r-index l.initial.slots

use Rattle.std.proofs.Common.{◌≡◌, ◌++◌, take, drop}
use Rattle.cq_regs.specs.Slots.{made_ready}
use Rattle.cq_regs.proofs.slots.make_ready.Given as goal

abbrev pub invariant-loop-r : goal.invariant-loop-r
invariant-loop-r l = l.slots ≡ made_ready (take l.r-index l.initial.slots) l.word ++ drop l.r-index l.initial.slots

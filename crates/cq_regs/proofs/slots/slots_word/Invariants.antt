use Rattle.std.proofs.Common.{◌≡◌, take}
use Rattle.cq_regs.specs.Slots.{slots_word}
use Rattle.cq_regs.proofs.slots.slots_word.Given as goal

abbrev pub invariant-loop-r : goal.invariant-loop-r
invariant-loop-r l = l.word ≡ slots_word (take l.r-index l.slots)

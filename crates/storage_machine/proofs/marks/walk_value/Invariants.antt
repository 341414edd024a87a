use Rattle.std.proofs.Common.{◌≡◌, drop}
use Rattle.storage_machine.specs.PutIndex.{puts_on, value_after}
use Rattle.storage_machine.proofs.marks.walk_value.Given as goal

abbrev pub invariant-loop-mark : goal.invariant-loop-mark
invariant-loop-mark l = value_after l.value (puts_on l.sector (drop l.mark-index l.marks)) ≡ value_after l.initial.value (puts_on l.sector l.marks)

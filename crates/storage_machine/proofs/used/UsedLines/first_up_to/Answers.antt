use Rattle.storage_machine.proofs.FirstFlags.{first-before}
use Rattle.storage_machine.proofs.used.UsedLines.first_up_to.Goals as goal

pub line_up_to-requires-clause-before : goal.line_up_to-requires-clause-before
line_up_to-requires-clause-before c k low = rw c.as_slice.ensures (first-before c.self.inside.unused k (rw (← c.start-from.ensures) low))

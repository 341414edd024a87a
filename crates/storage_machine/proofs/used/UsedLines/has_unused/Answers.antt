use Rattle.storage_machine.proofs.FirstFlags.{first-before}
use Rattle.storage_machine.proofs.used.UsedLines.has_unused.Goals as goal

pub has_line-requires-clause-before : goal.has_line-requires-clause-before
has_line-requires-clause-before c k low = rw c.as_slice.ensures (first-before c.self.inside.unused k (rw (← c.start-from.ensures) low))

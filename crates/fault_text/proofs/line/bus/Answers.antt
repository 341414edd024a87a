use Rattle.fault_text.proofs.LineWords.{no_bus}
use Rattle.fault_text.proofs.line.bus.Goals as goal

pub returns-in_err-n : goal.returns-in_err-n
returns-in_err-n c = rw c.from_residual.ensures (no_bus c.args.words c.in_err-n.ensures)

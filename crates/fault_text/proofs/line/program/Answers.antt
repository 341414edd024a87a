use Rattle.fault_text.proofs.LineWords.{no_program}
use Rattle.fault_text.proofs.line.program.Goals as goal

pub returns-in_err-n : goal.returns-in_err-n
returns-in_err-n c = rw c.from_residual.ensures (no_program c.args.words c.in_err-n.ensures)

use Rattle.raw_text.proofs.OpWords.{no_read}
use Rattle.raw_text.proofs.line.read.Goals as goal

pub returns-in_err-reg : goal.returns-in_err-reg
returns-in_err-reg c = rw c.from_residual.ensures (no_read c.args.words c.in_err-reg.ensures)

use Rattle.raw_text.proofs.OpWords.{no_fill}
use Rattle.raw_text.proofs.line.fill.Goals as goal

pub returns-in_err-at : goal.returns-in_err-at
returns-in_err-at c = rw c.from_residual.ensures (no_fill c.args.words c.in_err-at.ensures)

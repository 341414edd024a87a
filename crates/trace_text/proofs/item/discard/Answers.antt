use Rattle.trace_text.proofs.ItemWords.{no_discard}
use Rattle.trace_text.proofs.item.discard.Goals as goal

pub returns-in_err-n : goal.returns-in_err-n
returns-in_err-n c = rw c.from_residual.ensures (no_discard c.args.words c.in_err-n.ensures)

use Rattle.trace_text.proofs.ItemWords.{no_cut}
use Rattle.trace_text.proofs.item.cut.Goals as goal

pub returns-in_err-end : goal.returns-in_err-end
returns-in_err-end c = rw c.from_residual.ensures (no_cut c.args.words c.in_err-end.ensures)

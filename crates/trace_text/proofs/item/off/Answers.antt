use Rattle.trace_text.proofs.ItemWords.{no_off}
use Rattle.trace_text.proofs.item.off.Goals as goal

pub returns-in_err-end : goal.returns-in_err-end
returns-in_err-end c = rw c.from_residual.ensures (no_off c.args.words c.in_err-end.ensures)

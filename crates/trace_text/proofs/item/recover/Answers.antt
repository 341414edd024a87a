use Rattle.trace_text.proofs.ItemWords.{no_recover}
use Rattle.trace_text.proofs.item.recover.Goals as goal

pub returns-in_err-end : goal.returns-in_err-end
returns-in_err-end c = rw c.from_residual.ensures (no_recover c.args.words c.in_err-end.ensures)

use Rattle.trace_text.proofs.ItemWords.{no_left}
use Rattle.trace_text.proofs.item.left.Goals as goal

pub returns-in_err-sector : goal.returns-in_err-sector
returns-in_err-sector c = rw c.from_residual.ensures (no_left c.args.words c.in_err-sector.ensures)

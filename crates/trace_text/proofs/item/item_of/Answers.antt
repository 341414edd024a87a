use Rattle.trace_text.proofs.ItemWords.{no_other}
use Rattle.trace_text.proofs.item.item_of.Goals as goal

pub returns-in_err-value : goal.returns-in_err-value
returns-in_err-value c = rw c.from_residual.ensures (no_other c.args.first.now c.args.words c.in_default.ensures c.in_default-read_decimal.ensures c.in_err-value.ensures)

use Rattle.trace_text.proofs.ItemWords.{no_address}
use Rattle.trace_text.proofs.item.address.Goals as goal

pub returns-in_err-n : goal.returns-in_err-n
returns-in_err-n c = rw c.from_residual.ensures (no_address c.args.words c.in_err-n.ensures)

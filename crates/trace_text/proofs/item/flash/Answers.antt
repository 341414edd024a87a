use Rattle.trace_text.proofs.ItemWords.{no_flash}
use Rattle.trace_text.proofs.item.flash.Goals as goal

pub returns-in_err-id : goal.returns-in_err-id
returns-in_err-id c = rw c.from_residual.ensures (no_flash c.args.words c.in_err-id.ensures)

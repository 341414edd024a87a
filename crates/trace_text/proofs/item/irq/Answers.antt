use Rattle.trace_text.proofs.ItemWords.{no_irq}
use Rattle.trace_text.proofs.item.irq.Goals as goal

pub returns-in_err-mask : goal.returns-in_err-mask
returns-in_err-mask c = rw c.from_residual.ensures (no_irq c.args.words c.in_err-mask.ensures)

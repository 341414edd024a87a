use Rattle.trace_text.proofs.ItemWords.{no_phase}
use Rattle.trace_text.proofs.item.phase.Goals as goal

pub returns-in_err-n : goal.returns-in_err-n
returns-in_err-n c = rw c.from_residual.ensures (no_phase c.args.words c.in_err-n.ensures)

use Rattle.trace_text.proofs.ItemWords.{no_issue}
use Rattle.trace_text.proofs.item.issue.Goals as goal

pub returns-in_err-id : goal.returns-in_err-id
returns-in_err-id c = rw c.from_residual.ensures (no_issue c.args.words c.in_err-id.ensures)

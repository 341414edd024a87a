use Rattle.std.proofs.Common.{arith}
use Rattle.trace_text.proofs.ItemWords.{no_answer_refused}
use Rattle.trace_text.proofs.item.refused.Goals as goal

pub returns-in_err-why : goal.returns-in_err-why
returns-in_err-why c = rw c.from_residual.ensures (no_answer_refused c.args.id c.args.words (omega arith) c.in_err-why.ensures)

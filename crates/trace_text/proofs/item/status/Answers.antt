use Rattle.std.proofs.Common.{arith}
use Rattle.trace_text.proofs.ItemWords.{no_answer_status}
use Rattle.trace_text.proofs.item.status.Goals as goal

pub returns-in_err-word : goal.returns-in_err-word
returns-in_err-word c = rw c.from_residual.ensures (no_answer_status c.args.id c.args.words (omega arith) c.in_err-word.ensures)

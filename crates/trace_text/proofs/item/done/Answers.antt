use Rattle.std.proofs.Common.{arith}
use Rattle.trace_text.proofs.ItemWords.{no_answer_ok}
use Rattle.trace_text.proofs.item.done.Goals as goal

pub returns-in_err-end : goal.returns-in_err-end
returns-in_err-end c = rw c.from_residual.ensures (no_answer_ok c.args.id c.args.words (omega arith) c.in_err-end.ensures)

use Rattle.std.proofs.Common.{arith}
use Rattle.trace_text.proofs.ItemWords.{no_answer_data}
use Rattle.trace_text.proofs.item.read.Goals as goal

pub returns-in_err-end : goal.returns-in_err-end
returns-in_err-end c = rw c.from_residual.ensures (no_answer_data c.args.id c.args.words (omega arith) c.in_err-end.ensures)

use Rattle.trace_text.proofs.ItemWords.{no_turn}
use Rattle.trace_text.proofs.item.turn.Goals as goal

pub returns-in_err-letter : goal.returns-in_err-letter
returns-in_err-letter c = rw c.from_residual.ensures (no_turn c.args.words c.in_err-letter.ensures)

use Rattle.trace_text.proofs.ItemWords.{no_bad_block}
use Rattle.trace_text.proofs.fields.bad_block.Goals as goal

pub returns-in_err-block : goal.returns-in_err-block
returns-in_err-block c = rw c.from_residual.ensures (no_bad_block c.args.words c.in_err-block.ensures)

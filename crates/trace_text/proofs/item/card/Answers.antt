use Rattle.trace_text.proofs.ItemWords.{no_card}
use Rattle.trace_text.proofs.item.card.Goals as goal

pub returns-in_err-sectors : goal.returns-in_err-sectors
returns-in_err-sectors c = rw c.from_residual.ensures (no_card c.args.words c.in_err-sectors.ensures)

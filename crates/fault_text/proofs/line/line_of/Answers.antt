use Rattle.fault_text.proofs.LineWords.{no_keyword}
use Rattle.fault_text.proofs.line.line_of.Goals as goal

pub returns-in-None : goal.returns-in-None
returns-in-None c = no_keyword c.args.first.now c.args.words c.in-None.ensures

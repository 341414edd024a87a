use Rattle.raw_text.proofs.OpWords.{no_name}
use Rattle.raw_text.proofs.line.op_of.Goals as goal

pub returns-in_default : goal.returns-in_default
returns-in_default c = λ op p. no_name c.args.first.now c.args.words c.in_default.ensures op p.1

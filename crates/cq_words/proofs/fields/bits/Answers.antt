use Rattle.cq_words.proofs.MaskedWrites.{masked}
use Rattle.cq_words.proofs.fields.bits.Goals as goal

pub returns-clause-value : goal.returns-clause-value
returns-clause-value c = masked c.args.word c.args.low c.args.width c.requires.narrow

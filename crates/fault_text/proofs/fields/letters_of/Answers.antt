use Rattle.std.proofs.Common.{arith}
use Rattle.fault_text.proofs.Letters.{no_letters}
use Rattle.fault_text.proofs.fields.letters_of.Goals as goal

pub returns-in_default : goal.returns-in_default
returns-in_default c = λ letters p.
    no_letters c.args.word.now letters c.loop-byte.byte-index (omega arith) c.in_default.ensures p.2

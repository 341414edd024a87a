use Rattle.std.proofs.Common.{arith}
use Rattle.cmd_words.proofs.Arguments.{word_with-lt}
use Rattle.cq_engine.proofs.words.register_of.Goals as goal

pub overflow_cast-result : goal.overflow_cast-result
overflow_cast-result c = omega (arith, word_with-lt c.args.table.now c.requires.apart c.requires.narrow, c.word_of.ensures.value)

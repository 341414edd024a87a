use Rattle.std.proofs.Common.{sym}
use Rattle.cq_words.proofs.TableLaws.{word_with-nil}
use Rattle.cq_desc.proofs.xfer.high_word.Goals as goal

pub returns-in-Nop-clause-value : goal.returns-in-Nop-clause-value
returns-in-Nop-clause-value c = rw c.in-Nop.is (sym word_with-nil)

use Rattle.std.proofs.Common.{drop}
use Rattle.cq_words.proofs.TableLaws.{IsOnTheWay}
use Rattle.cq_words.proofs.table.FieldValue.word_of.Given as goal

abbrev pub invariant-loop-entry : goal.invariant-loop-entry
invariant-loop-entry l = IsOnTheWay l.word (drop l.entry-index l.table) l.table

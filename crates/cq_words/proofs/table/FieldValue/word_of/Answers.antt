use Rattle.std.proofs.Common.{◌≡◌, ◌<◌, ◌≤◌, length, arith}
use Rattle.cq_words.specs.declared.table.FieldValue.{FieldValue}
use Rattle.cq_words.specs.Table.{word_with}
use Rattle.cq_words.proofs.TableLaws.{way-begins, way-steps, way-is_done, word_with-holds}
use Rattle.cq_words.proofs.table.FieldValue.word_of.Goals as goal

abbrev none : FieldValue
none = record { field = record { low = 0; width = 0 }; value = 0 }

pub loop-entry-init : goal.loop-entry-init
loop-entry-init c = way-begins c.args.table.now c.requires

pub loop-entry-preserved : goal.loop-entry-preserved
loop-entry-preserved c =
    let lt : c.loop-entry.entry-index < length c.args.table.now = omega arith in
    rw c.put-word.ensures
    (way-steps c.loop-entry.word c.loop-entry.entry-index c.args.table.now none lt c.loop-entry.invariant)

pub returns-clause-value : goal.returns-clause-value
returns-clause-value c =
    let le : length c.args.table.now ≤ c.loop-entry.entry-index = omega arith in
    way-is_done c.loop-entry.word c.loop-entry.entry-index c.args.table.now le c.loop-entry.invariant

pub returns-clause-holds : goal.returns-clause-holds
returns-clause-holds c fits =
    let le : length c.args.table.now ≤ c.loop-entry.entry-index = omega arith in
    let e : c.loop-entry.word ≡ word_with c.args.table.now =
    way-is_done c.loop-entry.word c.loop-entry.entry-index c.args.table.now le c.loop-entry.invariant in
    rw e (word_with-holds c.args.table.now c.requires fits)

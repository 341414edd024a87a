use Rattle.std.proofs.Common.{List, subst, sym}
use Rattle.cq_words.specs.declared.table.FieldValue.{FieldValue}
use Rattle.cq_words.specs.Table.{Fits, Holds}
use Rattle.cq_desc.proofs.TaskLaws.{task_read-holds}
use Rattle.cq_desc.proofs.task.write_task.Goals as goal

pub returns-clause-read_again : goal.returns-clause-read_again
returns-clause-read_again c small =
    let rows = c.rows_of_task.ensures.rows in
    let F : List FieldValue → Type 0 = λ table. Fits table in
    let H : List FieldValue → Type 0 = λ table. Holds c.word_of.result table in
    let holds = subst H rows (c.word_of.ensures.holds (subst F (sym rows) (c.rows_of_task.ensures.fits small))) in
    task_read-holds c.word_of.result c.args.desc.now holds.1

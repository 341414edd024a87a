use Rattle.std.proofs.Common.{sym, ap, subst, ◌∙◌, eq-eqb, Ok}
use Rattle.std.proofs.lemmas.Bool.{ne_eqb}
use Rattle.cq_words.specs.Table.{number_in, Holds}
use Rattle.cq_desc.specs.Fields.{ACT, ACT_TASK}
use Rattle.cq_desc.specs.declared.task.TaskDesc.{TaskDesc}
use Rattle.cq_desc.specs.Task.{task_read, task_table}
use Rattle.cq_desc.proofs.Refusals.{judged-not_valid, judged-bad_act, judged-good}
use Rattle.cq_desc.proofs.TaskLaws.{task_of-holds}
use Rattle.cq_desc.proofs.task.read_task.Goals as goal

pub returns-then-not-is_set-clause-value : goal.returns-then-not-is_set-clause-value
unfolding task_read
returns-then-not-is_set-clause-value c =
    sym (judged-not_valid c.args.low _ _ (sym c.is_set.ensures ∙ c.if-not-is_set.true))

pub returns-then-get-ne-ACT_TASK-clause-value : goal.returns-then-get-ne-ACT_TASK-clause-value
unfolding task_read
returns-then-get-ne-ACT_TASK-clause-value c =
    sym (judged-bad_act c.args.low _ _ (sym c.is_set.ensures ∙ c.if-not-is_set.false)
    (ne_eqb (number_in c.args.low ACT) ACT_TASK (λ e. c.if-get-ne-ACT_TASK.true (c.get.ensures.value ∙ e))))

pub returns-clause-value : goal.returns-clause-value
unfolding task_read
returns-clause-value c =
    ap Ok c.task_in.ensures
    ∙ sym (judged-good c.args.low _ _ (sym c.is_set.ensures ∙ c.if-not-is_set.false)
    (eq-eqb (number_in c.args.low ACT) ACT_TASK (sym c.get.ensures.value ∙ c.if-get-ne-ACT_TASK.false)))

pub returns-clause-table : goal.returns-clause-table
returns-clause-table c =
    let P : TaskDesc → Type 0 = λ desc. Holds c.args.low (task_table desc) in
    subst P (sym c.task_in.ensures)
    (task_of-holds c.args.low (sym c.is_set.ensures ∙ c.if-not-is_set.false) (sym c.get.ensures.value ∙ c.if-get-ne-ACT_TASK.false))

use Rattle.std.proofs.Common.{sym, ap, subst, ◌∙◌, Ok}
use Rattle.cq_words.specs.Table.{Holds}
use Rattle.cq_desc.specs.declared.direct.DirectDesc.{DirectDesc}
use Rattle.cq_desc.specs.Direct.{direct_of, direct_read, direct_table, is_direct}
use Rattle.cq_desc.proofs.Refusals.{judged-not_valid, judged-bad_act, judged-good}
use Rattle.cq_desc.proofs.DirectLaws.{direct_of-holds, not_direct-act, not_direct-response, is_direct-good}
use Rattle.cq_desc.proofs.direct.read_direct.Goals as goal

pub returns-then-not-is_set-clause-value : goal.returns-then-not-is_set-clause-value
unfolding direct_read
returns-then-not-is_set-clause-value c =
    sym (judged-not_valid c.args.low _ _ (sym c.is_set.ensures ∙ c.if-not-is_set.true))

pub returns-then-get-ne-ACT_TASK-clause-value : goal.returns-then-get-ne-ACT_TASK-clause-value
unfolding direct_read
returns-then-get-ne-ACT_TASK-clause-value c =
    sym (judged-bad_act c.args.low (is_direct c.args.low) (direct_of c.args.low) (sym c.is_set.ensures ∙ c.if-not-is_set.false)
    (not_direct-act c.args.low (λ e. c.if-get-ne-ACT_TASK.true (c.get.ensures.value ∙ e))))

pub returns-then-get-eq-RESPONSE_RESERVED-clause-value : goal.returns-then-get-eq-RESPONSE_RESERVED-clause-value
unfolding direct_read
returns-then-get-eq-RESPONSE_RESERVED-clause-value c =
    sym (judged-bad_act c.args.low (is_direct c.args.low) (direct_of c.args.low) (sym c.is_set.ensures ∙ c.if-not-is_set.false)
    (not_direct-response c.args.low (sym c.get-2.ensures.value ∙ c.if-get-eq-RESPONSE_RESERVED.true)))

pub returns-clause-value : goal.returns-clause-value
unfolding direct_read
returns-clause-value c =
    ap Ok c.direct_in.ensures
    ∙ sym (judged-good c.args.low (is_direct c.args.low) (direct_of c.args.low) (sym c.is_set.ensures ∙ c.if-not-is_set.false)
    (is_direct-good c.args.low (sym c.get.ensures.value ∙ c.if-get-ne-ACT_TASK.false)
    (λ e. c.if-get-eq-RESPONSE_RESERVED.false (c.get-2.ensures.value ∙ e))))

pub returns-clause-table : goal.returns-clause-table
returns-clause-table c =
    let P : DirectDesc → Type 0 = λ desc. Holds c.args.low (direct_table desc) in
    subst P (sym c.direct_in.ensures)
    (direct_of-holds c.args.low (sym c.is_set.ensures ∙ c.if-not-is_set.false) (sym c.get.ensures.value ∙ c.if-get-ne-ACT_TASK.false))

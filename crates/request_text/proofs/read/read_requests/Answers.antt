use Rattle.std.proofs.Common.{◌∙◌, sym, subst, arith, List, ℕ}
use Rattle.storage_model.specs.declared.plan.Plan.{Plan}
use Rattle.storage_model.specs.Plan.{IsValidPlan}
use Rattle.request_text.specs.Meaning.{IsRefused, Means}
use Rattle.request_text.specs.Settings.{plan_of}
use Rattle.request_text.proofs.Meanings.{bad_over, handed_on, lines_few, lines_mean, no_bad_line, not_refused, one_meaning, refused_front, valid_plan, whole_front}
use Rattle.request_text.proofs.read.read_requests.Goals as goal

pub returns-in_err-lines-clause-bad : goal.returns-in_err-lines-clause-bad
returns-in_err-lines-clause-bad c =
    handed_on c.from_residual.result c.in_err-lines.field-0.0 (IsRefused c.args.bytes.now) c.from_residual.ensures.1
    (refused_front c.args.bytes.now c.front_of-text.result.now c.in_err-lines.field-0.0 c.front_of-text.ensures c.in_err-lines.ensures.bad)

pub returns-in_err-lines-clause-again : goal.returns-in_err-lines-clause-again
returns-in_err-lines-clause-again c = λ plan means.
    not_refused c.from_residual.result c.args.bytes.now c.in_err-lines.field-0.0 plan c.from_residual.ensures.1
    (refused_front c.args.bytes.now c.front_of-text.result.now c.in_err-lines.field-0.0 c.front_of-text.ensures c.in_err-lines.ensures.bad) means

pub count-requires : goal.count-requires
count-requires c = omega (arith, lines_few c.front_of-text.result.now c.in_ok-lines.lines c.in_ok-lines.ensures.lines c.front_of-text.ensures.within)

pub overflow_add-result : goal.overflow_add-result
overflow_add-result c = omega (arith, c.count.ensures, lines_few c.front_of-text.result.now c.in_ok-lines.lines c.in_ok-lines.ensures.lines c.front_of-text.ensures.within)

pub returns-then-text-bytes-clause-bad : goal.returns-then-text-bytes-clause-bad
returns-then-text-bytes-clause-bad c =
    bad_over c.args.bytes.now c.front_of-text.result.now c.in_ok-lines.lines c.count.result c.front_of-text.ensures c.in_ok-lines.ensures.lines c.if-text-bytes.true c.count.ensures

pub returns-then-text-bytes-clause-again : goal.returns-then-text-bytes-clause-again
returns-then-text-bytes-clause-again c = λ plan means.
    absurd (no_bad_line c.args.bytes.now plan _ means
    (bad_over c.args.bytes.now c.front_of-text.result.now c.in_ok-lines.lines c.count.result c.front_of-text.ensures c.in_ok-lines.ensures.lines c.if-text-bytes.true c.count.ensures))

pub returns-clause-means : goal.returns-clause-means
returns-clause-means c =
    let same = whole_front c.args.bytes.now c.front_of-text.result.now c.front_of-text.ensures c.if-text-bytes.false in
    let front = lines_mean c.front_of-text.result.now c.in_ok-lines.lines c.in_ok-lines.ensures.lines c.front_of-text.ensures.within in
    subst (λ (p : Plan). Means c.args.bytes.now p) (sym c.into_plan.ensures)
    (subst (λ (t : List ℕ). Means t (plan_of c.in_ok-lines.lines.settings c.in_ok-lines.lines.jobs c.in_ok-lines.lines.blocks)) same front)

pub returns-clause-valid : goal.returns-clause-valid
returns-clause-valid c =
    let read = c.in_ok-lines.ensures.lines in
    subst (λ (p : Plan). IsValidPlan p) (sym c.into_plan.ensures) (valid_plan c.in_ok-lines.lines.settings c.in_ok-lines.lines.jobs c.in_ok-lines.lines.blocks read.set read.within)

pub returns-clause-again : goal.returns-clause-again
returns-clause-again c = λ plan means.
    let same = whole_front c.args.bytes.now c.front_of-text.result.now c.front_of-text.ensures c.if-text-bytes.false in
    let front = lines_mean c.front_of-text.result.now c.in_ok-lines.lines c.in_ok-lines.ensures.lines c.front_of-text.ensures.within in
    let here = subst (λ (t : List ℕ). Means t (plan_of c.in_ok-lines.lines.settings c.in_ok-lines.lines.jobs c.in_ok-lines.lines.blocks)) same front in
    (c.into_plan.ensures ∙ one_meaning c.args.bytes.now (plan_of c.in_ok-lines.lines.settings c.in_ok-lines.lines.jobs c.in_ok-lines.lines.blocks) plan here means, tt)

use Rattle.std.proofs.Common.{◌≡◌, arith, sym, ap, ◌∙◌}
use Rattle.std.specs.Prelude.{slice_get}
use Rattle.std.proofs.lemmas.Bool.{false≢true}
use Rattle.cq_regs.specs.declared.slots.Progress.TheVariants.{Rung}
use Rattle.cq_schedule.specs.Order.{order_of}
use Rattle.cq_schedule.proofs.Finding.{order_ends}
use Rattle.cq_schedule.proofs.Progresses.{same-true, same-false}
use Rattle.cq_schedule.proofs.Serving.{none_at_end, none_behind_served, none_behind_rung, served_here, served_more}
use Rattle.cq_schedule.proofs.schedule.next_served.Goals as goal

pub returns-in_default-clause-next : goal.returns-in_default-clause-next
returns-in_default-clause-next c =
    none_at_end c.args.held.now c.args.regs.now c.args.mem.now c.loop-k.k c.loop-k.invariant (sym c.slot_at.ensures.value ∙ c.in_default.is)

pub returns-then-holds_itself_back-clause-next : goal.returns-then-holds_itself_back-clause-next
returns-then-holds_itself_back-clause-next c =
    let bar = c.holds_itself_back.ensures.0 c.if-holds_itself_back.true in
    none_behind_rung c.args.held.now c.args.regs.now c.args.mem.now c.loop-k.k c.in-Some.slot c.loop-k.invariant
    (sym c.slot_at.ensures.value ∙ c.in-Some.is) (sym c.progress.ensures ∙ same-true c.progress.result Rung (sym c.same.ensures.value ∙ c.if-same.true))
    bar.0 bar.1

pub returns-then-same-clause-next : goal.returns-then-same-clause-next
returns-then-same-clause-next c =
    served_here c.args.held.now c.args.regs.now c.args.mem.now c.loop-k.k c.in-Some.slot c.loop-k.invariant
    (sym c.slot_at.ensures.value ∙ c.in-Some.is) (sym c.progress.ensures ∙ same-true c.progress.result Rung (sym c.same.ensures.value ∙ c.if-same.true))
    (λ bar. false≢true (sym c.if-holds_itself_back.false ∙ c.holds_itself_back.ensures.1 bar))

pub returns-then-has_flag-clause-next : goal.returns-then-has_flag-clause-next
returns-then-has_flag-clause-next c =
    none_behind_served c.args.held.now c.args.regs.now c.args.mem.now c.loop-k.k c.in-Some.slot c.loop-k.invariant
    (sym c.slot_at.ensures.value ∙ c.in-Some.is)
    (λ e. same-false c.progress.result Rung (sym c.same.ensures.value ∙ c.if-same.false) (c.progress.ensures ∙ e))
    (sym c.has_flag.ensures ∙ c.if-has_flag.true)

pub loop-k-preserved : goal.loop-k-preserved
loop-k-preserved c =
    served_more c.args.held.now c.args.regs.now c.loop-k.k c.in-Some.slot c.loop-k.invariant
    (sym c.slot_at.ensures.value ∙ c.in-Some.is)
    (λ e. same-false c.progress.result Rung (sym c.same.ensures.value ∙ c.if-same.false) (c.progress.ensures ∙ e))
    (sym c.has_flag.ensures ∙ c.if-has_flag.false)

pub returns-clause-next : goal.returns-clause-next
returns-clause-next c =
    let last : c.loop-k.k ≡ 32 = omega arith in
    none_at_end c.args.held.now c.args.regs.now c.args.mem.now c.loop-k.k c.loop-k.invariant
    (ap (λ n. slice_get (order_of c.args.regs.now.ring) n) last ∙ order_ends c.args.regs.now.ring)

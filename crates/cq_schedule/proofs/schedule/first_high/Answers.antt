use Rattle.std.proofs.Common.{◌≡◌, arith, sym, ap, ◌∙◌}
use Rattle.std.specs.Prelude.{◌&&◌, slice_get}
use Rattle.cq_regs.specs.declared.slots.Progress.TheVariants.{Ready}
use Rattle.cq_regs.specs.Slots.{progress_of}
use Rattle.cq_schedule.specs.Held.{same}
use Rattle.cq_schedule.specs.Order.{is_high, order_of}
use Rattle.cq_schedule.proofs.Finding.{past_more, past_found, past_end, order_ends}
use Rattle.cq_schedule.proofs.schedule.first_high.Goals as goal

pub returns-in_default-clause-value : goal.returns-in_default-clause-value
returns-in_default-clause-value c =
    past_end (λ slot. same (progress_of c.args.regs.now.ring slot) Ready && is_high c.args.held.now slot) (order_of c.args.regs.now.ring) c.loop-k.k c.loop-k.invariant
    (sym c.slot_at.ensures.value ∙ c.in_default.is)

pub returns-then-is_high_and_ready-clause-value : goal.returns-then-is_high_and_ready-clause-value
returns-then-is_high_and_ready-clause-value c =
    past_found (λ slot. same (progress_of c.args.regs.now.ring slot) Ready && is_high c.args.held.now slot) (order_of c.args.regs.now.ring) c.loop-k.k c.in-Some.slot c.loop-k.invariant
    (sym c.slot_at.ensures.value ∙ c.in-Some.is) (sym c.is_high_and_ready.ensures ∙ c.if-is_high_and_ready.true)

pub loop-k-preserved : goal.loop-k-preserved
loop-k-preserved c =
    past_more (λ slot. same (progress_of c.args.regs.now.ring slot) Ready && is_high c.args.held.now slot) (order_of c.args.regs.now.ring) c.loop-k.k c.in-Some.slot c.loop-k.invariant
    (sym c.slot_at.ensures.value ∙ c.in-Some.is) (sym c.is_high_and_ready.ensures ∙ c.if-is_high_and_ready.false)

pub returns-clause-value : goal.returns-clause-value
returns-clause-value c =
    let last : c.loop-k.k ≡ 32 = omega arith in
    past_end (λ slot. same (progress_of c.args.regs.now.ring slot) Ready && is_high c.args.held.now slot) (order_of c.args.regs.now.ring) c.loop-k.k c.loop-k.invariant
    (ap (λ n. slice_get (order_of c.args.regs.now.ring) n) last ∙ order_ends c.args.regs.now.ring)

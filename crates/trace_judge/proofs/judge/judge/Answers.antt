use Rattle.std.proofs.Common.{◌+◌, ℕ, None, refl, ap, sym, subst}
use Rattle.storage_model.specs.declared.trace.Item.TheVariants.{Card}
use Rattle.trace_judge.proofs.Lines.{caused, took_all, took_more, took_rejected}
use Rattle.trace_judge.specs.Verdicts.{IsRejectedAt}
use Rattle.trace_judge.proofs.judge.judge.Goals as goal

pub returns-in-Err-Rule : goal.returns-in-Err-Rule
returns-in-Err-Rule c =
    let P : ℕ → Type 0 = λ rule. IsRejectedAt c.args.base c.args.plan c.args.faults c.args.items.now (c.loop-item.line + 1) rule in
    subst P (sym c.in-Err-Rule.rule-is)
    (took_rejected c.args.base c.args.plan c.args.faults c.in_ok-state.state c.loop-item.state c.args.items.now c.loop-item.item-index (Card 0 0 None) _
    (c.loop-item.line + 1) c.in-Err-Rule.rule c.in_ok-state.ensures c.loop-item-test.true refl (ap (λ n. n + 1) c.loop-item.invariant.line)
    (caused _ c.in-Err-Rule.field-0 _ c.in-Err-Rule.field-0-is c.in-Err-Rule.ensures.cause) c.loop-item.invariant.took)

pub loop-item-preserved : goal.loop-item-preserved
loop-item-preserved c = record {
  line = ap (λ n. n + 1) c.loop-item.invariant.line;
  took = took_more c.in_ok-state.state c.loop-item.state c.accept_item.new.state c.args.items.now c.loop-item.item-index (Card 0 0 None) _
      c.loop-item-test.true refl c.in-Ok.ensures.accepted.0 c.in-Ok.ensures.accepted.1 c.loop-item.invariant.took;
}

pub returns-then-ends : goal.returns-then-ends
returns-then-ends c = (
  took_all c.args.base c.args.plan c.args.faults c.in_ok-state.state c.loop-item.state c.args.items.now c.loop-item.item-index
      c.in_ok-state.ensures c.loop-item-test.false c.loop-item.invariant.took,
  sym c.if-ends.ensures,
)

pub returns : goal.returns
returns c = (
  took_all c.args.base c.args.plan c.args.faults c.in_ok-state.state c.loop-item.state c.args.items.now c.loop-item.item-index
      c.in_ok-state.ensures c.loop-item-test.false c.loop-item.invariant.took,
  sym c.if-ends.ensures,
)

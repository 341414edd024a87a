use Rattle.std.proofs.Common.{ap, arith, length}
use Rattle.trace_text.proofs.ItemTexts.{item_line, item_parts, item_text-length, no_item}
use Rattle.trace_text.proofs.read.next_item.Goals as goal

pub returns-in_err-line-clause-none : goal.returns-in_err-line-clause-none
returns-in_err-line-clause-none c =
    rw c.from_residual.ensures (λ item after valid short is. no_item item c.args.rest.now after c.in_err-line.ensures is)

pub returns-then-line-room-clause-none : goal.returns-then-line-room-clause-none
returns-then-line-room-clause-none c = λ item after valid short is.
    let line = item_line item c.args.rest.now after c.in_ok-line.line.now c.in_ok-line.after.now valid c.in_ok-line.ensures.0 c.in_ok-line.ensures.1 is in
    omega (arith, ap length line.0, item_text-length item)

pub returns-in_err-item-clause-none : goal.returns-in_err-item-clause-none
returns-in_err-item-clause-none c =
    rw c.from_residual-in_err-item.ensures (λ item after valid short is.
    let line = item_line item c.args.rest.now after c.in_ok-line.line.now c.in_ok-line.after.now valid c.in_ok-line.ensures.0 c.in_ok-line.ensures.1 is in
    c.in_err-item.ensures item (valid, line.0))

pub returns-clause-some : goal.returns-clause-some
returns-clause-some c = (
  c.in_ok-item.ensures.0,
  item_parts c.in_ok-item.item c.args.rest.now c.in_ok-line.line.now c.in_ok-line.after.now c.in_ok-line.ensures.0 c.in_ok-item.ensures.1,
  omega (arith, ap length c.in_ok-item.ensures.1, item_text-length c.in_ok-item.item),
)

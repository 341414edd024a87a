use Rattle.std.proofs.Common.{arith}
use Rattle.trace_text.proofs.ItemWords.{no_lone_number, no_other_outcome}
use Rattle.trace_text.proofs.item.answer.Goals as goal

pub returns-in_err-first : goal.returns-in_err-first
returns-in_err-first c = rw c.from_residual.ensures (λ item p.
    let none = c.in_err-first.ensures in
    let is = p.1 in
    no_lone_number c.args.id (omega arith) item (p.0, cc))

pub returns-in_err-outcome : goal.returns-in_err-outcome
returns-in_err-outcome c = rw c.from_residual-in_err-outcome.ensures (λ item p.
    let some = c.in_ok-first.ensures in
    let is = p.1 in
    no_other_outcome c.args.id c.in_ok-first.first.now c.next.new.self (omega arith) c.in_err-outcome.ensures item (p.0, cc))

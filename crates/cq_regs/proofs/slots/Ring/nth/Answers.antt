use Rattle.std.proofs.Common.{◌≡◌, ◌<◌, length, get_or, sym, subst}
use Rattle.cq_regs.proofs.RingLaws.{rung_at}
use Rattle.cq_regs.proofs.slots.Ring.nth.Goals as goal

pub returns-clause-started : goal.returns-clause-started
returns-clause-started c =
    let e : c.as_slice.result.now ≡ c.self.inside.slots.items = c.as_slice.ensures.value in
    let read = c.in_ok-get.ensures.lookup in
    rw (← c.self.view_is)
    (rung_at c.self.inside.slots.items c.from.result c.in_ok-get.field-0.now c.self.invariant
    (subst (λ xs. c.from.result < length xs) e read.3.0)
    (sym (subst (λ xs. c.in_ok-get.field-0.now ≡ get_or xs c.from.result c.in_ok-get.field-0.now) e read.1)))

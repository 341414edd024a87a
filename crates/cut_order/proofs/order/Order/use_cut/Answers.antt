-- The due line is the one behind the used ones.
use Rattle.std.proofs.Common.{rules, ◌≡◌, ◌∙◌, ◌<◌, length, ap, subst, sym}
use Rattle.std.specs.Prelude.{is_some}
use Rattle.cut_order.specs.Order.{due_at, front, with_line}
use Rattle.cut_order.proofs.FrontLaws.{with_line_first}
use Rattle.cut_order.proofs.StateLaws.{order_cut_due}
use Rattle.cut_order.proofs.order.Order.use_cut.Goals as goal

pub returns-then-has_come-clause-lines : goal.returns-then-has_come-clause-lines
returns-then-has_come-clause-lines c =
    let self = c.self.inside in
    let slice = c.as_slice.ensures in
    let due = ap (λ cuts. is_some (due_at cuts (front self.used (length cuts)) c.args.sent)) (sym slice) ∙ (sym c.has_come.ensures.due ∙ c.if-has_come.true) in
    let below : self.used < length self.cuts = subst (λ cuts. self.used < length cuts) slice (c.has_come.ensures.below c.if-has_come.true) in
    sym (ap (λ order. with_line order c.args.sent) (sym c.self.view_is) ∙ with_line_first self.turns self.letters self.cuts self.used c.args.sent c.self.invariant.rising below due)

pub returns-then-has_come-clause-cut : goal.returns-then-has_come-clause-cut
returns-then-has_come-clause-cut c =
    λ s same count due light. order_cut_due s c.args.self.now c.args.sent same count due light ∙ sym (returns-then-has_come-clause-lines c)

pub returns-else-has_come-clause-cut : goal.returns-else-has_come-clause-cut
returns-else-has_come-clause-cut c =
    let lines : c.args.self.now ≡ with_line c.args.self.now c.args.sent = search rules in
    λ s same count due light. order_cut_due s c.args.self.now c.args.sent same count due light ∙ sym lines

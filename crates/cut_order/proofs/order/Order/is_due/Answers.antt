-- The machine asks whether something is to do, and else for the order alone.
use Rattle.std.proofs.Common.{rules, ◌≡◌, ◌∙◌, ◌&&◌, ap, sym}
use Rattle.storage_machine.specs.Host.{to_do}
use Rattle.cut_order.specs.Order.{is_line_due}
use Rattle.cut_order.proofs.StateLaws.{is_due_by}
use Rattle.cut_order.proofs.order.Order.is_due.Goals as goal

pub returns-clause-due : goal.returns-clause-due
returns-clause-due c =
    let line : c.has_come.result ≡ is_line_due c.args.self.now c.args.sent = search rules in
    λ s same count. is_due_by s c.args.self.now c.args.sent same count ∙ ap (λ due. to_do s && due) (sym line)

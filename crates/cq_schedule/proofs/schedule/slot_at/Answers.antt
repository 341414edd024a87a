use Rattle.std.proofs.Common.{◌∙◌, sym}
use Rattle.cq_schedule.proofs.Finding.{order_at}
use Rattle.cq_schedule.proofs.schedule.slot_at.Goals as goal

pub returns-clause-value : goal.returns-clause-value
returns-clause-value c = c.rung.ensures.value ∙ sym (order_at c.args.regs.now.ring c.args.k c.requires)

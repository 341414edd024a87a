use Rattle.cq_schedule.proofs.Idle.{tick_exactly}
use Rattle.cq_schedule.proofs.Plain.{plainly}
use Rattle.cq_schedule.proofs.schedule.due.Goals as goal

pub returns-clause-idle : goal.returns-clause-idle
returns-clause-idle c =
    tick_exactly c.args.held.now c.args.regs.now c.args.mem.now c.first_due.result c.keeps_ring.ensures.ring c.first_due.ensures.due

pub returns-clause-plain : goal.returns-clause-plain
returns-clause-plain c alone =
    plainly c.args.held.now c.args.regs.now c.args.mem.now c.first_due.result c.first_due.ensures.due alone

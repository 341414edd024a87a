use Rattle.std.proofs.Common.{arith}
use Rattle.cq_regs.specs.Slots.{moved_at}
use Rattle.cq_regs.proofs.RingLaws.{mapped_step}
use Rattle.cq_regs.proofs.slots.advance.Goals as goal

pub loop-r-preserved : goal.loop-r-preserved
loop-r-preserved c =
    mapped_step (moved_at c.args.slot) c.args.slots.now c.loop-r.slots c.loop-r.r-index _ c.moved_at.result (omega arith) c.loop-r.auto.slots
    c.loop-r.invariant c.moved_at.ensures

use Rattle.std.proofs.Common.{arith}
use Rattle.cq_regs.specs.Slots.{readied_by}
use Rattle.cq_regs.proofs.RingLaws.{mapped_step}
use Rattle.cq_regs.proofs.slots.make_ready.Goals as goal

pub loop-r-preserved : goal.loop-r-preserved
loop-r-preserved c =
    mapped_step (readied_by c.args.word) c.args.slots.now c.loop-r.slots c.loop-r.r-index _ c.readied_by.result (omega arith) c.loop-r.auto.slots
    c.loop-r.invariant c.readied_by.ensures

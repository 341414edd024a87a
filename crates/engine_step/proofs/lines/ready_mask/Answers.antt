use Rattle.std.proofs.Common.{arith}
use Rattle.engine_step.proofs.ReadyMasks.{more_fits}
use Rattle.engine_step.proofs.lines.ready_mask.Goals as goal

pub overflow_add-mask : goal.overflow_add-mask
overflow_add-mask c =
    let below = more_fits c.args.regs.now.ring c.loop-slot.mask c.loop-slot.slot c.loop-slot-test.true c.loop-slot.invariant in
    omega (arith, below)

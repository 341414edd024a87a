use Rattle.std.proofs.Common.{arith}
use Rattle.storage_machine.proofs.Masks.{more_fits}
use Rattle.storage_machine.proofs.slots.mask_of.Goals as goal

pub overflow_add-mask : goal.overflow_add-mask
overflow_add-mask c =
    let below = more_fits c.args.question c.args.slots.now c.loop-tag.mask c.loop-tag.tag c.loop-tag-test.true c.loop-tag.invariant in
    omega (arith, below)

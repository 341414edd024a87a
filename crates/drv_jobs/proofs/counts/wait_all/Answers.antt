use Rattle.std.proofs.Common.{arith}
use Rattle.drv_jobs.proofs.counts.wait_all.Goals as goal

pub overflow_sub-id : goal.overflow_sub-id
overflow_sub-id c =
    let held = c.requires.held c.loop-holder.holder-index c.in-Some.id c.in-Some.is in
    omega (arith, held.above)

pub wait_again-requires-clause-within : goal.wait_again-requires-clause-within
wait_again-requires-clause-within c =
    let held = c.requires.held c.loop-holder.holder-index c.in-Some.id c.in-Some.is in
    let size = c.loop-holder.invariant.length in
    omega (arith, held.above, held.below, size)

use Rattle.std.proofs.Common.{arith, ◌≡◌, length}
use Rattle.storage_machine.proofs.FirstFlags.{first-here, first-none}
use Rattle.storage_machine.proofs.flags.first_from.Goals as goal

pub returns-else-not-flags-place : goal.returns-else-not-flags-place
returns-else-not-flags-place c =
    first-here c.args.flags.now c.loop-place.place c.loop-place-test.true c.loop-place.invariant.before c.if-not-flags-place.false

pub returns-after-loop-place : goal.returns-after-loop-place
returns-after-loop-place c =
    let end : c.loop-place.place ≡ length c.args.flags.now = omega arith in
    rw end (first-none c.args.flags.now (λ k l. c.loop-place.invariant.before k (omega (arith, l, end))))

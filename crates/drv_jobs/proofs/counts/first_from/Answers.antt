use Rattle.std.proofs.Common.{arith, ◌≡◌, length}
use Rattle.drv_jobs.proofs.CountLaws.{lowest-here, lowest-none}
use Rattle.drv_jobs.proofs.counts.first_from.Goals as goal

pub returns-else-not-waiting-place : goal.returns-else-not-waiting-place
returns-else-not-waiting-place c =
    lowest-here c.args.waiting.now c.loop-place.place c.loop-place-test.true c.loop-place.invariant.before c.if-not-waiting-place.false

pub returns-after-loop-place : goal.returns-after-loop-place
returns-after-loop-place c =
    let end : c.loop-place.place ≡ length c.args.waiting.now = omega arith in
    rw end (lowest-none c.args.waiting.now (λ k l. c.loop-place.invariant.before k (omega (arith, l, end))))

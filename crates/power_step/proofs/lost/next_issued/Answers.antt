use Rattle.std.proofs.Common.{arith}
use Rattle.power_step.proofs.Losing.{all_looked}
use Rattle.power_step.proofs.lost.next_issued.Goals as goal

pub returns : goal.returns
returns c =
    all_looked c.args.last c.loop-tag.tag c.args.driver.now.requests.holders c.loop-tag.next c.loop-tag.invariant
    (omega (arith, c.loop-tag-test.false, c.loop-tag.auto.tag-end, c.plan.ensures.sound.holders))

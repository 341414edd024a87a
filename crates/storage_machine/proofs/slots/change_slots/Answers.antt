use Rattle.std.proofs.Common.{None, arith, ◌≡◌}
use Rattle.storage_machine.proofs.Changes.{change_more, changes_end}
use Rattle.storage_machine.specs.Slots.{changed_slots}
use Rattle.storage_machine.proofs.slots.change_slots.Goals as goal

pub loop-tag-preserved : goal.loop-tag-preserved
loop-tag-preserved c = change_more c.args.change c.loop-tag.tag c.loop-tag.slots c.args.slots.now None c.changed.result c.loop-tag-test.true c.loop-tag.invariant c.changed.ensures

pub returns : goal.returns
unfolding changed_slots
returns c = changes_end c.args.change c.loop-tag.slots c.args.slots.now (let e : c.loop-tag.tag ≡ 32 = omega arith in rw e at c.loop-tag.invariant)

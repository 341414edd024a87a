use Rattle.storage_machine.proofs.OwnPuts.{value_now}
use Rattle.storage_machine.proofs.marks.Marks.value.Goals as goal

pub returns-in-Some : goal.returns-in-Some
returns-in-Some c =
    let index = rw c.in-Some.is at c.self.invariant in
    let now = value_now c.args.sector c.args.base.now c.self.inside.list c.requires in
    let newest = c.newest.ensures c.self.inside.list index in
    cc (newest, now, c.self.view_is)

pub returns-in-None : goal.returns-in-None
returns-in-None c =
    let now = value_now c.args.sector c.args.base.now c.args.self.now c.requires in
    cc (c.walk_value.ensures, c.as_slice.ensures, c.self.view_is, now)

use Rattle.storage_machine.proofs.SectorLists.{own_lengths}
use Rattle.storage_machine.proofs.marks.Marks.allows.Goals as goal

pub allows-requires : goal.allows-requires
allows-requires c =
    let index = rw c.in-Some.is at c.self.invariant in
    own_lengths c.self.inside.list _ _ c.in-Some.index.last c.args.sector index

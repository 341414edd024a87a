use Rattle.std.proofs.Common.{arith, take}
use Rattle.std.proofs.lemmas.List.{length-take-le}
use Rattle.storage_machine.proofs.SectorLists.{bars_few}
use Rattle.storage_machine.proofs.put_index.note_from.Goals as goal

pub note-requires-clause-few : goal.note-requires-clause-few
note-requires-clause-few c =
    let few = bars_few (take c.loop-place.place c.args.marks.now) in
    let long = length-take-le c.loop-place.place c.args.marks.now c.loop-place.invariant.within in
    omega (arith, few, long, c.loop-place.invariant.index.at_last)

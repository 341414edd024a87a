use Rattle.std.proofs.Common.{arith, refl}
use Rattle.std.proofs.lemmas.List.{take_all}
use Rattle.storage_machine.proofs.SectorLists.{freed_all, freed_more}
use Rattle.storage_machine.proofs.put_index.forget_all.Goals as goal

pub loop-mark-preserved : goal.loop-mark-preserved
loop-mark-preserved c =
    freed_more c.args.marks.now c.loop-mark.mark-index _ _ _ _ _ _ c.loop-mark-test.true refl (c.forget.ensures _ _ _ c.loop-mark.invariant)

pub returns : goal.returns
returns c =
    let all = take_all c.loop-mark.mark-index c.args.marks.now (omega arith) in
    freed_all c.args.marks.now c.args.index.epochs.items c.loop-mark.index.epochs.items c.args.index.puts.items c.loop-mark.index.puts.items c.args.index.last c.requires (rw all at c.loop-mark.invariant)

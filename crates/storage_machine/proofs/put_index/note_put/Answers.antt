use Rattle.storage_machine.proofs.SectorLists.{index_put}
use Rattle.storage_machine.proofs.put_index.note_put.Goals as goal

pub returns : goal.returns
returns c = λ marks index.
    index_put marks c.args.put.now c.args.index.now.epochs.items _ c.args.index.now.puts.items _ c.args.index.now.last index
    c.in_ok-add_at.ensures.at c.in_ok-add_at-2.ensures.at c.in_ok-add_at.ensures.short c.in_ok-add_at-2.ensures.short

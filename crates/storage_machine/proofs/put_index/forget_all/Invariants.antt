use Rattle.std.proofs.Common.{take}
use Rattle.storage_machine.specs.PutIndex.{IsFreed}
use Rattle.storage_machine.proofs.put_index.forget_all.Given as goal

abbrev pub invariant-loop-mark : goal.invariant-loop-mark
invariant-loop-mark l = IsFreed (take l.mark-index l.marks) l.initial.index.epochs.items l.initial.index.puts.items l.index.epochs.items l.index.puts.items

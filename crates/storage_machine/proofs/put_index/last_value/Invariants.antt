use Rattle.std.proofs.Common.{◌≡◌, ◌≤◌, length, take}
use Rattle.storage_machine.specs.PutIndex.{value_after}
use Rattle.storage_machine.proofs.put_index.last_value.Given as goal

abbrev pub invariant-loop-end : goal.invariant-loop-end
invariant-loop-end l = (l.end ≤ length l.puts) × (value_after l.value (take l.end l.puts) ≡ value_after l.value l.puts)

abbrev pub decreases-loop-end : goal.decreases-loop-end
decreases-loop-end l = l.end

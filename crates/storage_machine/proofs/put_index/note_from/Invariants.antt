use Rattle.std.proofs.Common.{◌-◌, ◌≤◌, length, take}
use Rattle.storage_machine.specs.PutIndex.{IsIndex}
use Rattle.storage_machine.proofs.put_index.note_from.Given as goal

abbrev pub invariant-loop-place : goal.invariant-loop-place
invariant-loop-place l = record {
  within : l.place ≤ length l.marks;
  index : IsIndex (take l.place l.marks) l.index.epochs.items l.index.puts.items l.index.last;
}

abbrev pub decreases-loop-place : goal.decreases-loop-place
decreases-loop-place l = length l.marks - l.place

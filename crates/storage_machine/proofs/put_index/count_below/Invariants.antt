use Rattle.std.proofs.Common.{◌≡◌, ◌+◌, ◌-◌, ◌≤◌, drop, length}
use Rattle.storage_machine.specs.PutIndex.{count_below}
use Rattle.storage_machine.proofs.put_index.count_below.Given as goal

abbrev pub invariant-loop-count : goal.invariant-loop-count
invariant-loop-count l = (l.count ≤ length l.epochs) × (l.count + count_below l.epoch (drop l.count l.epochs) ≡ count_below l.epoch l.epochs)

abbrev pub decreases-loop-count : goal.decreases-loop-count
decreases-loop-count l = length l.epochs - l.count

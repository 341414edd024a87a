use Rattle.std.proofs.Common.{◌≡◌, ◌-◌, ◌<◌, ◌≤◌, ℕ, [], get_or, length}
use Rattle.storage_machine.proofs.put_index.next_put.Given as goal

abbrev pub invariant-loop-sector : goal.invariant-loop-sector
invariant-loop-sector l = record {
  after : l.from ≤ l.sector;
  free : (t : ℕ) → l.from ≤ t → t < l.sector → get_or l.index.puts.items t [] ≡ [];
}

abbrev pub decreases-loop-sector : goal.decreases-loop-sector
decreases-loop-sector l = length l.index.puts.items - l.sector

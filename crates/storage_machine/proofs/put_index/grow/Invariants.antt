use Rattle.std.proofs.Common.{◌≡◌, ◌+◌, ◌-◌, ◌≤◌, ◌^◌, ℕ, [], get_or, length}
use Rattle.storage_machine.proofs.put_index.grow.Given as goal

abbrev pub invariant-loop-alloc : goal.invariant-loop-alloc
invariant-loop-alloc g l = record {
  same : (s : ℕ) → get_or l.lists.items s [] ≡ get_or l.initial.lists.items s [];
  short : length l.lists.items ≤ 2 ^ 32;
}

abbrev pub decreases-loop-alloc : goal.decreases-loop-alloc
decreases-loop-alloc g l = l.place + 1 - length l.lists.items

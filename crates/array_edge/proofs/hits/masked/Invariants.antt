use Rattle.std.proofs.Common.{◌≡◌, ℕ, ◌<◌, ◌≤◌, ◌==◌, if◌then◌else◌}
use Rattle.std.specs.Int.{bit_at}
use Rattle.storage_model.specs.Granule.{granule}
use Rattle.array_edge.proofs.hits.masked.Given as goal

abbrev pub invariant-loop-k : goal.invariant-loop-k
invariant-loop-k l = record {
  done : (j : ℕ) → j < l.k → granule l.left j ≡ granule (if bit_at l.mask j == 1 then l.new else l.old) j;
  rest : (j : ℕ) → l.k ≤ j → j < 8 → granule l.left j ≡ granule l.old j;
}

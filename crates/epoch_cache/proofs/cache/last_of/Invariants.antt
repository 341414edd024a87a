use Rattle.std.proofs.Common.{◌≢◌, ℕ, ◌<◌, ◌≤◌, get_or, length}
use Rattle.epoch_cache.specs.declared.line.Line.{Line}
use Rattle.epoch_cache.proofs.cache.last_of.Given as goal

abbrev pub invariant-loop-k : goal.invariant-loop-k
invariant-loop-k l =
    (l.k ≤ length l.table.lines)
    × ((j : ℕ) (d : Line) → l.k ≤ j → j < length l.table.lines → (get_or l.table.lines j d).sector ≢ l.sector)

abbrev pub decreases-loop-k : goal.decreases-loop-k
decreases-loop-k l = l.k

use Rattle.std.proofs.Common.{◌≡◌, ℕ, ◌<◌, false, get_or}
use Rattle.card_store.proofs.sector_set.SectorSet.clear.Given as goal

abbrev pub invariant-loop-has : goal.invariant-loop-has
invariant-loop-has l = (k : ℕ) → k < l.has-index → get_or l.has-items k false ≡ false

use Rattle.std.proofs.Common.{◌≡◌, ℕ, ◌<◌, ◌≤◌, false, get_or}
use Rattle.card_store.proofs.sector_set.SectorSet.first_from.Given as goal

abbrev pub invariant-loop-sector : goal.invariant-loop-sector
invariant-loop-sector l = (k : ℕ) → l.from ≤ k → k < l.sector → get_or l.self k false ≡ false

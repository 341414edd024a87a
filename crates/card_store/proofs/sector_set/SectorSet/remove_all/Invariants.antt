use Rattle.std.proofs.Common.{◌≡◌, ◌⊎◌, ℕ, ◌<◌, ◌≤◌, false, get_or}
use Rattle.card_store.proofs.sector_set.SectorSet.remove_all.Given as goal

abbrev pub invariant-loop-sector : goal.invariant-loop-sector
invariant-loop-sector l = ((s : ℕ) → l.fn.first ≤ s → s < l.sector → get_or l.self s false ≡ false) × ((s : ℕ) → (s < l.fn.first) ⊎ (l.sector ≤ s) → get_or l.self s false ≡ get_or l.initial.self s false)

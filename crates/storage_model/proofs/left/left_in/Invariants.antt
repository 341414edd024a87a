use Rattle.std.proofs.Common.{◌≡◌, ◌<◌, ℕ, true}
use Rattle.storage_model.specs.Contents.{sector_at}
use Rattle.storage_model.specs.Left.{mix_at}
use Rattle.storage_model.proofs.left.left_in.Given as goal

abbrev pub invariant-loop-sector : goal.invariant-loop-sector
invariant-loop-sector l = (s : ℕ) → s < l.sector → mix_at l.base l.pend l.epoch s (sector_at l.after s) ≡ true

use Rattle.std.proofs.Common.{◌≡◌, ◌<◌, ℕ, false}
use Rattle.storage_model.specs.Left.{is_left_in}
use Rattle.storage_model.proofs.left.left_allows.Given as goal

abbrev pub invariant-loop-epoch : goal.invariant-loop-epoch
invariant-loop-epoch l = (e : ℕ) → e < l.epoch → is_left_in l.base l.pend l.after e ≡ false

use Rattle.std.proofs.Common.{◌≡◌, drop, length, fold}
use Rattle.storage_model.specs.Contents.{mark_on}
use Rattle.storage_model.proofs.contents.now.Given as goal

abbrev pub invariant-loop-mark : goal.invariant-loop-mark
invariant-loop-mark l = (fold mark_on l.contents.items (drop l.mark-index l.pend) ≡ fold mark_on l.base l.pend) × (length l.contents.items ≡ length l.base)

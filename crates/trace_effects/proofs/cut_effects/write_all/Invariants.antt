use Rattle.std.proofs.Common.{◌≡◌, fold, take}
use Rattle.storage_model.specs.Contents.{mark_on}
use Rattle.trace_effects.proofs.cut_effects.write_all.Given as goal

abbrev pub invariant-loop-mark : goal.invariant-loop-mark
invariant-loop-mark l = l.base ≡ fold mark_on l.initial.base (take l.mark-index l.marks)

use Rattle.std.proofs.Common.{drop}
use Rattle.storage_model.specs.Left.{mix_at}
use Rattle.storage_model.proofs.Scans.{Scanned}
use Rattle.storage_model.proofs.left.mix_allows.Given as goal

abbrev pub invariant-loop-mark : goal.invariant-loop-mark
invariant-loop-mark l = Scanned l.epoch l.sector l.value l.now l.cover (drop l.mark-index l.pend) (mix_at l.base l.pend l.epoch l.sector l.value)

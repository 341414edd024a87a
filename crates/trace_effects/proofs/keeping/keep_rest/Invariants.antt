use Rattle.std.proofs.Common.{◌≡◌, ◌≤◌, drop}
use Rattle.trace_effects.specs.Phases.{named_by}
use Rattle.storage_model.proofs.Keeps.{others_after}
use Rattle.storage_model.specs.Keep.{keep_pend}
use Rattle.trace_effects.proofs.keeping.keep_rest.Given as goal

abbrev pub invariant-loop-mark : goal.invariant-loop-mark
invariant-loop-mark l = (others_after l.last (named_by l.job) l.epoch l.others (drop l.mark-index l.pend) ≡ keep_pend (named_by l.job) l.pend) × (l.epoch ≤ l.mark-index)

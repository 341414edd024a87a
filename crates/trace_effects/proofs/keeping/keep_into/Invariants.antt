use Rattle.std.proofs.Common.{◌≡◌, ◌≤◌, drop}
use Rattle.trace_effects.specs.Phases.{named_by}
use Rattle.storage_model.proofs.Keeps.{base_after}
use Rattle.storage_model.specs.Keep.{keep_base}
use Rattle.trace_effects.proofs.keeping.keep_into.Given as goal

abbrev pub invariant-loop-mark : goal.invariant-loop-mark
invariant-loop-mark l = (base_after l.last (named_by l.job) l.epoch l.base (drop l.mark-index l.pend) ≡ keep_base (named_by l.job) l.initial.base l.pend) × (l.epoch ≤ l.mark-index)

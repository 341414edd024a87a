use Rattle.std.proofs.Common.{◌≡◌, ◌≤◌, fold, drop}
use Rattle.trace_effects.specs.Cuts.{add_place, places_of}
use Rattle.storage_model.specs.Contents.{numbered}
use Rattle.trace_effects.proofs.cut_effects.has_room.Given as goal

abbrev pub invariant-loop-mark : goal.invariant-loop-mark
invariant-loop-mark l = (fold add_place l.places.items (numbered l.epoch (drop l.mark-index l.pend)) ≡ places_of l.pend) × (l.epoch ≤ l.mark-index)

use Rattle.std.proofs.Common.{◌≡◌, fold, take}
use Rattle.trace_effects.specs.Effects.{with_held}
use Rattle.trace_effects.proofs.effects.hold_all.Given as goal

abbrev pub invariant-loop-slot : goal.invariant-loop-slot
invariant-loop-slot l = l.waiting ≡ fold with_held l.initial.waiting (take l.slot-index l.slots)

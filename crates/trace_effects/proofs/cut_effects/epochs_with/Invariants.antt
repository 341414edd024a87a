use Rattle.std.proofs.Common.{◌≡◌, filter, take}
use Rattle.storage_model.specs.Left.{mix_at}
use Rattle.trace_effects.proofs.cut_effects.epochs_with.Given as goal

abbrev pub invariant-loop-epoch : goal.invariant-loop-epoch
invariant-loop-epoch l = l.epochs ≡ filter (λ epoch. mix_at l.s.base l.s.pend epoch l.sector l.value) (take l.epoch-index l.s.epochs)

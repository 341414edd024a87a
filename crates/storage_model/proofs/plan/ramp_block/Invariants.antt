use Rattle.std.proofs.Common.{◌≡◌, ◌+◌, ◌*◌, take}
use Rattle.storage_model.specs.Plan.{ramp}
use Rattle.storage_model.proofs.plan.ramp_block.Given as goal

abbrev pub invariant-loop-i : goal.invariant-loop-i
invariant-loop-i l = (take l.i l.byte-items ≡ ramp l.start l.k l.i) × (l.base ≡ l.start + 31 * l.k)

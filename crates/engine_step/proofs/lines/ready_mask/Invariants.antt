use Rattle.std.proofs.Common.{◌≡◌}
use Rattle.world_state.specs.Engine.{ready_below}
use Rattle.engine_step.proofs.lines.ready_mask.Given as goal

abbrev pub invariant-loop-slot : goal.invariant-loop-slot
invariant-loop-slot l = l.mask ≡ ready_below l.regs.ring l.slot

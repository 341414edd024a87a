use Rattle.world_state.specs.Ties.{IsReady}
use Rattle.any_order.proofs.steps.take_steps.Given as goal

abbrev pub invariant-loop-taken : goal.invariant-loop-taken
invariant-loop-taken g l = record { ready : IsReady l.world.path (g.A.Array.state l.array) }

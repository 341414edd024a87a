-- What an event of the engine makes of the path, where a command of the queue is due or the engine has nothing to send.
use Rattle.std.specs.Prelude.{◌≡◌, false, Option}
use Rattle.array_edge.specs.Array.{ArrayState}
use Rattle.card_core.specs.declared.phase.Phase.{Phase}
use Rattle.cq_engine.specs.declared.did.Did.{Did}
use Rattle.world_state.specs.Engine.{EngineEvent, is_dark}
use Rattle.world_state.specs.Path.{PathState}
use Rattle.world_state.specs.Steps.{is_of_phase}
use Rattle.world_state.specs.Ties.{AreTied}

-- the ties hold again
abbrev pub CommandTies : Type 0
CommandTies =
    (p : PathState) (a : ArrayState) (p' : PathState) (a' : ArrayState) (did : Did) (phase : Option Phase) (e : EngineEvent p a p' a' did phase)
    → is_of_phase p e.event.acts.due ≡ false → AreTied p → AreTied p'

-- and power is not lost in it
abbrev pub CommandPower : Type 0
CommandPower =
    (p : PathState) (a : ArrayState) (p' : PathState) (a' : ArrayState) (did : Did) (phase : Option Phase) (e : EngineEvent p a p' a' did phase)
    → is_of_phase p e.event.acts.due ≡ false → AreTied p → is_dark did ≡ false

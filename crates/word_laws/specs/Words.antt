-- The words of the card that stop the engine.
use Rattle.std.specs.Prelude.{◌≡◌, ℕ, true, is_some, Option}
use Rattle.array_edge.specs.Array.{ArrayState}
use Rattle.bus_link.specs.declared.link.Cause.TheVariants.{Response}
use Rattle.card_core.specs.declared.phase.Phase.{Phase}
use Rattle.cq_engine.specs.declared.did.Did.{Did}
use Rattle.cq_engine.specs.declared.did.Did.TheVariants.{Stopped}
use Rattle.drv_core.specs.Judge.{error_of}
use Rattle.world_state.specs.Engine.{EngineEvent}
use Rattle.world_state.specs.Path.{PathState}
use Rattle.world_state.specs.Ties.{AreTied}

-- where a response stopped the engine, its word is that of an error that ends a request
abbrev pub StopsByError : Did → Type 0
StopsByError did = (word tag : ℕ) → did ≡ Stopped (Response word tag) → is_some (error_of word) ≡ true

-- so it is of each event of the engine
abbrev pub EngineStops : Type 0
EngineStops =
    (p : PathState) (a : ArrayState) (p' : PathState) (a' : ArrayState) (did : Did) (phase : Option Phase)
    → EngineEvent p a p' a' did phase → AreTied p → StopsByError did

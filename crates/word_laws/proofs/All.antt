-- The words, whatever is due.
use Rattle.std.proofs.Common.{◌≡◌, Bool, true, false, refl}
use Rattle.std.specs.Prelude.{Option}
use Rattle.array_edge.specs.Array.{ArrayState}
use Rattle.card_core.specs.declared.phase.Phase.{Phase}
use Rattle.cq_engine.specs.declared.did.Did.{Did}
use Rattle.world_state.specs.Engine.{EngineEvent}
use Rattle.world_state.specs.Path.{PathState}
use Rattle.world_state.specs.Steps.{is_of_phase}
use Rattle.world_state.specs.Ties.{AreTied}
use Rattle.word_laws.specs.Words.{EngineStops, StopsByError}
use Rattle.word_laws.proofs.Phases.{phase_words}
use Rattle.word_laws.proofs.Queued.{command_words}

stops_by : (p : PathState) (a : ArrayState) (p' : PathState) (a' : ArrayState) (did : Did) (phase : Option Phase) (e : EngineEvent p a p' a' did phase)
    → (of_phase : Bool) → is_of_phase p e.event.acts.due ≡ of_phase → AreTied p → StopsByError did
stops_by p a p' a' did phase e true is t = phase_words p a p' a' did phase e is t
stops_by p a p' a' did phase e false is t = command_words p a p' a' did phase e is t

pub engine_stops : EngineStops
engine_stops p a p' a' did phase e t = stops_by p a p' a' did phase e (is_of_phase p e.event.acts.due) refl t

-- What an event of a phase keeps, by what is due.
use Rattle.std.specs.Prelude.{◌≡◌, ℕ, Bool, true, false, Option}
use Rattle.array_edge.specs.Array.{ArrayState}
use Rattle.bus_link.specs.declared.link.Cause.{Cause}
use Rattle.card_core.specs.declared.phase.Phase.{Phase}
use Rattle.cq_engine.specs.declared.did.Did.{Did}
use Rattle.cq_engine.specs.declared.did.Did.TheVariants.{Stopped}
use Rattle.cq_schedule.specs.declared.rules.Due.{Due}
use Rattle.cq_schedule.specs.declared.rules.Due.TheVariants.{Block, Close, Serve}
use Rattle.world_state.specs.Engine.{EngineEvent}
use Rattle.world_state.specs.Path.{PathState}
use Rattle.world_state.specs.Steps.{EngineStep, is_of_phase}
use Rattle.world_state.specs.Ties.{AreTied}

-- an event keeps the ties, whatever the array tells and even where power is lost in it
abbrev pub KeepsTies : (PathState → Due → Bool) → Type 0
KeepsTies test =
    (p : PathState) (a : ArrayState) (p' : PathState) (a' : ArrayState) (did : Did) (phase : Option Phase) (e : EngineEvent p a p' a' did phase)
    → test p e.event.acts.due ≡ true → AreTied p → AreTied p'

-- a block of a data phase is due, or its end
abbrev pub is_block : PathState → Due → Bool
is_block p (Block slot k) = true
is_block p due = false

abbrev pub is_close : PathState → Due → Bool
is_close p (Close slot) = true
is_close p due = false

-- a direct command, however it ends
abbrev pub DirectSteps : Type 0
DirectSteps =
    (p : PathState) (a : ArrayState) (p' : PathState) (a' : ArrayState) (did : Did) (phase : Option Phase) (e : EngineEvent p a p' a' did phase) (slot : ℕ)
    → e.event.acts.due ≡ Serve slot → is_of_phase p (Serve slot) ≡ true → AreTied p
    → EngineStep p a p' a' did phase

-- What an event makes of the path: it keeps the ties, whatever the array tells, and its lines are the storage machine's.
use Rattle.std.specs.Prelude.{◌≡◌, ℕ, Bool, true, false, Option, None, Some}
use Rattle.std.specs.Option.{option_map_or}
use Rattle.array_edge.specs.Array.{ArrayState}
use Rattle.card_core.specs.declared.phase.Phase.{Phase}
use Rattle.cq_engine.specs.declared.did.Did.{Did}
use Rattle.cq_schedule.specs.declared.rules.Due.{Due}
use Rattle.cq_schedule.specs.declared.rules.Due.TheVariants as engine
use Rattle.drv_core.specs.declared.act.Act.{Act}
use Rattle.storage_machine.specs.Jobs.{is_direct}
use Rattle.storage_model.specs.declared.faults.Letter.TheVariants.{Host as HostActs, Engine as EngineActs}
use Rattle.world_state.specs.Engine.{EngineEvent, engine_lines, is_dark}
use Rattle.world_state.specs.Host.{HostEvent, host_lines}
use Rattle.world_state.specs.Laws.{StateLaws}
use Rattle.world_state.specs.Path.{PathState, holder, job}
use Rattle.world_state.specs.Ties.{AreTied}
use Rattle.world_state.specs.Told.{Darkens, Tells}

-- what an event of the engine makes of the path
pub record EngineStep (p : PathState) (a : ArrayState) (p' : PathState) (a' : ArrayState) (did : Did) (phase : Option Phase) : Type 0 where
  pub ties : is_dark did ≡ false → AreTied p'
  pub tells : StateLaws → is_dark did ≡ false → Tells EngineActs p a (engine_lines p p' did phase) p' a'
  pub darkens : StateLaws → is_dark did ≡ true → Darkens EngineActs p a (engine_lines p p' did phase) p' a'

-- what is due is a block or the end of a data phase, or a direct command; else it is a command of the queue, or the timer's tick
abbrev pub is_of_phase : PathState → Due → Bool
is_of_phase p (engine.Block slot k) = true
is_of_phase p (engine.Close slot) = true
is_of_phase p (engine.Serve slot) = option_map_or (λ id. is_direct (job p id)) (holder p slot) false
is_of_phase p due = false

abbrev pub EngineSteps : (PathState → Due → Bool) → Bool → Type 0
EngineSteps test answer =
    (p : PathState) (a : ArrayState) (p' : PathState) (a' : ArrayState) (did : Did) (phase : Option Phase) (e : EngineEvent p a p' a' did phase)
    → test p e.event.acts.due ≡ answer → AreTied p → EngineStep p a p' a' did phase

-- those of the queue's commands, and those of the phases
abbrev pub CommandSteps : Type 0
CommandSteps = EngineSteps is_of_phase false

abbrev pub PhaseSteps : Type 0
PhaseSteps = EngineSteps is_of_phase true

-- what an event of the host makes of it
pub record HostStep (p : PathState) (a : ArrayState) (p' : PathState) (a' : ArrayState) (act : Act) : Type 0 where
  pub ties : AreTied p'
  pub tells : StateLaws → Tells HostActs p a (host_lines p p' act) p' a'

abbrev pub HostSteps : Type 0
HostSteps =
    (p : PathState) (a : ArrayState) (p' : PathState) (a' : ArrayState) (act : Act)
    → HostEvent p a p' a' act → AreTied p → HostStep p a p' a' act

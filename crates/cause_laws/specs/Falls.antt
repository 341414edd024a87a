-- Less is left to do behind each step that is the next one, however it ends, whatever the array tells.
use Rattle.std.specs.Prelude.{◌≡◌, ◌≢◌, ◌<◌, ◌≤◌, ℕ, true, false, is_some, Option}
use Rattle.storage_model.specs.declared.faults.Letter.{Letter}
use Rattle.storage_model.specs.declared.faults.Letter.TheVariants.{Host as HostActs, Engine as EngineActs, Card as CardActs}
use Rattle.array_edge.specs.Array.{ArrayState}
use Rattle.bus_link.specs.declared.link.Cause.TheVariants.{Response}
use Rattle.card_core.specs.declared.phase.Phase.{Phase}
use Rattle.cq_engine.specs.declared.did.Did.{Did}
use Rattle.cq_engine.specs.declared.did.Did.TheVariants.{Stopped}
use Rattle.drv_core.specs.Judge.{error_of}
use Rattle.drv_core.specs.declared.act.Act.{Act}
use Rattle.fall_laws.specs.Falls.{IsAnew, ScriptGoesOn}
use Rattle.world_state.specs.Engine.{EngineEvent, is_dark}
use Rattle.world_state.specs.Host.{HostEvent}
use Rattle.world_state.specs.Path.{PathState}
use Rattle.world_state.specs.Ties.{AreTied}
use Rattle.world_state.specs.Work.{issued, left_to_do}
use Rattle.world_steps.specs.World.{WorldState, chosen_of, is_to_do, order_behind}

-- the card's response stops the engine by no word other than that of an error
abbrev pub StopsByErrors : Type 0
StopsByErrors =
    (p : PathState) (a : ArrayState) (p' : PathState) (a' : ArrayState) (did : Did) (phase : Option Phase)
    → EngineEvent p a p' a' did phase → AreTied p → (word tag : ℕ) → did ≡ Stopped (Response word tag) → is_some (error_of word) ≡ true

abbrev pub LeavesLess : WorldState → Letter → PathState → Type 0
LeavesLess w actor p' = left_to_do p' (order_behind w actor) < left_to_do w.path w.order

-- an event of the engine in which power is lost is one of an issued request, and leaves the driver
pub record IsOfRequest (p p' : PathState) : Type 0 where
  pub some : 1 ≤ issued p
  pub driver : p'.driver ≡ p.driver
  pub script : ScriptGoesOn p.script p'.script

abbrev pub DarkIsOfRequest : Type 0
DarkIsOfRequest =
    (p : PathState) (a : ArrayState) (p' : PathState) (a' : ArrayState) (did : Did) (phase : Option Phase)
    → EngineEvent p a p' a' did phase → AreTied p → is_dark did ≡ true → IsOfRequest p p'

pub record StepsFall (w : WorldState) : Type 0 where
  pub host : (a : ArrayState) (p' : PathState) (a' : ArrayState) (act : Act) → HostEvent w.path a p' a' act → AreTied p' → HostActs ≡ chosen_of w
      → LeavesLess w HostActs p'
  pub engine : StopsByErrors → (a : ArrayState) (p' : PathState) (a' : ArrayState) (did : Did) (phase : Option Phase) → EngineEvent w.path a p' a' did phase → AreTied p'
      → is_dark did ≡ false → EngineActs ≡ chosen_of w → LeavesLess w EngineActs p'
  -- the card's event changes its store alone
  pub card : (p' : PathState) → p' ≡ record w.path { card = p'.card } → CardActs ≡ chosen_of w → LeavesLess w CardActs p'
  -- behind a loss of power, which is never in an event of the host; where it was in one of the engine a request was issued
  pub lost : (actor : Letter) (p' : PathState) → IsAnew w.path p' → actor ≡ chosen_of w → actor ≢ HostActs → (actor ≡ EngineActs → 1 ≤ issued w.path)
      → LeavesLess w actor p'

abbrev pub DoStepsFall : Type 0
DoStepsFall = (w : WorldState) → AreTied w.path → is_to_do w.path ≡ true → StepsFall w

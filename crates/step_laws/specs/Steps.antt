-- What a step of a run promises: its lines, what they tell of each state that the run stood for, what has to have happened, that the pages are an image, and that the run goes on.
use Rattle.std.specs.Prelude.{◌≡◌, ◌<◌, ◌∷◌, ℕ, if◌then◌else◌, List, [], OnOk, Result, Err, ◌≤◌, count_by}
use Rattle.storage_machine.specs.declared.state.State.{State}
use Rattle.storage_model.specs.declared.ends.Halt.{Halt}
use Rattle.storage_model.specs.declared.ends.Halt.TheVariants.{PowerGone, BadImage}
use Rattle.storage_model.specs.declared.faults.Letter.{Letter}
use Rattle.storage_model.specs.declared.faults.Letter.TheVariants.{Cut as PowerActs}
use Rattle.storage_model.specs.declared.trace.Item.{Item}
use Rattle.storage_model.specs.declared.trace.Item.TheVariants.{Turn}
use Rattle.trace_print.specs.Prints.{HasCauses, is_cut_line}
use Rattle.array_edge.specs.Array.{ArrayState}
use Rattle.intent_store.specs.Intent.{ShowsImage}
use Rattle.power_step.specs.Loses.{HasEnd}
use Rattle.power_step.specs.Wrote.{Wrote}
use Rattle.world_state.specs.Path.{PathState, plan_of}
use Rattle.world_state.specs.Ties.{IsReady}
use Rattle.world_state.specs.Work.{left_to_do}
use Rattle.world_steps.specs.Steps.{StepTells}
use Rattle.world_steps.specs.World.{IsPrompt, StandsFor, WorldState, chosen_of, order_behind, shows_letter}

-- the line of the letter that the event uses
abbrev pub letter_lines : WorldState → Letter → List Item
letter_lines w actor = if shows_letter w actor then Turn actor ∷ [] else []

-- power's own event needs no cut of the array
abbrev pub cuts_allowed : Letter → ℕ
cuts_allowed PowerActs = 1
cuts_allowed actor = 0

-- a run ends so only behind a cut
abbrev pub NeedsCut : Result (Unit {0}) Halt → Type 0
NeedsCut (Err PowerGone) = Unit {0}
NeedsCut (Err BadImage) = Unit {0}
NeedsCut result = ⊥

pub record Steps {K : Type 0} (took : K → List ℕ → K → Type 0) (w : WorldState) (actor : Letter) (a : ArrayState) (old : K) (result : Result (Unit {0}) Halt) (w' : WorldState) (a' : ArrayState) (new : K) : Type 0 where
  pub lines : List Item
  pub wrote : Wrote took old lines result new
  pub tells : (s : State) → StandsFor w a s → StepTells w s actor lines result w' a'
  pub ends : HasEnd lines result
  pub dark : NeedsCut result → 1 ≤ count_by is_cut_line lines
  pub causes : HasCauses (cuts_allowed actor) a a' lines result
  pub image : ShowsImage a'

-- where it went well the run is ready for the next step, and less is left to do where each step is the next one
pub record GoesOn (w : WorldState) (actor : Letter) (w' : WorldState) (a' : ArrayState) : Type 0 where
  pub ready : IsReady w'.path a'
  pub plan : plan_of w'.path ≡ plan_of w.path
  pub order : w'.order ≡ order_behind w actor
  pub prompt : actor ≡ chosen_of w → IsPrompt w → IsPrompt w'
  pub falls : actor ≡ chosen_of w → left_to_do w'.path w'.order < left_to_do w.path w.order

pub record IsStep {K : Type 0} (took : K → List ℕ → K → Type 0) (w : WorldState) (actor : Letter) (a : ArrayState) (old : K) (result : Result (Unit {0}) Halt) (w' : WorldState) (a' : ArrayState) (new : K) : Type 0 where
  pub steps : Steps took w actor a old result w' a' new
  pub goes_on : OnOk result (GoesOn w actor w' a')

-- behind an event, with what its actor uses
abbrev pub behind_step : WorldState → Letter → PathState → WorldState
behind_step w actor p = record { path = p; order = order_behind w actor }

-- What is known of events, their lines and their causes, and what follows of a step.
use Rattle.std.specs.Prelude.{◌≡◌, true, ℕ, List, Result}
use Rattle.storage_model.specs.declared.ends.Halt.{Halt}
use Rattle.storage_model.specs.declared.faults.Letter.{Letter}
use Rattle.storage_model.specs.declared.faults.Letter.TheVariants.{Host as HostActs, Engine as EngineActs, Card as CardActs, Cut as PowerActs}
use Rattle.storage_model.specs.declared.trace.End.{End}
use Rattle.storage_model.specs.declared.trace.Item.{Item}
use Rattle.trace_text.specs.Trace.{items_text}
use Rattle.array_edge.specs.Array.{ArrayState}
use Rattle.cut_order.specs.Order.{OrderState}
use Rattle.cause_laws.specs.Causes.{AreExplained, AreJoined}
use Rattle.cause_laws.specs.Falls.{DarkIsOfRequest, DoStepsFall, StopsByErrors}
use Rattle.front_laws.specs.Fronts.{CardIsNear, EngineIsNear, HostIsNear, PowerIsNear}
use Rattle.join_laws.specs.Fronts.{IsStoppedAtCut, IsStoppedBehind, IsStoppedDark, IsStoppedLast, IsStoppedLit}
use Rattle.join_laws.specs.Joins.{IsBackOn, IsEndedIn, IsLit}
use Rattle.power_laws.specs.Power.{CardSteps, PowerSteps, UsesLine}
use Rattle.world_state.specs.Laws.{StateLaws}
use Rattle.world_state.specs.Path.{PathState}
use Rattle.world_state.specs.Reading.{Context}
use Rattle.world_state.specs.Steps.{CommandSteps, HostSteps, PhaseSteps}
use Rattle.world_state.specs.Ties.{IsReady}
use Rattle.world_steps.specs.Reading.{DoPhasesYield, DoesStayPrompt, IsRead}
use Rattle.world_steps.specs.World.{WorldState, is_to_do}
use Rattle.step_laws.specs.Acts.{CardActed, EngineActed, HostActed, PowerActed}
use Rattle.step_laws.specs.Steps.{IsStep, behind_step, letter_lines}

-- what an event makes of the path and of the machine's state
pub record AreEvents : Type 0 where
  pub states : StateLaws
  pub commands : CommandSteps
  pub phases : PhaseSteps
  pub hosts : HostSteps
  pub cards : CardSteps
  pub powers : PowerSteps
  pub line : UsesLine
  pub read : IsRead
  pub yields : DoPhasesYield
  pub prompt : DoesStayPrompt

-- what its lines tell, whole or broken off
pub record AreLines : Type 0 where
  pub lit : (w : WorldState) → (c : Context) → (actor : Letter) → (items : List Item) → (p : PathState) → (a : ArrayState) → IsLit w c actor items p a
  pub back : (w : WorldState) → (c : Context) → (actor : Letter) → (items : List Item) → (p : PathState) → (a : ArrayState) → (more : List Item) → (p' : PathState) → (a' : ArrayState)
      → IsBackOn w c actor items p a more p' a'
  pub ended : (w : WorldState) → (c : Context) → (actor : Letter) → (items : List Item) → (p : PathState) → (a : ArrayState) → (first : List Item) → (end : End) → (a' : ArrayState)
      → IsEndedIn w c actor items p a first end a'
  pub stopped_lit : (w : WorldState) → (c : Context) → (actor : Letter) → (whole : List Item) → (item : Item) → (rest : List Item) → IsStoppedLit w c actor whole item rest
  pub stopped_dark : (w : WorldState) → (c : Context) → (actor : Letter) → (whole : List Item) → (item : Item) → (rest : List Item) → IsStoppedDark w c actor whole item rest
  pub stopped_last : (w : WorldState) → (c : Context) → (actor : Letter) → (item : Item) → (others : List Item) → (p : PathState) → (o : OrderState) → (a : ArrayState) → IsStoppedLast w c actor item others p o a
  pub stopped_at_cut : (w : WorldState) → (c : Context) → (actor : Letter) → (items : List Item) → (p : PathState) → (a : ArrayState) → IsStoppedAtCut w c actor items p a
  pub stopped_behind : (w : WorldState) → (c : Context) → (actor : Letter) → (items : List Item) → (p : PathState) → (a : ArrayState) → (whole : List Item) → (a' : ArrayState)
      → IsStoppedBehind w c actor items p a whole a'
  pub engine_near : EngineIsNear
  pub host_near : HostIsNear
  pub card_near : CardIsNear
  pub power_near : PowerIsNear

-- what has to have happened, and what is left to do
pub record AreCauses : Type 0 where
  pub explained : AreExplained
  pub joined : AreJoined
  pub errors : StopsByErrors
  pub dark : DarkIsOfRequest
  pub falls : DoStepsFall

pub record AreLaws : Type 0 where
  pub events : AreEvents
  pub lines : AreLines
  pub causes : AreCauses

-- the run before the step: something is to do
pub record MaySteps (w : WorldState) (a : ArrayState) : Type 0 where
  pub ready : IsReady w.path a
  pub some : is_to_do w.path ≡ true

-- behind the letter's line
abbrev pub DoStep : {K : Type 0} → (K → List ℕ → K → Type 0) → (PathState → ArrayState → K → Result (Unit {0}) Halt → PathState → ArrayState → K → Type 0) → Letter → Type 0
DoStep {K} took Acted actor =
    (w : WorldState) (a : ArrayState) (old mid : K) (result : Result (Unit {0}) Halt) (p' : PathState) (a' : ArrayState) (new : K)
    → MaySteps w a → took old (items_text (letter_lines w actor)) mid → Acted w.path a mid result p' a' new
    → IsStep took w actor a old result (behind_step w actor p') a' new

pub record AreSteps {K : Type 0} (took : K → List ℕ → K → Type 0) : Type 0 where
  pub host : DoStep took (HostActed took) HostActs
  pub engine : DoStep took (EngineActed took) EngineActs
  pub card : DoStep took (CardActed took) CardActs
  pub power : DoStep took (PowerActed took) PowerActs

-- What a step of a run prints of a state, and what it leads to.
use Rattle.std.specs.Prelude.{◌≡◌, List, Result, Ok, Err, IfSome}
use Rattle.storage_machine.specs.declared.state.Owed.TheVariants.{End as Ended}
use Rattle.storage_machine.specs.declared.state.State.{State}
use Rattle.storage_model.specs.declared.ends.Halt.{Halt}
use Rattle.storage_model.specs.declared.ends.Halt.TheVariants.{SinkFailed}
use Rattle.storage_model.specs.declared.faults.Letter.{Letter}
use Rattle.storage_model.specs.declared.trace.Item.{Item}
use Rattle.storage_order.specs.Events.{Starts}
use Rattle.storage_runs.specs.Runs.{Shows, StaysSo, Yields, begun_next, chosen, shown, with_letter}
use Rattle.array_edge.specs.Array.{ArrayState}
use Rattle.intent_store.specs.Intent.{shown_by}
use Rattle.world_state.specs.Stands.{IsNear}
use Rattle.world_steps.specs.World.{IsPrompt, StandsFor, WorldState}

-- what the lines keep beside the rules of each: what is left is as it was kept where nothing was staged, and a phase yields to the `cut` line of its own number where
-- the event is the next one
pub record KeepsRules (w : WorldState) (s : State) (actor : Letter) (items : List Item) : Type 0 where
  pub left : StaysSo (begun_next s actor) items
  pub yields : IsPrompt w → actor ≡ chosen s → Yields (begun_next s actor) items

-- these lines, the letter's among them, are those of an event of the actor
pub record Shown (w : WorldState) (s : State) (actor : Letter) (lines : List Item) (t : State) : Type 0 where
  pub items : List Item
  pub shows : Shows s actor items lines t
  pub rules : KeepsRules w s actor items

-- or they begin one
pub record Begun (w : WorldState) (s : State) (actor : Letter) (lines : List Item) (last : State) : Type 0 where
  pub items : List Item
  pub printed : lines ≡ shown s actor items
  pub starts : Starts (with_letter s actor) actor items last
  pub rules : KeepsRules w s actor items

-- A step that went well, one whose sink failed in the last of the lines, and one that ended the run.
abbrev pub StepTells : WorldState → State → Letter → List Item → Result (Unit {0}) Halt → WorldState → ArrayState → Type 0
StepTells w s actor lines (Ok done) w' a = (t : State) × Shown w s actor lines t × StandsFor w' a t
StepTells w s actor lines (Err SinkFailed) w' a = (last : State) × Begun w s actor lines last × IfSome (shown_by a) (IsNear last)
StepTells w s actor lines (Err halt) w' a = (t : State) × Shown w s actor lines t × (t.owed ≡ Ended) × IfSome (shown_by a) (IsNear t)

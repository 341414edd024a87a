-- The lines of an event, those of a cut in it and those that follow the cut, joined to the lines of a step.
use Rattle.std.specs.Prelude.{◌≡◌, ◌++◌, ◌∷◌, Bool, true, false, All, IfSome, List, []}
use Rattle.storage_machine.specs.declared.state.Owed.TheVariants.{End as Ended}
use Rattle.storage_machine.specs.declared.state.State.{State}
use Rattle.storage_model.specs.declared.faults.Letter.{Letter}
use Rattle.storage_model.specs.declared.trace.End.{End}
use Rattle.storage_model.specs.declared.trace.Item.{Item}
use Rattle.storage_model.specs.declared.trace.Item.TheVariants.{Cut, Left, Off}
use Rattle.storage_runs.specs.Runs.{StaysSo, Yields, begun_next, chosen, shown}
use Rattle.trace_effects.specs.Effects.{effect}
use Rattle.array_edge.specs.Array.{ArrayState}
use Rattle.cut_order.specs.Order.{order_of}
use Rattle.intent_store.specs.Intent.{shown_by}
use Rattle.world_state.specs.Path.{PathState}
use Rattle.world_state.specs.Reading.{Context, state_of}
use Rattle.world_state.specs.Stands.{IsNear}
use Rattle.world_state.specs.Told.{ComesBack, Darkened, StaysDark, Told}
use Rattle.world_steps.specs.Reading.{Reads}
use Rattle.world_steps.specs.Steps.{Shown}
use Rattle.world_steps.specs.World.{IsPrompt, StandsFor, WorldState, order_behind, order_in, uses_line}

-- a line tells a value that is left
abbrev pub tells_left : Item → Bool
tells_left (Left sector value) = true
tells_left item = false

-- the state before the event, and that in which the event's letter is used
abbrev pub before : WorldState → Context → State
before w c = state_of w.path w.order c

abbrev pub within : WorldState → Context → Letter → State
within w c actor = state_of w.path (order_in w actor) c

-- The lines of an event up to its cut: none tells what is left, and a phase among them yields to the `cut` line of its own number where the event is the
-- next one.
pub record OwnLines (w : WorldState) (c : Context) (actor : Letter) (items : List Item) : Type 0 where
  pub reads : Reads w c
  pub none : All (λ item. tells_left item ≡ false) items
  pub yields : IsPrompt w → actor ≡ chosen (before w c) → Yields (begun_next (before w c) actor) items

-- the lines are all of the event, and the world stands for the state behind them
abbrev pub GoesOn : WorldState → Context → Letter → List Item → PathState → ArrayState → Type 0
GoesOn w c actor items p a =
    (t : State) × Shown w (before w c) actor (shown (before w c) actor items) t × StandsFor (record { path = p; order = order_behind w actor }) a t

-- they end the run, and the pages are near the state behind them
abbrev pub EndsRun : WorldState → Context → Letter → List Item → ArrayState → Type 0
EndsRun w c actor items a = (t : State) × Shown w (before w c) actor (shown (before w c) actor items) t × (t.owed ≡ Ended) × IfSome (shown_by a) (IsNear t)

-- the power stays on
abbrev pub IsLit : WorldState → Context → Letter → List Item → PathState → ArrayState → Type 0
IsLit w c actor items p a = OwnLines w c actor items → uses_line w actor ≡ false → Told actor (within w c actor) items p (order_in w actor) a → GoesOn w c actor items p a

-- Power is lost behind these lines of an event, on the path and the array as they are then.
abbrev pub DarkIn : WorldState → Context → Letter → List Item → PathState → ArrayState → Type 0
DarkIn w c actor items p a = Darkened actor (within w c actor) items p (order_in w actor) a

-- it comes back: these lines follow the cut
abbrev pub IsBackOn : WorldState → Context → Letter → List Item → PathState → ArrayState → List Item → PathState → ArrayState → Type 0
IsBackOn w c actor items p a more p' a' =
    OwnLines w c actor items → (d : DarkIn w c actor items p a) → ComesBack d.last more p' a' → StaysSo (effect d.last Cut) more
    → order_of (effect d.last Cut) ≡ order_behind w actor → GoesOn w c actor (items ++ Cut ∷ more) p' a'

-- it stays off, and the run ends
abbrev pub IsEndedIn : WorldState → Context → Letter → List Item → PathState → ArrayState → List Item → End → ArrayState → Type 0
IsEndedIn w c actor items p a first end a' =
    OwnLines w c actor items → (d : DarkIn w c actor items p a) → StaysDark d.last (first ++ Off end ∷ []) a' → StaysSo (effect d.last Cut) (first ++ Off end ∷ [])
    → EndsRun w c actor (items ++ Cut ∷ (first ++ Off end ∷ [])) a'

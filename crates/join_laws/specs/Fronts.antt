-- The lines of an event that broke off, as the sink failed in one of them.
use Rattle.std.specs.Prelude.{◌≡◌, ◌++◌, ◌∷◌, IfSome, List}
use Rattle.storage_machine.specs.declared.state.State.{State}
use Rattle.storage_model.specs.declared.block.Block.{Block}
use Rattle.storage_model.specs.declared.faults.Letter.{Letter}
use Rattle.storage_model.specs.declared.trace.Item.{Item}
use Rattle.storage_model.specs.declared.trace.Item.TheVariants.{Cut}
use Rattle.storage_order.specs.Events.{Starts}
use Rattle.storage_runs.specs.Runs.{StaysSo, shown}
use Rattle.trace_effects.specs.Effects.{effect}
use Rattle.array_edge.specs.Array.{ArrayState}
use Rattle.cut_order.specs.Order.{OrderState}
use Rattle.intent_store.specs.Intent.{shown_by}
use Rattle.join_laws.specs.Joins.{DarkIn, OwnLines, before, within}
use Rattle.world_state.specs.Path.{PathState}
use Rattle.world_state.specs.Reading.{Context, state_of}
use Rattle.world_state.specs.Stands.{IsNear}
use Rattle.world_state.specs.Told.{StaysDark, Told}
use Rattle.world_steps.specs.Steps.{Begun}
use Rattle.world_steps.specs.World.{WorldState}

-- these whole lines begin the event
pub record Stopped (w : WorldState) (c : Context) (actor : Letter) (whole : List Item) : Type 0 where
  pub last : State
  pub begun : Begun w (before w c) actor (shown (before w c) actor whole) last
  pub starts : Starts (within w c actor) actor whole last

-- and the pages are near the state behind them
pub record StoppedNear (w : WorldState) (c : Context) (actor : Letter) (whole : List Item) (a : ArrayState) : Type 0 where
  pub last : State
  pub begun : Begun w (before w c) actor (shown (before w c) actor whole) last
  pub near : IfSome (shown_by a) (IsNear last)

-- in an event in which the power stays on, and before the cut of one in which it is lost
abbrev pub IsStoppedLit : WorldState → Context → Letter → List Item → Item → List Item → Type 0
IsStoppedLit w c actor whole item rest =
    (items : List Item) (p : PathState) (o : OrderState) (a : ArrayState) → items ≡ whole ++ item ∷ rest → OwnLines w c actor items
    → Told actor (within w c actor) items p o a → Stopped w c actor whole

abbrev pub IsStoppedDark : WorldState → Context → Letter → List Item → Item → List Item → Type 0
IsStoppedDark w c actor whole item rest =
    (items : List Item) (p : PathState) (a : ArrayState) → items ≡ whole ++ item ∷ rest → OwnLines w c actor items → DarkIn w c actor items p a → Stopped w c actor whole

-- all lines of an event in which the power stays on begin it too, and what is near the state behind the event is near the one behind its last line
pub record StoppedLast (w : WorldState) (c : Context) (actor : Letter) (items : List Item) (t : State) : Type 0 where
  pub last : State
  pub begun : Begun w (before w c) actor (shown (before w c) actor items) last
  pub near : (pages : List Block) → IsNear t pages → IsNear last pages

abbrev pub IsStoppedLast : WorldState → Context → Letter → Item → List Item → PathState → OrderState → ArrayState → Type 0
IsStoppedLast w c actor item others p o a =
    OwnLines w c actor (item ∷ others) → (told : Told actor (within w c actor) (item ∷ others) p o a) → StoppedLast w c actor (item ∷ others) (state_of p o told.context)

-- in the last line before the cut
abbrev pub IsStoppedAtCut : WorldState → Context → Letter → List Item → PathState → ArrayState → Type 0
IsStoppedAtCut w c actor items p a =
    OwnLines w c actor items → (d : DarkIn w c actor items p a) → Begun w (before w c) actor (shown (before w c) actor items) d.last × IfSome (shown_by a) (IsNear d.last)

-- in the cut's line, and behind it
abbrev pub IsStoppedBehind : WorldState → Context → Letter → List Item → PathState → ArrayState → List Item → ArrayState → Type 0
IsStoppedBehind w c actor items p a whole a' =
    OwnLines w c actor items → (d : DarkIn w c actor items p a) → StaysDark d.last whole a' → StaysSo (effect d.last Cut) whole
    → StoppedNear w c actor (items ++ Cut ∷ whole) a'

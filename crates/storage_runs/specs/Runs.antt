-- Runs: one event after the other. Power's comes where a cut is due, else that of the next letter, else the host's where it has work, else the engine's.
use Rattle.std.specs.Prelude.{◌≡◌, ℕ, zero, suc, ◌&&◌, Bool, true, not, if◌then◌else◌, Option, Some, None, List, [], ◌∷◌, slice_get}
use Rattle.storage_machine.specs.Cuts.{is_due}
use Rattle.storage_machine.specs.Host.{to_do}
use Rattle.storage_machine.specs.declared.state.State.{State}
use Rattle.storage_model.specs.declared.faults.Letter.{Letter}
use Rattle.storage_model.specs.declared.faults.Letter.TheVariants.{Cut as PowerActs}
use Rattle.storage_model.specs.declared.trace.Item.{Item}
use Rattle.storage_model.specs.declared.trace.Item.TheVariants.{Turn}
use Rattle.storage_order.specs.Events.{Happens}
use Rattle.storage_order.specs.Order.{next_actor}
use Rattle.trace_effects.specs.Effects.{begun, effect, letters_used}
use Rattle.trace_rules.specs.Lines.{is_letter, same_letter}
use Rattle.trace_rules.specs.Steps.{is_left_so, yields_to_cut}

-- the letter that is to be shown next, where one is left
abbrev pub next_letter : State → Option Letter
next_letter s = slice_get s.faults.turns s.letters

abbrev pub chosen_by : State → Option Letter → Letter
chosen_by s None = next_actor s
chosen_by s (Some letter) = letter

-- the actor whose event comes next
abbrev pub chosen : State → Letter
chosen s = if is_due s then PowerActs else chosen_by s (next_letter s)

-- the event is that of the next letter and shows it; power's at a due cut shows none
abbrev pub is_shown : State → Letter → Bool
is_shown s actor = is_letter actor (next_letter s) && not (same_letter actor PowerActs && is_due s)

abbrev pub with_letter : State → Letter → State
with_letter s actor = if is_shown s actor then record s { letters = letters_used s } else s

abbrev pub shown : State → Letter → List Item → List Item
shown s actor items = if is_shown s actor then Turn actor ∷ items else items

-- an event of any actor, whichever comes next, with the line of its letter
pub record Shows (s : State) (actor : Letter) (items lines : List Item) (t : State) : Type 0 where
  pub printed : lines ≡ shown s actor items
  pub happens : Happens (with_letter s actor) actor items t

-- a phase, which is an event's first line, yields to a `cut` line of its own number
abbrev pub Yields : State → List Item → Type 0
Yields s [] = Unit {0}
Yields s (item ∷ items) = yields_to_cut s item ≡ true

-- what is left after a cut is as it was where nothing of the cache was staged
abbrev pub StaysSo : State → List Item → Type 0
StaysSo s [] = Unit {0}
StaysSo s (item ∷ items) = (is_left_so s item ≡ true) × StaysSo (effect s item) items

-- the state in which an actor's event has begun
abbrev pub begun_next : State → Letter → State
begun_next s actor = begun (with_letter s actor) actor

-- the next event of a run prints these lines
pub record Comes (s : State) (lines : List Item) (t : State) : Type 0 where
  pub items : List Item
  pub some : to_do s ≡ true
  pub shows : Shows s (chosen s) items lines t
  pub cut : Yields (begun_next s (chosen s)) items
  pub kept : StaysSo (begun_next s (chosen s)) items

-- the events of a run, each with its lines
abbrev pub Run : State → List (List Item) → State → Type 0
Run s [] t = t ≡ s
Run s (lines ∷ more) t = (u : State) × Comes s lines u × Run u more t

-- so many events come that print nothing
abbrev pub Unseen : ℕ → State → State → Type 0
Unseen zero m s = s ≡ m
Unseen (suc k) m s = (u : State) × Comes m [] u × Unseen k u s

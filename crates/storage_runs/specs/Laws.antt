-- The acceptance of traces beside a run. Between the lines it stands where the run does, but for events that print nothing.
use Rattle.std.specs.Prelude.{false, ◌≡◌, ◌⊎◌, ◌≤◌, ℕ, ◌||◌, true, false, not, Some, None, List, [], ◌∷◌, ◌++◌}
use Rattle.storage_machine.specs.Cuts.{is_due}
use Rattle.storage_machine.specs.Host.{to_do}
use Rattle.storage_machine.specs.declared.state.Event.TheVariants.{Untold}
use Rattle.storage_machine.specs.declared.state.Owed.TheVariants.{Nothing, End as Ended}
use Rattle.storage_machine.specs.declared.state.State.{State}
use Rattle.storage_model.specs.declared.faults.Letter.{Letter}
use Rattle.storage_model.specs.declared.trace.Item.{Item}
use Rattle.storage_model.specs.declared.trace.Item.TheVariants.{Turn}
use Rattle.storage_order.specs.Accept.{accept_from}
use Rattle.storage_order.specs.Events.{More, Starts, end_rule, ended, is_untold}
use Rattle.storage_runs.specs.Runs.{StaysSo, Unseen, Yields, begun_next, chosen, is_shown, next_letter, shown, with_letter}
use Rattle.trace_rules.specs.Lines.{is_free}
use Rattle.trace_rules.specs.Steps.{is_nothing}

-- the state between events, where the event that was told is over
abbrev pub rested : State → State
rested m = record (ended m) { owed = Nothing }

-- the acceptor m stands where the events of a run have come to s: it lacks only events that no line tells
pub record StandsAt (m s : State) : Type 0 where
  pub free : is_free m.owed ≡ true
  pub whole : (is_nothing m.owed || is_untold m.event) ≡ true
  pub ends : end_rule m ≡ None
  pub calm : (is_untold m.event || not (is_due m)) ≡ true
  pub depth : 1 ≤ m.plan.depth
  pub count : ℕ
  pub unseen : Unseen count (rested m) s

-- a run has ended
pub record HasEnded (u t : State) : Type 0 where
  pub owed : t.owed ≡ Ended
  pub state : u ≡ t

-- after the lines of the next event the acceptor stands where that event leads
pub record Takes (m t : State) (lines : List Item) : Type 0 where
  pub after : State
  pub stands : StandsAt after t ⊎ HasEnded after t
  pub taken : (more : List Item) → accept_from (lines ++ more) m ≡ accept_from more after

-- and it saw the end of that event
pub record Closes (m t : State) (lines : List Item) : Type 0 where
  pub takes : Takes m t lines
  pub event : takes.after.event ≡ Untold

-- the lines of all events
abbrev pub joined : List (List Item) → List Item
joined [] = []
joined (lines ∷ events) = lines ++ joined events

-- lines that begin the next event, and no more of it
pub record Opens (s : State) (lines : List Item) (last : State) : Type 0 where
  pub items : List Item
  pub some : to_do s ≡ true
  pub printed : lines ≡ shown s (chosen s) items
  pub starts : Starts (with_letter s (chosen s)) (chosen s) items last
  pub cut : Yields (begun_next s (chosen s)) items
  pub kept : StaysSo (begun_next s (chosen s)) items

-- they are taken, whatever follows
pub record IsOpened (m : State) (lines : List Item) : Type 0 where
  pub after : State
  pub taken : (more : List Item) → accept_from (lines ++ more) m ≡ accept_from more after

-- the further lines of an event are taken
abbrev pub IsMoreTaken : State → State → List Item → Type 0
IsMoreTaken s t items = More s items t → StaysSo s items → (more : List Item) → accept_from (items ++ more) s ≡ accept_from more t

-- the line of a letter is taken, and its event has begun
abbrev pub IsLetterTaken : State → State → Letter → Type 0
IsLetterTaken m s letter = StandsAt m s → next_letter (rested m) ≡ Some letter → is_due (rested m) ≡ false → is_shown (rested m) letter ≡ true
    → (more : List Item) → accept_from (Turn letter ∷ more) m ≡ accept_from more (begun_next (rested m) letter)

-- The acceptance of traces takes every run, event by event, whichever letters are left.
use Rattle.std.specs.Prelude.{◌≡◌, Bool, true, false, None, List, [], ◌∷◌}
use Rattle.storage_machine.specs.Host.{to_do}
use Rattle.storage_machine.specs.declared.state.Event.TheVariants.{Untold}
use Rattle.storage_machine.specs.declared.state.State.{State}
use Rattle.storage_model.specs.declared.faults.Letter.TheVariants.{Engine as EngineActs, Card as CardActs}
use Rattle.storage_model.specs.declared.trace.End.{End}
use Rattle.storage_model.specs.declared.trace.Item.{Item}
use Rattle.storage_model.specs.declared.trace.Item.TheVariants.{Turn, Off}
use Rattle.storage_order.specs.Accept.{accept_from}
use Rattle.storage_runs.specs.Laws.{IsOpened, Opens, StandsAt, Takes, joined}
use Rattle.storage_runs.specs.Runs.{Comes, Run}
use Rattle.trace_effects.specs.Effects.{effect}
use Rattle.trace_rules.specs.Lines.{line_rule}

-- the line of a letter of the engine's or the card's, whose event may print nothing more
abbrev pub tells : Item → Bool
tells (Turn EngineActs) = true
tells (Turn CardActs) = true
tells item = false

-- the last line so far
abbrev pub last_of : Item → List Item → Item
last_of before [] = before
last_of before (item ∷ items) = last_of item items

-- the acceptor has seen the end of the last event, unless the last line was such a letter's
abbrev pub Seen : Item → State → Type 0
Seen before m = tells before ≡ false → m.event ≡ Untold

-- after the lines the acceptor stands where they lead
pub record Leads (before : Item) (m t : State) (lines : List Item) : Type 0 where
  pub takes : Takes m t lines
  pub seen : Seen (last_of before lines) takes.after

-- the next event is taken
abbrev pub IsTaken : Item → State → State → State → List Item → Type 0
IsTaken before m s t lines = StandsAt m s → Seen before m → Comes s lines t → Leads before m t lines

-- and so are lines that only begin it
abbrev pub IsFrontTaken : State → State → State → List Item → Type 0
IsFrontTaken m s last lines = StandsAt m s → Opens s lines last → IsOpened m lines

-- and the events of a run, one after the other
abbrev pub IsRunTaken : Item → State → State → State → List (List Item) → Type 0
IsRunTaken before m s t events = StandsAt m s → Seen before m → Run s events t → Leads before m t (joined events)

-- and the line that ends a run, where nothing is to do
abbrev pub IsEndTaken : State → State → End → Type 0
IsEndTaken m s end = StandsAt m s → to_do s ≡ false → line_rule s (Off end) ≡ None
    → (more : List Item) → accept_from (Off end ∷ more) m ≡ accept_from more (effect s (Off end))

-- The order of events. While letters of the fault text are left, each event begins with one; else the host acts where it has something to do,
-- and the engine where it hasn't. A due cut comes before either.
use Rattle.std.specs.Prelude.{ℕ, ◌&&◌, ◌||◌, nat_lt, Bool, true, false, not, if◌then◌else◌, Option, None, length}
use Rattle.storage_machine.specs.Commands.{is_calm, is_idle}
use Rattle.storage_machine.specs.Cuts.{is_due}
use Rattle.trace_effects.specs.Effects.{letters_left}
use Rattle.storage_machine.specs.Host.{has_work, recovery_steps, to_do}
use Rattle.trace_rules.specs.Lines.{is_free}
use Rattle.storage_order.specs.Events.{closed, end_rule, ended, engine_step}
use Rattle.trace_rules.specs.Steps.{is_cut, is_cut_by, is_due_event, is_line_of, is_nothing, lower, unless}
use Rattle.storage_machine.specs.declared.state.Event.{Event}
use Rattle.storage_machine.specs.declared.state.Event.TheVariants.{Untold, Told, Due}
use Rattle.storage_machine.specs.declared.state.State.{State}
use Rattle.storage_model.specs.declared.faults.Letter.{Letter}
use Rattle.storage_model.specs.declared.faults.Letter.TheVariants.{Host as HostActs, Engine as EngineActs, Card as CardActs}
use Rattle.storage_model.specs.declared.trace.Item.{Item}
use Rattle.storage_model.specs.declared.trace.Item.TheVariants.{Phase, Irq, Cut, Turn, Off}

-- a phase whose own number has a `cut` line that isn't used
abbrev pub is_cut_phase : State → Item → Bool
is_cut_phase s (Phase n id count kept) = is_cut_by s
is_cut_phase s item = false

abbrev pub is_phase : Item → Bool
is_phase (Phase n id count kept) = true
is_phase item = false

-- A phase that is another event's than the one that a letter told: a due cut takes it from the engine. Behind the card's event the engine's own comes
-- untold, where no letter is left and the host has no work.
abbrev pub is_of_next : State → Letter → Item → Bool
is_of_next s EngineActs item = is_cut_phase s item
is_of_next s CardActs item = is_phase item && not (letters_left s || has_work s)
is_of_next s letter item = false

-- The line is one of the event that a letter told. After a phase in an event in which power is lost, the event isn't over.
abbrev pub is_told : State → Letter → Item → Bool
is_told s letter item = not (is_nothing s.owed) || (is_line_of letter (is_calm s.recovery) item && not (is_of_next s letter item))

abbrev pub starts_at : State → Event → Item → Bool
starts_at s Untold item = true
starts_at s Due item = false
starts_at s (Told letter) item = not (is_told s letter item)

-- the line begins a further event, and the one that was told ends
unfoldable pub starts : State → Item → Bool
starts s item = is_free s.owed && starts_at s s.event item

-- the engine's event that prints nothing and that the line needs: counted completions are told, or a phase that is cut begins
abbrev pub needs_step : State → Item → Bool
needs_step s (Irq mask) = is_idle s
needs_step s (Phase n id count kept) = is_cut_by s && not s.busy
needs_step s item = false

abbrev pub engine_first : State → Item → State
engine_first s item = if not (has_work s) && needs_step s item then engine_step s else s

-- the lines of an event of power
abbrev pub is_of_cut : Item → Bool
is_of_cut (Phase n id count kept) = true
is_of_cut Cut = true
is_of_cut item = false

-- where a cut is due, its event is power's
abbrev pub with_due : State → Item → State
with_due s item = if is_due s && is_of_cut item then record s { event = Due } else s

-- Events that no letter tells: where none is left, the steps of a recovery that print nothing are taken before any line but those of a due cut, and so is
-- the engine's event that the line needs.
abbrev pub untold_steps : State → Item → State
untold_steps s item = if letters_left s || (is_due s && is_of_cut item) then s else engine_first (recovery_steps s) item

unfoldable pub forced : State → Item → State
forced s item = with_due (untold_steps s item) item

-- a line that begins an event, but a cut, leaves a complete phase behind
abbrev pub left_behind : State → Item → State
left_behind s item = if is_cut item then s else record s { owed = closed s.owed }

-- the event under way is over, and the line's begins
abbrev pub entered : State → Item → State
entered s item = forced (left_behind (ended s) item) item

-- the state in whose event the line stands
unfoldable pub settled : State → Item → State
settled s item = if starts s item then entered s item else s

-- the actor whose event comes where no letter tells
abbrev pub next_actor : State → Letter
next_actor s = if has_work s then HostActs else EngineActs

-- letters, and the end, come by themselves
abbrev pub is_alone : Item → Bool
is_alone (Turn letter) = true
is_alone (Off end) = true
is_alone item = false

-- rule 12: whose event comes; a cut behind a complete phase is of the phase's event
abbrev pub is_next : State → Item → Bool
is_next s item =
    is_alone item || (not (to_do s) || (not (is_nothing s.owed) && is_cut item
    || (not (letters_left s) && is_line_of (next_actor s) (is_calm s.recovery) item)))

-- rule 15: where a cut is due, the next event is power's
abbrev pub start_rule : Bool → State → Item → Option ℕ
start_rule due s item =
    if is_due_event s.event then None
    else lower (unless (is_next s item) 12) (unless (not due) 15)

-- the lowest rule of 12 to 15 that is broken as an event begins, and where the one before ends without a line
unfoldable pub order_rule : State → Item → Option ℕ
order_rule s item = if starts s item then lower (end_rule s) (start_rule (is_due (ended s)) (entered s item) item) else None

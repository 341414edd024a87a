-- A line within its event. The rules here are 12, whose lines an event has; 13, what the host does first; 15, a due cut; 16, what stays in
-- the cache.
use Rattle.std.specs.Prelude.{ℕ, ◌==◌, ◌&&◌, ◌||◌, min, Bool, true, false, not, if◌then◌else◌, Option, Some, None, slice_get}
use Rattle.storage_machine.specs.Commands.{due, is_calm}
use Rattle.storage_machine.specs.Cuts.{has_own_line, shows}
use Rattle.storage_machine.specs.Host.{is_irq_due}
use Rattle.storage_machine.specs.declared.commands.DueCommand.{DueCommand}
use Rattle.storage_machine.specs.declared.commands.DueCommand.TheVariants.{Execute}
use Rattle.storage_machine.specs.declared.state.Event.{Event}
use Rattle.storage_machine.specs.declared.state.Event.TheVariants.{Untold, Told, Due}
use Rattle.storage_machine.specs.declared.state.Owed.{Owed}
use Rattle.storage_machine.specs.declared.state.Owed.TheVariants.{Nothing}
use Rattle.storage_machine.specs.declared.state.Recovery.{Recovery}
use Rattle.storage_machine.specs.declared.state.Recovery.TheVariants.{Cleared}
use Rattle.storage_machine.specs.declared.state.State.{State}
use Rattle.storage_model.specs.declared.faults.Letter.{Letter}
use Rattle.storage_model.specs.declared.faults.Letter.TheVariants.{Host as HostActs, Engine as EngineActs, Card as CardActs, Cut as PowerActs}
use Rattle.storage_model.specs.declared.trace.Item.{Item}
use Rattle.storage_model.specs.declared.trace.Item.TheVariants.{Issue, Params, Address, Poll, Phase, Discard, Bus, Flash, Recover, Irq, Fault, Refused, Cut, Left}

-- the first rule of two that is broken, and the lower one
abbrev pub earlier : Option ℕ → Option ℕ → Option ℕ
earlier None rule = rule
earlier (Some broken) rule = Some broken

abbrev pub lower : Option ℕ → Option ℕ → Option ℕ
lower None rule = rule
lower (Some broken) None = Some broken
lower (Some broken) (Some other) = Some (min broken other)

-- a rule that is broken where a test doesn't hold
abbrev pub unless : Bool → ℕ → Option ℕ
unless test rule = if test then None else Some rule

-- The lines of an actor's event. The host sends the discard of a recovery, the engine all other commands; power may be lost in an event of
-- the engine or of the card, and a phase under way then ends.
abbrev pub is_line_of : Letter → Bool → Item → Bool
is_line_of HostActs calm (Issue id tag) = true
is_line_of HostActs calm (Irq mask) = true
is_line_of HostActs calm (Fault id why) = true
is_line_of HostActs calm (Refused id why) = true
is_line_of HostActs calm Recover = true
is_line_of HostActs calm (Discard n) = true
is_line_of HostActs calm (Bus n kind id) = not calm
is_line_of EngineActs calm (Params n id) = true
is_line_of EngineActs calm (Address n id) = true
is_line_of EngineActs calm (Poll n mask) = true
is_line_of EngineActs calm (Phase n id count kept) = true
is_line_of EngineActs calm (Bus n kind id) = calm
is_line_of EngineActs calm Cut = true
is_line_of CardActs calm (Flash id) = true
is_line_of CardActs calm (Phase n id count kept) = true
is_line_of CardActs calm Cut = true
is_line_of PowerActs calm (Phase n id count kept) = true
is_line_of PowerActs calm Cut = true
is_line_of letter calm item = false

abbrev pub is_cut : Item → Bool
is_cut Cut = true
is_cut item = false

abbrev pub is_nothing : Owed → Bool
is_nothing Nothing = true
is_nothing owed = false

-- in an event of power or of the card, a phase line is that of the phase under way
abbrev pub is_under_way : Bool → Item → Bool
is_under_way busy (Phase n id count kept) = busy
is_under_way busy item = true

-- where power is lost in an event, the cut comes directly after its phase line
abbrev pub stands_of_power : State → Letter → Item → Bool
stands_of_power s letter item =
    if is_nothing s.owed then is_line_of letter (is_calm s.recovery) item && is_under_way s.busy item else is_cut item

abbrev pub stands_in : State → Event → Item → Bool
stands_in s Untold item = true
stands_in s Due item = stands_of_power s PowerActs item
stands_in s (Told CardActs) item = stands_of_power s CardActs item
stands_in s (Told PowerActs) item = stands_of_power s PowerActs item
stands_in s (Told letter) item = not (is_nothing s.owed) || is_line_of letter (is_calm s.recovery) item

-- the rule that says whose line comes
abbrev pub rule_of_event : Event → ℕ
rule_of_event Due = 15
rule_of_event event = 12

-- the host does first what comes first: a step of a recovery, answers, a stop, an issue
abbrev pub is_cleared : Recovery → Bool
is_cleared Cleared = true
is_cleared recovery = false

abbrev pub is_first_work : State → Item → Bool
is_first_work s (Issue id tag) = not (is_irq_due s)
is_first_work s (Irq mask) = is_calm s.recovery
is_first_work s (Discard n) = is_cleared s.recovery
is_first_work s (Bus n kind id) = is_calm s.recovery || is_cleared s.recovery
is_first_work s item = true

-- a phase of a read or write whose own number has an unused `cut` line stands in the event of power that uses it, and moves nothing
abbrev pub is_due_event : Event → Bool
is_due_event Due = true
is_due_event event = false

abbrev pub is_execute : DueCommand → Bool
is_execute (Execute tag) = true
is_execute command = false

abbrev pub is_cut_by : State → Bool
is_cut_by s = has_own_line s && is_execute (due s)

abbrev pub yields_to_cut : State → Item → Bool
yields_to_cut s (Phase n id count kept) = if is_cut_by s then is_due_event s.event && (count == 0) else true
yields_to_cut s item = true

-- where nothing of the cache was staged, a sector is left as it was
abbrev pub is_left_so : State → Item → Bool
is_left_so s (Left sector value) = if s.deferred then shows (slice_get s.base sector) value else true
is_left_so s item = true

-- the lowest rule of 12 to 16 that a line breaks within its event
unfoldable pub event_rule : State → Item → Option ℕ
event_rule s item =
    lower (unless (stands_in s s.event item) (rule_of_event s.event))
    (earlier (unless (is_first_work s item) 13) (earlier (unless (yields_to_cut s item) 15) (unless (is_left_so s item) 16)))

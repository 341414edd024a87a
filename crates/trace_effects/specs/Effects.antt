-- What each line of a trace does to the state.
use Rattle.std.specs.Prelude.{ℕ, ◌+◌, ◌-◌, ◌&&◌, ◌||◌, nat_lt, min, not, Bool, true, false, if◌then◌else◌, Option, Some, None, List, [], ◌∷◌, ◌++◌, fold, length, slice_index_or, slice_set}
use Rattle.storage_machine.specs.Commands.{due, is_calm}
use Rattle.trace_effects.specs.Cuts.{all_epochs, epochs_with, is_deferred, used}
use Rattle.storage_machine.specs.Cuts.{due_line, is_due, next_left}
use Rattle.storage_machine.specs.Host.{has_work, is_silent, recovery_step, recovery_steps, to_do}
use Rattle.storage_machine.specs.Jobs.{is_in_range, job_of}
use Rattle.trace_rules.specs.Lines.{data_on, is_poll}
use Rattle.trace_effects.specs.Phases.{after_keep, after_phase, with_kept}
use Rattle.storage_machine.specs.Slots.{changed_slots, has, tag_of, tag_with}
use Rattle.storage_machine.specs.declared.slots.Change.TheVariants.{MakeReady, Collect, Hold, Move, Answer}
use Rattle.storage_machine.specs.declared.slots.Question.TheVariants.{Collected as IsCollected}
use Rattle.storage_machine.specs.declared.state.Event.{Event}
use Rattle.storage_machine.specs.declared.state.Event.TheVariants.{Untold, Told, Due}
use Rattle.storage_machine.specs.declared.state.Owed.{Owed}
use Rattle.storage_machine.specs.declared.state.Owed.TheVariants.{Nothing, Answers, Sectors, Recover as RecoverOwed, Dark, Left as LeftOwed, End as Ended}
use Rattle.storage_machine.specs.declared.state.Recovery.TheVariants.{Calm, Halted, Discarded}
use Rattle.storage_machine.specs.declared.state.Standing.TheVariants.{Rung, Named, Sent}
use Rattle.storage_machine.specs.declared.state.State.{State}
use Rattle.storage_machine.specs.declared.state.Stop.{Stop}
use Rattle.storage_machine.specs.declared.state.Stop.TheVariants.{Running, Bus as BusStop, Flash as FlashStop, Range}
use Rattle.storage_machine.specs.declared.state.Task.{Task}
use Rattle.storage_model.specs.Contents.{contents_now}
use Rattle.storage_model.specs.Keep.{every_sector}
use Rattle.storage_model.specs.declared.block.Block.{Block}
use Rattle.storage_model.specs.declared.faults.BusKind.{BusKind}
use Rattle.storage_model.specs.declared.faults.BusKind.TheVariants.{NoResp}
use Rattle.storage_model.specs.declared.faults.Letter.{Letter}
use Rattle.storage_model.specs.declared.faults.Letter.TheVariants.{Host as HostActs, Engine as EngineActs, Card as CardActs, Cut as PowerActs}
use Rattle.storage_model.specs.declared.marks.Mark.{Mark}
use Rattle.storage_model.specs.declared.marks.Mark.TheVariants.{Put as PutMark}
use Rattle.storage_model.specs.declared.trace.End.{End}
use Rattle.storage_model.specs.declared.trace.End.TheVariants.{Good}
use Rattle.storage_model.specs.declared.trace.Item.{Item}
use Rattle.storage_model.specs.declared.trace.Item.TheVariants.{Card, Issue, Params, Address, Poll, Phase, Discard, Bus, Flash, Recover, Irq, Done, Read, Sector, Status, Fault, Refused, Cut, Lost, On, Left, Turn, Off}

-- the line ends its event, but for lines that are owed
abbrev pub over : State → Owed → State
over s owed = record s { owed = owed; event = Untold }

-- An event of an actor begins. A step of a recovery that prints nothing is taken at once, a host without work does nothing, and a due `cut` line makes
-- an event of power its own.
abbrev pub begun_by : State → Letter → State
begun_by s HostActs =
    if is_silent s.recovery then record (recovery_step s) { event = Untold }
    else record s { event = if has_work s then Told HostActs else Untold }
begun_by s EngineActs = record s { event = Told EngineActs }
begun_by s CardActs = record s { event = Told CardActs; staged = true }
begun_by s PowerActs = record s { event = if is_due s then Due else Told PowerActs }

unfoldable pub begun : State → Letter → State
begun s letter = begun_by (record s { owed = Nothing }) letter

abbrev pub letters_left : State → Bool
letters_left s = nat_lt s.letters (length s.faults.turns)

abbrev pub letters_used : State → ℕ
letters_used s = min (s.letters + 1) (length s.faults.turns)

unfoldable pub after_turn : State → Letter → State
after_turn s letter = begun (record s { letters = letters_used s }) letter

-- the request is issued
unfoldable pub after_issue : State → ℕ → ℕ → State
after_issue s id tag = over (record s {
  waiting = slice_set s.waiting (id - 1) false;
  slots = slice_set s.slots tag (Some (record { id = id; standing = Rung }));
  order = s.order ++ tag ∷ [];
}) Nothing

-- a command of the queue: the task has its parameters, then its address, or it is past the end
unfoldable pub after_params : State → ℕ → ℕ → State
after_params s n id = over (record s { n = n; slots = changed_slots (Move id Named) s.slots }) Nothing

abbrev pub addressed : State → ℕ → Bool → State
addressed s id inside = if inside then record s { slots = changed_slots (Move id Sent) s.slots } else record s { stop = Range id }

unfoldable pub after_address : State → ℕ → ℕ → State
after_address s n id = over (addressed (record s { n = n }) id (is_in_range (job_of s.plan.jobs id) (length s.base))) Nothing

-- a word of ready tasks is used, where one is left
abbrev pub words_used : State → ℕ
words_used s = min (s.words + 1) (length s.faults.ready)

-- the tasks of a poll's mask are ready
unfoldable pub after_poll : State → ℕ → ℕ → State
after_poll s n mask = over (record s { n = n; words = words_used s; slots = changed_slots (MakeReady mask) s.slots }) Nothing

-- A bus fault stops the engine, but for one of a recovery's discard. A poll that the card got uses a word.
abbrev pub uses_word : State → BusKind → Bool
uses_word s NoResp = is_poll (due s)
uses_word s kind = false

-- one more bus fault named the request, up to four
abbrev pub named_more : List ℕ → Option ℕ → List ℕ
named_more named None = named
named_more named (Some id) = slice_set named (id - 1) (min (slice_index_or named (id - 1) 0 + 1) 4)

unfoldable pub after_bus : State → ℕ → BusKind → Option ℕ → State
after_bus s n kind id = over (record s {
  n = n;
  words = if uses_word s kind then words_used s else s.words;
  named = named_more s.named id;
  stop = if is_calm s.recovery then BusStop id else s.stop;
}) Nothing

-- a flash fault of a request stops the engine
abbrev pub flash_stop : Stop → Option ℕ → Stop
flash_stop stop None = stop
flash_stop stop (Some id) = FlashStop id

unfoldable pub after_flash : State → Option ℕ → State
after_flash s id = over (record s { stop = flash_stop s.stop id }) Nothing

-- the done tasks are collected, and their answers owed
unfoldable pub after_irq : State → State
after_irq s = over (record s { notice = false; slots = changed_slots Collect s.slots }) Answers

-- the next answer is owed, where one is left
abbrev pub answers_left : List (Option Task) → Owed
answers_left slots = if has IsCollected slots then Answers else Nothing

unfoldable pub after_answer : State → ℕ → State
after_answer s id =
    let slots = changed_slots (Answer id) s.slots in
    over (record s { slots = slots }) (answers_left slots)

abbrev pub sectors_from : Option ℕ → Owed
sectors_from None = Nothing
sectors_from (Some tag) = Sectors tag 0

unfoldable pub after_read : State → ℕ → State
after_read s id = over (record s { slots = changed_slots (Answer id) s.slots }) (sectors_from (tag_of IsCollected s.slots))

abbrev pub shown_on : State → Owed → State
shown_on s (Sectors tag k) =
    if nat_lt (k + 1) (length (data_on s tag)) then over s (Sectors tag (k + 1))
    else over (record s { «data» = slice_set s.data tag [] }) (answers_left s.slots)
shown_on s owed = s

unfoldable pub after_sector : State → State
after_sector s = shown_on s s.owed

-- a request is answered by its fault, and the recovery begins
unfoldable pub after_fault : State → ℕ → State
after_fault s id = over (record s { slots = changed_slots (Answer id) s.slots }) RecoverOwed

-- a held request waits
abbrev pub with_held : List Bool → Option Task → List Bool
with_held waiting None = waiting
with_held waiting (Some task) = slice_set waiting (task.id - 1) true

unfoldable pub waiting_with : List Bool → List (Option Task) → List Bool
waiting_with waiting slots = fold with_held waiting slots

unfoldable pub after_recover : State → State
after_recover s = over (record s {
  waiting = waiting_with s.waiting s.slots;
  slots = changed_slots Hold s.slots;
  order = [];
  stop = Running;
  recovery = Halted;
  notice = false;
}) Nothing

unfoldable pub after_discard : State → ℕ → State
after_discard s n = over (record s { n = n; recovery = Discarded }) Nothing

-- The power is lost: nothing is counted, and a due line that forced the cut is used. The issued requests stay so up to their lines.
abbrev pub line_used : State → Event → Option ℕ
line_used s Due = due_line s
line_used s event = None

-- an event of the engine's or the card's, which may have printed nothing
abbrev pub is_quiet : Event → Bool
is_quiet (Told EngineActs) = true
is_quiet (Told CardActs) = true
is_quiet event = false

-- Where such an event was the last that a letter tells, and nothing is to do behind the silent steps of a recovery, the cut may be one of the last
-- flush: then these steps were taken before it.
abbrev pub is_last : State → Bool
is_last s = is_quiet s.event && not (letters_left s || to_do (recovery_steps s))

abbrev pub at_cut : State → State
at_cut s = if is_last s then recovery_steps s else s

abbrev pub first_cut : State → State
first_cut s = over (record s {
  slots = (at_cut s).slots;
  recovery = (at_cut s).recovery;
  cuts = used s.cuts (line_used s s.event);
  worked = to_do (at_cut s);
  spent = 0;
  notice = false;
  count = 0;
}) (Dark 0)

abbrev pub cut_at : State → Owed → State
cut_at s (Dark cuts) = over s (Dark (min (cuts + 1) 8))
cut_at s owed = first_cut s

unfoldable pub after_cut : State → State
after_cut s = cut_at s s.owed

-- the data of a tag is gone
abbrev pub without_data : List (List Block) → Option ℕ → List (List Block)
without_data kept None = kept
without_data kept (Some tag) = slice_set kept tag []

unfoldable pub after_lost : State → ℕ → State
after_lost s id = over (record s {
  waiting = slice_set s.waiting (id - 1) false;
  slots = changed_slots (Answer id) s.slots;
  «data» = without_data s.data (tag_with id s.slots);
}) s.owed

-- the power is on; what is left of sectors with a put is owed
abbrev pub powered : State → State
powered s = record s { order = []; bars = 0; busy = false; stop = Running; recovery = Calm }

abbrev pub left_from : State → Option ℕ → State
left_from s None = over (with_kept (record s { pend = [] }) s.kept) Nothing
left_from s (Some sector) = over (record s { deferred = is_deferred s; lefts = []; epochs = all_epochs s.pend }) (LeftOwed 0)

unfoldable pub after_on : State → State
after_on s = left_from (powered s) (next_left s.pend 0)

-- a value is left, as a put
abbrev pub left_mark : ℕ → Block → Mark
left_mark sector value = PutMark (record { sector = sector; value = value; reliable = false })

-- after the last value, the contents are what is left, and nothing is pending
abbrev pub left_on : State → ℕ → Option ℕ → State
left_on s sector (Some next) = over s (LeftOwed (sector + 1))
left_on s sector None = over (with_kept (record s {
  base = contents_now s.base s.lefts;
  pend = [];
  deferred = false;
  lefts = [];
  epochs = [];
}) s.kept) Nothing

unfoldable pub after_left : State → ℕ → Block → State
after_left s sector value =
    left_on (record s { epochs = epochs_with s sector value; lefts = s.lefts ++ left_mark sector value ∷ [] }) sector (next_left s.pend (sector + 1))

-- a good end keeps all
abbrev pub kept_at : State → End → State
kept_at s Good = with_kept (after_keep s every_sector) s.kept
kept_at s end = s

unfoldable pub after_off : State → End → State
after_off s end = over (kept_at s end) Ended

-- what a line does
unfoldable pub effect : State → Item → State
effect s (Card sectors depth lines) = over s Nothing
effect s (Turn letter) = after_turn s letter
effect s (Issue id tag) = after_issue s id tag
effect s (Params n id) = after_params s n id
effect s (Address n id) = after_address s n id
effect s (Poll n mask) = after_poll s n mask
effect s (Phase n id count kept) = after_phase s n id count kept
effect s (Bus n kind id) = after_bus s n kind id
effect s (Flash id) = after_flash s id
effect s (Irq mask) = after_irq s
effect s (Done id) = after_answer s id
effect s (Read id) = after_read s id
effect s (Sector value) = after_sector s
effect s (Status id word) = after_answer s id
effect s Recover = after_recover s
effect s (Discard n) = after_discard s n
effect s (Fault id why) = after_fault s id
effect s (Refused id why) = after_fault s id
effect s Cut = after_cut s
effect s (Lost id) = after_lost s id
effect s On = after_on s
effect s (Left sector value) = after_left s sector value
effect s (Off end) = after_off s end

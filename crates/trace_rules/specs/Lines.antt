-- Each line of a trace: the rule that it is under, and when it may stand. The rules are numbered 1 to 11: the card line; letters; issues; the
-- commands of the queue; phases; bus faults; flash faults; interrupts and answers; stops and recoveries; cuts; the end.
use Rattle.std.specs.Prelude.{ℕ, ◌==◌, ◌&&◌, ◌||◌, nat_le, nat_lt, Bool, true, false, not, if◌then◌else◌, Option, Some, None, List, [], length, option_map, slice_get, slice_index_or}
use Rattle.std.specs.List.{list_any}
use Rattle.storage_machine.specs.Commands.{due, hit, id_on, is_gone, is_kind, is_lost, next_number, polled_mask}
use Rattle.storage_machine.specs.Cuts.{first_lost, least, next_left, shows}
use Rattle.storage_machine.specs.Host.{is_fault_of, is_irq_due, is_stopped, named_times, next_issue, to_do}
use Rattle.storage_machine.specs.Jobs.{is_read, is_status, job_of}
use Rattle.trace_rules.specs.Phases.{phase_holds}
use Rattle.storage_machine.specs.Slots.{has, mask_of, tag_of}
use Rattle.storage_machine.specs.declared.commands.DueCommand.{DueCommand}
use Rattle.storage_machine.specs.declared.commands.DueCommand.TheVariants.{Idle, Address as AddressDue, Params as ParamsDue, Direct, Execute, Poll as PollDue}
use Rattle.storage_machine.specs.declared.slots.Question.TheVariants.{Done as IsDone, Collected as IsCollected, Issued as IsIssued}
use Rattle.storage_machine.specs.declared.state.Event.{Event}
use Rattle.storage_machine.specs.declared.state.Event.TheVariants.{Told}
use Rattle.storage_machine.specs.declared.state.Owed.{Owed}
use Rattle.storage_machine.specs.declared.state.Owed.TheVariants.{Card as CardOwed, Nothing, Closed, Bus as BusOwed, Flash as FlashOwed, Answers, Sectors, Recover as RecoverOwed, Dark, Left as LeftOwed, End as Ended}
use Rattle.storage_machine.specs.declared.state.Recovery.{Recovery}
use Rattle.storage_machine.specs.declared.state.Recovery.TheVariants.{Halted, Cleared}
use Rattle.storage_machine.specs.declared.state.State.{State}
use Rattle.storage_machine.specs.declared.state.Stop.{Stop}
use Rattle.storage_machine.specs.declared.state.Stop.TheVariants.{Bus as BusStop, Flash as FlashStop, Range, Align}
use Rattle.storage_model.specs.Left.{mix_at}
use Rattle.storage_model.specs.declared.block.Block.{Block}
use Rattle.storage_model.specs.declared.faults.BusKind.{BusKind}
use Rattle.storage_model.specs.declared.faults.Letter.{Letter}
use Rattle.storage_model.specs.declared.faults.Letter.TheVariants.{Host as HostActs, Engine as EngineActs, Card as CardActs, Cut as PowerActs}
use Rattle.storage_model.specs.declared.trace.End.{End}
use Rattle.storage_model.specs.declared.trace.End.TheVariants.{Good, Fault as FaultEnd, Dead, Image}
use Rattle.storage_model.specs.declared.trace.Item.{Item}
use Rattle.storage_model.specs.declared.trace.Item.TheVariants.{Card, Issue, Params, Address, Poll, Phase, Discard, Bus, Flash, Recover, Irq, Done, Read, Sector, Status, Fault, Refused, Cut, Lost, On, Left, Turn, Off}
use Rattle.storage_model.specs.declared.trace.Limit.{Limit}
use Rattle.storage_model.specs.declared.trace.Limit.TheVariants.{Range as ByRange, Align as ByAlign}
use Rattle.storage_model.specs.declared.trace.Why.{Why}
use Rattle.storage_model.specs.declared.trace.Why.TheVariants.{Bus as ByBus, Flash as ByFlash}

-- the rule that a line is under
abbrev pub rule_of : Item → ℕ
rule_of (Card sectors depth lines) = 1
rule_of (Turn letter) = 2
rule_of (Issue id tag) = 3
rule_of (Params n id) = 4
rule_of (Address n id) = 4
rule_of (Poll n mask) = 4
rule_of (Phase n id count kept) = 5
rule_of (Bus n kind id) = 6
rule_of (Flash id) = 7
rule_of (Irq mask) = 8
rule_of (Done id) = 8
rule_of (Read id) = 8
rule_of (Sector value) = 8
rule_of (Status id word) = 8
rule_of Recover = 9
rule_of (Discard n) = 9
rule_of (Fault id why) = 9
rule_of (Refused id why) = 9
rule_of Cut = 10
rule_of (Lost id) = 10
rule_of On = 10
rule_of (Left sector value) = 10
rule_of (Off end) = 11

-- the rule of the line that owes, where one does
abbrev pub owing : Owed → Option ℕ
owing CardOwed = Some 1
owing Nothing = None
owing Closed = None
owing (BusOwed n id kind) = Some 5
owing (FlashOwed id) = Some 5
owing Answers = Some 8
owing (Sectors tag k) = Some 8
owing RecoverOwed = Some 9
owing (Dark cuts) = Some 10
owing (LeftOwed from) = Some 10
owing Ended = Some 11

abbrev pub is_free : Owed → Bool
is_free Nothing = true
is_free Closed = true
is_free owed = false

-- the line is of those that are owed
abbrev pub is_for : Owed → Item → Bool
is_for Nothing item = true
is_for Closed item = true
is_for CardOwed (Card sectors depth lines) = true
is_for (BusOwed n id kind) (Bus m other j) = true
is_for (BusOwed n id kind) Cut = true
is_for (FlashOwed id) (Flash j) = true
is_for (FlashOwed id) Cut = true
is_for Answers (Done id) = true
is_for Answers (Read id) = true
is_for Answers (Status id word) = true
is_for (Sectors tag k) (Sector value) = true
is_for RecoverOwed Recover = true
is_for (Dark cuts) Cut = true
is_for (Dark cuts) (Lost id) = true
is_for (Dark cuts) On = true
is_for (Dark cuts) (Off end) = true
is_for (LeftOwed from) (Left sector value) = true
is_for (LeftOwed from) (Off end) = true
is_for owed item = false

abbrev pub is_number : ℕ → Option ℕ → Bool
is_number n None = false
is_number n (Some m) = n == m

-- the card line: the sectors, the depth, and the lines of the cache or that it is off
abbrev pub same_lines : Bool → ℕ → Option ℕ → Bool
same_lines through lines None = through
same_lines through lines (Some shown) = not through && (shown == lines)

abbrev pub is_card_owed : Owed → Bool
is_card_owed CardOwed = true
is_card_owed owed = false

unfoldable pub card_holds : State → ℕ → ℕ → Option ℕ → Bool
card_holds s sectors depth lines =
    is_card_owed s.owed && ((sectors == length s.base) && ((depth == s.plan.depth) && same_lines s.plan.through s.plan.lines lines))

-- a letter is the next of the fault text
abbrev pub same_letter : Letter → Letter → Bool
same_letter HostActs HostActs = true
same_letter EngineActs EngineActs = true
same_letter CardActs CardActs = true
same_letter PowerActs PowerActs = true
same_letter letter other = false

abbrev pub is_letter : Letter → Option Letter → Bool
is_letter letter None = false
is_letter letter (Some next) = same_letter letter next

-- at the end nothing is owed, though nothing follows
abbrev pub owes_nothing : Owed → Bool
owes_nothing Ended = true
owes_nothing owed = is_free owed

unfoldable pub turn_holds : State → Letter → Bool
turn_holds s letter = owes_nothing s.owed && is_letter letter (slice_get s.faults.turns s.letters)

-- an issue is of the next request, on its tag
abbrev pub is_pair : ℕ → ℕ → Option (ℕ × ℕ) → Bool
is_pair id tag None = false
is_pair id tag (Some pair) = (id == pair.0) && (tag == pair.1)

-- a command of the queue is the due one, and the engine hears of it
abbrev pub is_params : State → ℕ → DueCommand → Bool
is_params s id (ParamsDue tag) = id_on s tag == id
is_params s id command = false

abbrev pub is_address : State → ℕ → DueCommand → Bool
is_address s id (AddressDue tag) = id_on s tag == id
is_address s id command = false

abbrev pub is_poll : DueCommand → Bool
is_poll PollDue = true
is_poll command = false

abbrev pub is_heard : State → ℕ → Bool
is_heard s n = (n == next_number s) && not (is_gone (hit s))

unfoldable pub params_holds : State → ℕ → ℕ → Bool
params_holds s n id = is_heard s n && is_params s id (due s)

unfoldable pub address_holds : State → ℕ → ℕ → Bool
address_holds s n id = is_heard s n && is_address s id (due s)

unfoldable pub poll_holds : State → ℕ → ℕ → Bool
poll_holds s n mask = is_heard s n && (is_poll (due s) && (mask == polled_mask s))

-- a bus fault in place of the due command's line names its request, and none for a poll; a direct command without a response has a phase line
abbrev pub is_target : State → BusKind → Option ℕ → DueCommand → Bool
is_target s kind id Idle = false
is_target s kind None PollDue = true
is_target s kind (Some id) PollDue = false
is_target s kind id (Direct tag) = is_number (id_on s tag) id && is_lost (Some kind)
is_target s kind id (ParamsDue tag) = is_number (id_on s tag) id
is_target s kind id (AddressDue tag) = is_number (id_on s tag) id
is_target s kind id (Execute tag) = is_number (id_on s tag) id

-- and none for the discard of a recovery
abbrev pub is_missed : State → BusKind → Option ℕ → Recovery → Bool
is_missed s kind None Halted = true
is_missed s kind None Cleared = true
is_missed s kind (Some id) Halted = false
is_missed s kind (Some id) Cleared = false
is_missed s kind id recovery = is_target s kind id (due s)

abbrev pub is_missed_now : State → ℕ → BusKind → Option ℕ → Bool
is_missed_now s n kind id = (n == next_number s) && (is_gone (Some kind) && (is_kind (hit s) kind && is_missed s kind id s.recovery))

-- a bus line that a phase owes has its number, request and kind
abbrev pub bus_by_owed : State → ℕ → BusKind → Option ℕ → Owed → Bool
bus_by_owed s n kind id (BusOwed m owed_id owed_kind) = (n == m) && (is_number owed_id id && is_kind (Some owed_kind) kind)
bus_by_owed s n kind id owed = is_missed_now s n kind id

unfoldable pub bus_holds : State → ℕ → BusKind → Option ℕ → Bool
bus_holds s n kind id = bus_by_owed s n kind id s.owed

-- a flash fault of a request is owed; one without stands in an event of the card
abbrev pub is_card_event : Event → Bool
is_card_event (Told CardActs) = true
is_card_event event = false

abbrev pub flash_by_owed : Event → Option ℕ → Owed → Bool
flash_by_owed event (Some id) (FlashOwed owed_id) = id == owed_id
flash_by_owed event (Some id) owed = false
flash_by_owed event None Nothing = is_card_event event
flash_by_owed event None owed = false

unfoldable pub flash_holds : State → Option ℕ → Bool
flash_holds s id = flash_by_owed s.event id s.owed

unfoldable pub irq_holds : State → ℕ → Bool
irq_holds s mask = is_irq_due s && (mask == mask_of IsDone s.slots)

-- the answers come in order of their tags
abbrev pub is_answers : Owed → Bool
is_answers Answers = true
is_answers owed = false

abbrev pub is_answer_of : State → ℕ → Bool
is_answer_of s id = is_answers s.owed && is_number id (option_map (λ tag. id_on s tag) (tag_of IsCollected s.slots))

unfoldable pub done_holds : State → ℕ → Bool
done_holds s id = is_answer_of s id && (not (is_read (job_of s.plan.jobs id)) && not (is_status (job_of s.plan.jobs id)))

unfoldable pub read_holds : State → ℕ → Bool
read_holds s id = is_answer_of s id && is_read (job_of s.plan.jobs id)

unfoldable pub status_holds : State → ℕ → ℕ → Bool
status_holds s id word = is_answer_of s id && (is_status (job_of s.plan.jobs id) && (word == 0x900))

-- a sector shows what the phase fixed
abbrev pub data_on : State → ℕ → List Block
data_on s tag = slice_index_or s.data tag []

abbrev pub sector_by_owed : State → Block → Owed → Bool
sector_by_owed s value (Sectors tag k) = shows (slice_get (data_on s tag) k) value
sector_by_owed s value owed = false

unfoldable pub sector_holds : State → Block → Bool
sector_holds s value = sector_by_owed s value s.owed

-- the answer that a stop gives
abbrev pub is_fault : State → ℕ → Why → Stop → Bool
is_fault s id ByBus (BusStop (Some named)) = (id == named) && (named_times s named == 4)
is_fault s id ByFlash (FlashStop named) = id == named
is_fault s id why stop = false

abbrev pub is_refusal : ℕ → Limit → Stop → Bool
is_refusal id ByRange (Range named) = id == named
is_refusal id ByAlign (Align named) = id == named
is_refusal id why stop = false

unfoldable pub fault_holds : State → ℕ → Why → Bool
fault_holds s id why = is_stopped s && is_fault s id why s.stop

unfoldable pub refused_holds : State → ℕ → Limit → Bool
refused_holds s id why = is_stopped s && is_refusal id why s.stop

abbrev pub is_recover_owed : Owed → Bool
is_recover_owed RecoverOwed = true
is_recover_owed owed = false

unfoldable pub recover_holds : State → Bool
recover_holds s = is_recover_owed s.owed || (is_stopped s && not (is_fault_of s s.stop))

abbrev pub may_discard : Recovery → Bool
may_discard Halted = true
may_discard Cleared = true
may_discard recovery = false

unfoldable pub discard_holds : State → ℕ → Bool
discard_holds s n = is_heard s n && may_discard s.recovery

-- A cut may come where nothing is owed or in place of what a phase owes. After it each issued request is lost, by number; then come up to seven
-- further cuts and the line that the power is on, or eight and the end.
abbrev pub may_cut : State → Owed → Bool
may_cut s Nothing = true
may_cut s Closed = true
may_cut s (BusOwed n id kind) = true
may_cut s (FlashOwed id) = true
may_cut s Ended = true
may_cut s (Dark cuts) = not (has IsIssued s.slots) && nat_lt cuts 8
may_cut s owed = false

unfoldable pub cut_holds : State → Bool
cut_holds s = may_cut s s.owed

abbrev pub lost_by_owed : State → ℕ → Owed → Bool
lost_by_owed s id (Dark cuts) = is_number id (first_lost s.slots)
lost_by_owed s id owed = false

unfoldable pub lost_holds : State → ℕ → Bool
lost_holds s id = lost_by_owed s id s.owed

abbrev pub may_be_on : State → Owed → Bool
may_be_on s (Dark cuts) = not (has IsIssued s.slots) && nat_le cuts 7
may_be_on s owed = false

unfoldable pub on_holds : State → Bool
on_holds s = may_be_on s s.owed

-- what is left is shown of each sector with a put, ascending, and one epoch allows all values
abbrev pub is_allowed : State → ℕ → Block → Bool
is_allowed s sector value = list_any (λ epoch. mix_at s.base s.pend epoch sector value) s.epochs

abbrev pub left_by_owed : State → ℕ → Block → Owed → Bool
left_by_owed s sector value (LeftOwed from) =
    is_number sector (next_left s.pend from) && (nat_lt sector (length s.base) && is_allowed s sector value)
left_by_owed s sector value owed = false

unfoldable pub left_holds : State → ℕ → Block → Bool
left_holds s sector value = left_by_owed s sector value s.owed

-- the end comes where nothing is to do, or in place of a line after a cut
abbrev pub is_left_owed : Owed → Bool
is_left_owed (LeftOwed from) = true
is_left_owed owed = false

abbrev pub is_dead : State → Owed → Bool
is_dead s (Dark cuts) = not (has IsIssued s.slots) && (cuts == 8)
is_dead s owed = false

abbrev pub may_end : State → Bool
may_end s = is_free s.owed && not (to_do s)

abbrev pub end_holds : State → End → Bool
end_holds s Good = may_end s
end_holds s FaultEnd = may_end s || (may_be_on s s.owed || is_left_owed s.owed)
end_holds s Dead = is_dead s s.owed
end_holds s Image = may_be_on s s.owed

unfoldable pub off_holds : State → End → Bool
off_holds s end = end_holds s end

-- the line's own rule holds
unfoldable pub holds : State → Item → Bool
holds s (Card sectors depth lines) = card_holds s sectors depth lines
holds s (Turn letter) = turn_holds s letter
holds s (Issue id tag) = is_pair id tag (next_issue s)
holds s (Params n id) = params_holds s n id
holds s (Address n id) = address_holds s n id
holds s (Poll n mask) = poll_holds s n mask
holds s (Phase n id count kept) = phase_holds s n id count kept
holds s (Bus n kind id) = bus_holds s n kind id
holds s (Flash id) = flash_holds s id
holds s (Irq mask) = irq_holds s mask
holds s (Done id) = done_holds s id
holds s (Read id) = read_holds s id
holds s (Sector value) = sector_holds s value
holds s (Status id word) = status_holds s id word
holds s Recover = recover_holds s
holds s (Discard n) = discard_holds s n
holds s (Fault id why) = fault_holds s id why
holds s (Refused id why) = refused_holds s id why
holds s Cut = cut_holds s
holds s (Lost id) = lost_holds s id
holds s On = on_holds s
holds s (Left sector value) = left_holds s sector value
holds s (Off end) = off_holds s end

-- an end line is one of those that come in place of `on`, so there it breaks no rule but its own
abbrev pub is_off : Item → Bool
is_off (Off end) = true
is_off item = false

abbrev pub owing_past : State → Item → Option ℕ
owing_past s item = if is_off item && may_be_on s s.owed then None else owing s.owed

-- the lowest rule of 1 to 11 that the line breaks: its own, or that of a line that owes another
unfoldable pub line_rule : State → Item → Option ℕ
line_rule s item =
    if holds s item then (if is_for s.owed item then None else owing s.owed)
    else least (owing_past s item) (rule_of item)

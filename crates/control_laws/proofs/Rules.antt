-- The rules of a line read no contents, but those of a `sector` and a `left` line.
use Rattle.control_laws.proofs.Dues.{due_same, hit_same, next_issue_same, own_line_same}
use Rattle.control_laws.specs.Laws.{IsControlRule, SameAnswers, reads_contents}
use Rattle.control_laws.specs.Parts.{Contents, SameOutline, contents_of, with_contents}
use Rattle.std.proofs.Common.{◌≡◌, ◌∙◌, ℕ, ◌==◌, Bool, true, cond, ◌&&◌, ◌||◌, not, Option, Some, None, refl, ap}
use Rattle.storage_machine.specs.Commands.{due, is_gone, is_kind, is_lost, next_number, polled_mask}
use Rattle.storage_machine.specs.Cuts.{least}
use Rattle.storage_machine.specs.Host.{is_fault_of, is_stopped, to_do}
use Rattle.storage_machine.specs.Jobs.{is_in_range, job_of, may_move, phase_blocks}
use Rattle.storage_machine.specs.declared.commands.DueCommand.{DueCommand}
use Rattle.storage_machine.specs.declared.commands.DueCommand.TheVariants.{Idle, Address as AddressDue, Params as ParamsDue, Direct, Execute, Poll as PollDue}
use Rattle.storage_machine.specs.declared.state.Event.{Event}
use Rattle.storage_machine.specs.declared.state.Event.TheVariants.{Told, Due}
use Rattle.storage_machine.specs.declared.state.Owed.{Owed}
use Rattle.storage_machine.specs.declared.state.Owed.TheVariants.{Bus as BusOwed, Dark}
use Rattle.storage_machine.specs.declared.state.Recovery.{Recovery}
use Rattle.storage_machine.specs.declared.state.Recovery.TheVariants.{Halted, Cleared}
use Rattle.storage_machine.specs.declared.state.State.{State}
use Rattle.storage_machine.specs.declared.state.Stop.{Stop}
use Rattle.storage_machine.specs.declared.state.Stop.TheVariants.{Bus as BusStop}
use Rattle.storage_model.specs.declared.faults.BusKind.{BusKind}
use Rattle.storage_model.specs.declared.faults.Letter.TheVariants.{Host as HostActs, Card as CardActs, Cut as PowerActs}
use Rattle.storage_model.specs.declared.trace.End.{End}
use Rattle.storage_model.specs.declared.trace.End.TheVariants.{Good, Fault as FaultEnd, Dead, Image}
use Rattle.storage_model.specs.declared.trace.Item.{Item}
use Rattle.storage_model.specs.declared.trace.Item.TheVariants.{Card, Issue, Params, Address, Poll, Phase, Discard, Bus, Recover, Sector, Fault, Cut, Lost, On, Left, Off}
use Rattle.storage_model.specs.declared.trace.Why.{Why}
use Rattle.storage_model.specs.declared.trace.Why.TheVariants.{Bus as ByBus}
use Rattle.trace_rules.specs.Lines.{address_holds, bus_by_owed, bus_holds, card_holds, cut_holds, discard_holds, done_holds, end_holds, fault_holds, flash_holds, holds, irq_holds, is_address, is_card_owed, is_dead, is_fault, is_for, is_heard, is_left_owed, is_missed, is_missed_now, is_off, is_params, is_poll, is_recover_owed, is_target, line_rule, lost_by_owed, lost_holds, may_be_on, may_cut, may_discard, may_end, off_holds, on_holds, owing, is_pair, params_holds, poll_holds, read_holds, recover_holds, refused_holds, rule_of, same_lines, status_holds, turn_holds}
use Rattle.trace_rules.specs.Phases.{is_phase_of, most_blocks, moves, phase_holds}
use Rattle.trace_rules.specs.Steps.{earlier, event_rule, is_execute, is_cut_by, is_due_event, is_first_work, is_left_so, lower, rule_of_event, stands_in, unless, yields_to_cut}

both_same : (x y u v : Bool) → x ≡ y → u ≡ v → (x && u) ≡ (y && v)
both_same x y u v left right = ap (λ b. b && u) left ∙ ap (λ b. y && b) right

-- commands

heard_same : (c : Contents) (s : State) (n : ℕ) → is_heard (with_contents c s) n ≡ is_heard s n
heard_same c s n = ap (λ kind. (n == next_number s) && not (is_gone kind)) (hit_same c s)

params_of : (c : Contents) (s : State) (id : ℕ) (command : DueCommand) → is_params (with_contents c s) id command ≡ is_params s id command
params_of c s id (ParamsDue tag) = refl
params_of c s id command = refl

address_of : (c : Contents) (s : State) (id : ℕ) (command : DueCommand) → is_address (with_contents c s) id command ≡ is_address s id command
address_of c s id (AddressDue tag) = refl
address_of c s id command = refl

params_same : (c : Contents) (s : State) (n id : ℕ) → params_holds (with_contents c s) n id ≡ params_holds s n id
unfolding params_holds
params_same c s n id = both_same _ _ _ _ (heard_same c s n) (params_of c s id (due (with_contents c s)) ∙ ap (λ command. is_params s id command) (due_same c s))

address_same : (c : Contents) (s : State) (n id : ℕ) → address_holds (with_contents c s) n id ≡ address_holds s n id
unfolding address_holds
address_same c s n id = both_same _ _ _ _ (heard_same c s n) (address_of c s id (due (with_contents c s)) ∙ ap (λ command. is_address s id command) (due_same c s))

mask_same : (c : Contents) (s : State) → polled_mask (with_contents c s) ≡ polled_mask s
unfolding polled_mask
mask_same c s = refl

poll_same : (c : Contents) (s : State) (n mask : ℕ) → poll_holds (with_contents c s) n mask ≡ poll_holds s n mask
unfolding poll_holds
poll_same c s n mask = both_same _ _ _ _ (heard_same c s n) (both_same _ _ _ _ (ap is_poll (due_same c s)) (ap (λ own. mask == own) (mask_same c s)))

-- phases

moves_same : (c : Contents) (s : State) (tag id count : ℕ) (kept : Bool) → SameOutline c (contents_of s) → moves (with_contents c s) tag id count kept ≡ moves s tag id count kept
moves_same c s tag id count kept outline = both_same _ _ _ _ refl (both_same _ _ _ _
    (ap (λ kind. may_move (job_of s.plan.jobs id) (most_blocks kind (phase_blocks (job_of s.plan.jobs id))) count) (hit_same c s))
    (both_same _ _ _ _ refl (ap (λ sectors. is_in_range (job_of s.plan.jobs id) sectors) outline.sectors)))

phase_of : (c : Contents) (s : State) (id count : ℕ) (kept : Bool) (command : DueCommand) → SameOutline c (contents_of s) → is_phase_of (with_contents c s) id count kept command ≡ is_phase_of s id count kept command
phase_of c s id count kept (Direct tag) outline = both_same _ _ _ _ (ap (λ kind. not (is_lost kind)) (hit_same c s)) (moves_same c s tag id count kept outline)
phase_of c s id count kept (Execute tag) outline = both_same _ _ _ _ (ap (λ kind. not (is_gone kind)) (hit_same c s)) (moves_same c s tag id count kept outline)
phase_of c s id count kept command outline = refl

phase_same : (c : Contents) (s : State) (n id count : ℕ) (kept : Bool) → SameOutline c (contents_of s) → phase_holds (with_contents c s) n id count kept ≡ phase_holds s n id count kept
unfolding phase_holds
phase_same c s n id count kept outline = both_same _ _ _ _ refl
    (phase_of c s id count kept (due (with_contents c s)) outline ∙ ap (λ command. is_phase_of s id count kept command) (due_same c s))

-- bus faults

target_same : (c : Contents) (s : State) (kind : BusKind) (id : Option ℕ) (command : DueCommand) → is_target (with_contents c s) kind id command ≡ is_target s kind id command
target_same c s kind id Idle = refl
target_same c s kind None PollDue = refl
target_same c s kind (Some named) PollDue = refl
target_same c s kind id command = refl

target_due : (c : Contents) (s : State) (kind : BusKind) (id : Option ℕ) → is_target (with_contents c s) kind id (due (with_contents c s)) ≡ is_target s kind id (due s)
target_due c s kind id = target_same c s kind id (due (with_contents c s)) ∙ ap (λ command. is_target s kind id command) (due_same c s)

missed_same : (c : Contents) (s : State) (kind : BusKind) (id : Option ℕ) (recovery : Recovery) → is_missed (with_contents c s) kind id recovery ≡ is_missed s kind id recovery
missed_same c s kind None Halted = refl
missed_same c s kind None Cleared = refl
missed_same c s kind (Some named) Halted = refl
missed_same c s kind (Some named) Cleared = refl
missed_same c s kind id recovery = target_due c s kind id

missed_now : (c : Contents) (s : State) (n : ℕ) (kind : BusKind) (id : Option ℕ) → is_missed_now (with_contents c s) n kind id ≡ is_missed_now s n kind id
missed_now c s n kind id = both_same _ _ _ _ refl (both_same _ _ _ _ refl (both_same _ _ _ _
    (ap (λ own. is_kind own kind) (hit_same c s))
    (missed_same c s kind id s.recovery)))

bus_owed : (c : Contents) (s : State) (n : ℕ) (kind : BusKind) (id : Option ℕ) (owed : Owed) → bus_by_owed (with_contents c s) n kind id owed ≡ bus_by_owed s n kind id owed
bus_owed c s n kind id (BusOwed m named owing) = refl
bus_owed c s n kind id owed = missed_now c s n kind id

-- stops and recoveries

fault_of : (c : Contents) (s : State) (stop : Stop) → is_fault_of (with_contents c s) stop ≡ is_fault_of s stop
fault_of c s (BusStop (Some id)) = refl
fault_of c s stop = refl

fault_same : (c : Contents) (s : State) (id : ℕ) (why : Why) (stop : Stop) → is_fault (with_contents c s) id why stop ≡ is_fault s id why stop
fault_same c s id ByBus (BusStop (Some named)) = refl
fault_same c s id why stop = refl

recover_same : (c : Contents) (s : State) → recover_holds (with_contents c s) ≡ recover_holds s
unfolding recover_holds
recover_same c s = ap (λ faults. is_recover_owed s.owed || (is_stopped s && not faults)) (fault_of c s s.stop)

-- cuts and the end

cut_owed : (c : Contents) (s : State) (owed : Owed) → may_cut (with_contents c s) owed ≡ may_cut s owed
cut_owed c s (Dark cuts) = refl
cut_owed c s owed = refl

lost_owed : (c : Contents) (s : State) (id : ℕ) (owed : Owed) → lost_by_owed (with_contents c s) id owed ≡ lost_by_owed s id owed
lost_owed c s id (Dark cuts) = refl
lost_owed c s id owed = refl

on_owed : (c : Contents) (s : State) (owed : Owed) → may_be_on (with_contents c s) owed ≡ may_be_on s owed
on_owed c s (Dark cuts) = refl
on_owed c s owed = refl

dead_owed : (c : Contents) (s : State) (owed : Owed) → is_dead (with_contents c s) owed ≡ is_dead s owed
dead_owed c s (Dark cuts) = refl
dead_owed c s owed = refl

end_same : (c : Contents) (s : State) (end : End) → end_holds (with_contents c s) end ≡ end_holds s end
unfolding to_do
end_same c s Good = refl
end_same c s FaultEnd = ap (λ on. may_end s || (on || is_left_owed s.owed)) (on_owed c s s.owed)
end_same c s Dead = dead_owed c s s.owed
end_same c s Image = on_owed c s s.owed

-- a line's own rule

own_same : (c : Contents) (s : State) (item : Item) → SameOutline c (contents_of s) → (reads_contents item ≡ true → SameAnswers s c item) → holds (with_contents c s) item ≡ holds s item
unfolding holds card_holds turn_holds bus_holds flash_holds irq_holds done_holds read_holds status_holds discard_holds fault_holds refused_holds cut_holds lost_holds on_holds off_holds
own_same c s (Card sectors depth lines) outline answers = ap (λ size. is_card_owed s.owed && ((sectors == size) && ((depth == s.plan.depth) && same_lines s.plan.through s.plan.lines lines))) outline.sectors
own_same c s (Issue id tag) outline answers = ap (λ issue. is_pair id tag issue) (next_issue_same c s)
own_same c s (Params n id) outline answers = params_same c s n id
own_same c s (Address n id) outline answers = address_same c s n id
own_same c s (Poll n mask) outline answers = poll_same c s n mask
own_same c s (Phase n id count kept) outline answers = phase_same c s n id count kept outline
own_same c s (Bus n kind id) outline answers = bus_owed c s n kind id s.owed
own_same c s (Sector value) outline answers = (answers refl).own
own_same c s Recover outline answers = recover_same c s
own_same c s (Discard n) outline answers = ap (λ heard. heard && may_discard s.recovery) (heard_same c s n)
own_same c s (Fault id why) outline answers = ap (λ fault. is_stopped s && fault) (fault_same c s id why s.stop)
own_same c s Cut outline answers = cut_owed c s s.owed
own_same c s (Lost id) outline answers = lost_owed c s id s.owed
own_same c s On outline answers = on_owed c s s.owed
own_same c s (Left sector value) outline answers = (answers refl).own
own_same c s (Off end) outline answers = end_same c s end
own_same c s item outline answers = refl

abbrev rule_with : State → Item → Bool → Bool → Option ℕ
rule_with s item held on =
    cond held (cond (is_for s.owed item) None (owing s.owed)) (least (cond (is_off item && on) None (owing s.owed)) (rule_of item))

line_same : (c : Contents) (s : State) (item : Item) → holds (with_contents c s) item ≡ holds s item → line_rule (with_contents c s) item ≡ line_rule s item
unfolding line_rule
line_same c s item own =
    ap (λ held. rule_with s item held (may_be_on (with_contents c s) s.owed)) own ∙ ap (λ on. rule_with s item (holds s item) on) (on_owed c s s.owed)

-- within its event

stands_same : (c : Contents) (s : State) (event : Event) (item : Item) → stands_in (with_contents c s) event item ≡ stands_in s event item
stands_same c s Due item = refl
stands_same c s (Told HostActs) item = refl
stands_same c s (Told CardActs) item = refl
stands_same c s (Told PowerActs) item = refl
stands_same c s event item = refl

first_same : (c : Contents) (s : State) (item : Item) → is_first_work (with_contents c s) item ≡ is_first_work s item
first_same c s (Issue id tag) = refl
first_same c s item = refl

pub cut_by_same : (c : Contents) (s : State) → is_cut_by (with_contents c s) ≡ is_cut_by s
cut_by_same c s = both_same _ _ _ _ (own_line_same c s) (ap is_execute (due_same c s))

yields_same : (c : Contents) (s : State) (item : Item) → yields_to_cut (with_contents c s) item ≡ yields_to_cut s item
yields_same c s (Phase n id count kept) = ap (λ cut. cond cut (is_due_event s.event && (count == 0)) true) (cut_by_same c s)
yields_same c s item = refl

so_same : (c : Contents) (s : State) (item : Item) → (reads_contents item ≡ true → SameAnswers s c item) → is_left_so (with_contents c s) item ≡ is_left_so s item
so_same c s (Left sector value) answers = (answers refl).so
so_same c s item answers = refl

abbrev event_with : State → Bool → Bool → Bool → Bool → Option ℕ
event_with s stands first yields so =
    lower (unless stands (rule_of_event s.event)) (earlier (unless first 13) (earlier (unless yields 15) (unless so 16)))

event_same : (c : Contents) (s : State) (item : Item) → (reads_contents item ≡ true → SameAnswers s c item) → event_rule (with_contents c s) item ≡ event_rule s item
unfolding event_rule
event_same c s item answers =
    ap (λ b. event_with s b (is_first_work (with_contents c s) item) (yields_to_cut (with_contents c s) item) (is_left_so (with_contents c s) item)) (stands_same c s s.event item)
    ∙ (ap (λ b. event_with s (stands_in s s.event item) b (yields_to_cut (with_contents c s) item) (is_left_so (with_contents c s) item)) (first_same c s item)
    ∙ (ap (λ b. event_with s (stands_in s s.event item) (is_first_work s item) b (is_left_so (with_contents c s) item)) (yields_same c s item)
    ∙ ap (λ b. event_with s (stands_in s s.event item) (is_first_work s item) (yields_to_cut s item) b) (so_same c s item answers)))

pub control_rule : (s : State) (c : Contents) (item : Item) → IsControlRule s c item
control_rule s c item outline answers = record {
  line = line_same c s item (own_same c s item outline answers);
  event = event_same c s item answers;
}

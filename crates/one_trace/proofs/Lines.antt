-- The line that may come next where nothing is owed.
use Rattle.std.proofs.Common.{inl, inr, ◌≡◌, ◌∙◌, ℕ, ◌==◌, Bool, true, false, cond, ◌&&◌, ◌||◌, not, slice_get, Option, Some, None, [], length, refl, ap, sym, subst}
use Rattle.std.proofs.lemmas.Bool.{and_left, and_parts, and_right, both_ways, cases_Bool, cond-false, cond-true, eqb-true, false≢true, not_from_true, not-true, or_cases}
use Rattle.std.specs.List.{list_any}
use Rattle.one_trace.proofs.Dues.{calm_to_do, done_to_do, due_to_do, issued_to_do, may_issue, waiting_to_do, work_none}
use Rattle.one_trace.proofs.Settled.{Comes, Rests, first_same, hit_none, is_irq}
use Rattle.one_trace.proofs.Slots.{named_past, past_issued}
use Rattle.one_trace.specs.Traces.{is_expected}
use Rattle.storage_machine.specs.Commands.{due, hit, id_on, is_calm, is_gone, is_idle, is_kind, is_lost, is_none_due, is_running, next_number, polled_mask}
use Rattle.storage_machine.specs.Host.{has_work, is_fault_of, is_irq_due, is_stopped, named_times, next_issue, to_do}
use Rattle.storage_machine.specs.Jobs.{is_in_range, job_of, may_keep, may_move, must_keep, phase_blocks}
use Rattle.storage_machine.specs.Slots.{has, mask_of}
use Rattle.storage_machine.specs.declared.commands.DueCommand.{DueCommand}
use Rattle.storage_machine.specs.declared.commands.DueCommand.TheVariants.{Idle, Address as AddressDue, Params as ParamsDue, Direct, Execute, Poll as PollDue}
use Rattle.storage_machine.specs.declared.slots.Question.TheVariants.{Done as IsDone}
use Rattle.storage_machine.specs.declared.state.Owed.TheVariants.{Nothing}
use Rattle.storage_machine.specs.declared.state.Recovery.{Recovery}
use Rattle.storage_machine.specs.declared.state.Recovery.TheVariants.{Calm, Halted, Cleared, Discarded, Cleaned, Resumed}
use Rattle.storage_machine.specs.declared.state.State.{State}
use Rattle.storage_machine.specs.declared.state.Stop.{Stop}
use Rattle.storage_machine.specs.declared.state.Stop.TheVariants.{Running, Bus as BusStop, Flash as FlashStop, Range, Align}
use Rattle.storage_model.specs.declared.block.Block.{Block}
use Rattle.storage_model.specs.declared.faults.BusKind.{BusKind}
use Rattle.storage_model.specs.declared.faults.Letter.{Letter}
use Rattle.storage_model.specs.declared.faults.Letter.TheVariants.{Host as HostActs, Engine as EngineActs}
use Rattle.storage_model.specs.declared.plan.Job.{Job}
use Rattle.storage_model.specs.declared.plan.Job.TheVariants.{Read as ReadJob, Write as WriteJob, Flush as FlushJob, Barrier as BarrierJob, Status as StatusJob}
use Rattle.storage_model.specs.declared.plan.Plan.{Plan}
use Rattle.storage_model.specs.declared.trace.End.{End}
use Rattle.storage_model.specs.declared.trace.End.TheVariants.{Good, Fault as FaultEnd, Dead, Image}
use Rattle.storage_model.specs.declared.trace.Item.{Item}
use Rattle.storage_model.specs.declared.trace.Item.TheVariants.{Card, Issue, Params, Address, Poll, Phase, Discard, Bus, Flash, Recover, Irq, Done, Read, Sector, Status, Fault, Refused, Cut, Lost, On, Left, Turn, Off}
use Rattle.storage_model.specs.declared.trace.Limit.{Limit}
use Rattle.storage_model.specs.declared.trace.Limit.TheVariants.{Range as ByRange, Align as ByAlign}
use Rattle.storage_model.specs.declared.trace.Why.{Why}
use Rattle.storage_model.specs.declared.trace.Why.TheVariants.{Bus as ByBus, Flash as ByFlash}
use Rattle.storage_order.specs.Events.{engine_step, passed}
use Rattle.storage_order.specs.Order.{engine_first, is_alone, is_next, next_actor}
use Rattle.trace_effects.specs.Effects.{letters_left}
use Rattle.trace_rules.specs.Lines.{address_holds, bus_by_owed, bus_holds, card_holds, discard_holds, done_holds, fault_holds, holds, irq_holds, is_address, is_answers, is_card_owed, is_dead, is_fault, is_free, is_letter, is_params, is_poll, is_recover_owed, is_refusal, left_by_owed, left_holds, lost_by_owed, lost_holds, may_be_on, may_discard, off_holds, on_holds, owes_nothing, params_holds, poll_holds, read_holds, recover_holds, refused_holds, sector_by_owed, sector_holds, status_holds, turn_holds}
use Rattle.trace_rules.specs.Phases.{is_phase_of, is_whole, most_blocks, moves, phase_holds}
use Rattle.trace_rules.specs.Steps.{is_cleared, is_cut, is_line_of, is_nothing}

-- the line, as a function of the state between two events

abbrev pub irq_line : State → Item
irq_line r = Irq (mask_of IsDone r.slots)

abbrev pub phase_line : State → ℕ → Item
phase_line r id = Phase (next_number r) id (phase_blocks (job_of r.plan.jobs id)) (must_keep r.plan.through (job_of r.plan.jobs id))

-- the due command's; an engine that has nothing to send tells of counted completions
abbrev pub command_line : State → DueCommand → Item
command_line r Idle = irq_line r
command_line r (ParamsDue tag) = Params (next_number r) (id_on r tag)
command_line r (AddressDue tag) = Address (next_number r) (id_on r tag)
command_line r PollDue = Poll (next_number r) (polled_mask r)
command_line r (Direct tag) = phase_line r (id_on r tag)
command_line r (Execute tag) = phase_line r (id_on r tag)

abbrev issue_line : State → Option (ℕ × ℕ) → Item
issue_line r None = command_line r (due r)
issue_line r (Some pair) = Issue pair.0 pair.1

abbrev stop_line : State → Stop → Item
stop_line r (BusStop (Some id)) = cond (named_times r id == 4) (Fault id ByBus) Recover
stop_line r (FlashStop id) = Fault id ByFlash
stop_line r (Range id) = Refused id ByRange
stop_line r (Align id) = Refused id ByAlign
stop_line r stop = Recover

abbrev run_line : State → Item
run_line r = cond (is_irq_due r) (irq_line r) (issue_line r (next_issue r))

abbrev calm_line : State → Item
calm_line r = cond (is_stopped r) (stop_line r r.stop) (run_line r)

abbrev busy_line : State → Item
busy_line r = cond (is_cleared r.recovery) (Discard (next_number r)) (calm_line r)

pub free_line : State → Item
free_line r = cond (to_do r) (busy_line r) (Off Good)

-- step by step

calm_uncleared : (recovery : Recovery) → is_calm recovery ≡ true → is_cleared recovery ≡ false
calm_uncleared Calm e = refl
calm_uncleared Halted e = absurd (cc)
calm_uncleared Cleared e = absurd (cc)
calm_uncleared Discarded e = absurd (cc)
calm_uncleared Cleaned e = absurd (cc)
calm_uncleared Resumed e = absurd (cc)

pub cleared_busy : (recovery : Recovery) → is_cleared recovery ≡ true → is_calm recovery ≡ false
cleared_busy Calm e = absurd (cc)
cleared_busy Halted e = refl
cleared_busy Cleared e = refl
cleared_busy Discarded e = refl
cleared_busy Cleaned e = refl
cleared_busy Resumed e = refl

free_end : (r : State) → to_do r ≡ false → free_line r ≡ Off Good
unfolding free_line
free_end r none = cond-false (to_do r) (busy_line r) (Off Good) none

free_cleared : (r : State) → is_cleared r.recovery ≡ true → free_line r ≡ Discard (next_number r)
unfolding free_line
free_cleared r cleared =
    cond-true (to_do r) (busy_line r) (Off Good) (calm_to_do r (cleared_busy r.recovery cleared))
    ∙ cond-true (is_cleared r.recovery) (Discard (next_number r)) (calm_line r) cleared

free_calm : (r : State) → to_do r ≡ true → is_calm r.recovery ≡ true → free_line r ≡ calm_line r
unfolding free_line
free_calm r some calm =
    cond-true (to_do r) (busy_line r) (Off Good) some
    ∙ cond-false (is_cleared r.recovery) (Discard (next_number r)) (calm_line r) (calm_uncleared r.recovery calm)

free_run : (r : State) → to_do r ≡ true → is_calm r.recovery ≡ true → is_stopped r ≡ false → free_line r ≡ run_line r
free_run r some calm goes = free_calm r some calm ∙ cond-false (is_stopped r) (stop_line r r.stop) (run_line r) goes

running_goes : (r : State) → is_running r.stop ≡ true → is_stopped r ≡ false
running_goes r running = and_left (not (is_running r.stop)) (is_calm r.recovery && not (has IsDone r.slots)) (not_from_true (is_running r.stop) running)

done_goes : (r : State) → has IsDone r.slots ≡ true → is_stopped r ≡ false
done_goes r done =
    and_right (not (is_running r.stop)) (is_calm r.recovery && not (has IsDone r.slots)) (and_right (is_calm r.recovery) (not (has IsDone r.slots)) (not_from_true (has IsDone r.slots) done))

free_irq : (r : State) → is_calm r.recovery ≡ true → is_irq_due r ≡ true → free_line r ≡ irq_line r
free_irq r calm due =
    let done = (and_parts (has IsDone r.slots) (r.notice || not (is_running r.stop)) due).0 in
    free_run r (done_to_do r done) calm (done_goes r done) ∙ cond-true (is_irq_due r) (irq_line r) (issue_line r (next_issue r)) due

free_issue : (r : State) → to_do r ≡ true → is_calm r.recovery ≡ true → is_running r.stop ≡ true → is_irq_due r ≡ false → free_line r ≡ issue_line r (next_issue r)
free_issue r some calm running late = free_run r some calm (running_goes r running) ∙ cond-false (is_irq_due r) (irq_line r) (issue_line r (next_issue r)) late

free_command : (r : State) → to_do r ≡ true → has_work r ≡ false → free_line r ≡ command_line r (due r)
free_command r some idle =
    let quiet = work_none r idle in
    free_issue r some quiet.calm quiet.running quiet.irq ∙ ap (issue_line r) quiet.issue

-- a stopped engine leaves something to do

stopped_to_do : (own : Plan) (size : ℕ) (r : State) → Rests own size r → is_running r.stop ≡ false → to_do r ≡ true
stopped_to_do own size r rests stopped =
    let named = list_any (named_past own.jobs size) r.slots in
    elim (or_cases (is_running r.stop) (is_calm r.recovery && (is_recover_owed r.owed || named)) rests.steady.stands) [
      | inl running ↦ absurd (both_ways (is_running r.stop) stopped running)
      | inr rest ↦
          let either = (and_parts (is_calm r.recovery) (is_recover_owed r.owed || named) rest).1 in
          issued_to_do r (past_issued own.jobs size r.slots (sym (ap (λ owed. is_recover_owed owed || named) rests.owed) ∙ either))
    ]

free_stopped : (own : Plan) (size : ℕ) (r : State) → Rests own size r → is_stopped r ≡ true → free_line r ≡ stop_line r r.stop
free_stopped own size r rests stopped =
    let parts = and_parts (not (is_running r.stop)) (is_calm r.recovery && not (has IsDone r.slots)) stopped in
    let calm = and_parts (is_calm r.recovery) (not (has IsDone r.slots)) parts.1 in
    free_calm r (stopped_to_do own size r rests (not-true (is_running r.stop) parts.0)) calm.0
    ∙ cond-true (is_stopped r) (stop_line r r.stop) (run_line r) stopped

-- where the engine's line comes the host has nothing to do

alone_next : (nothing left : Bool) → ((not nothing && false) || (not left && false)) ≡ false
alone_next true left = and_right (not left) false refl
alone_next false left = and_right (not left) false refl

none_next : (alone some nothing cut left line : Bool) → alone ≡ false → some ≡ true → cut ≡ false → line ≡ false → (alone || (not some || ((not nothing && cut) || (not left && line)))) ≡ false
none_next alone some nothing cut left line a s c l = rw (a, s, c, l) (alone_next nothing left)

pub host_idle : (r : State) (item : Item) → is_alone item ≡ false → is_cut item ≡ false → is_line_of HostActs (is_calm r.recovery) item ≡ false → to_do r ≡ true → is_next r item ≡ true → has_work r ≡ false
host_idle r item alone cut host some next =
    elim (cases_Bool (has_work r)) [
      | inl work ↦
          absurd (false≢true (sym (none_next (is_alone item) (to_do r) (is_nothing r.owed) (is_cut item) (letters_left r) (is_line_of (next_actor r) (is_calm r.recovery) item) alone some cut
          (ap (λ w. is_line_of (cond w HostActs EngineActs) (is_calm r.recovery) item) work ∙ host)) ∙ next))
      | inr idle ↦ idle
    ]

-- a line of the due command
engine_line : (r : State) (item : Item) → Comes r item → is_alone item ≡ false → is_cut item ≡ false → is_line_of HostActs (is_calm r.recovery) item ≡ false → is_none_due (due r) ≡ false → item ≡ command_line r (due r) → item ≡ free_line r
engine_line r item c alone cut host some is =
    let busy = due_to_do r some in
    is ∙ sym (free_command r busy (host_idle r item alone cut host busy c.next))

pub record IsCommand (r : State) (item : Item) (command : DueCommand) : Type 0 where
  pub some : is_none_due command ≡ false
  pub line : item ≡ command_line r command

pub params_is : (r : State) (n id : ℕ) (command : DueCommand) → n ≡ next_number r → is_params r id command ≡ true → IsCommand r (Params n id) command
params_is r n id (ParamsDue tag) at h = record { some = refl; line = ap (λ n. Params n id) at ∙ ap (Params (next_number r)) (sym (eqb-true (id_on r tag) id h)) }
params_is r n id Idle at h = absurd (cc)
params_is r n id (AddressDue tag) at h = absurd (cc)
params_is r n id (Direct tag) at h = absurd (cc)
params_is r n id (Execute tag) at h = absurd (cc)
params_is r n id PollDue at h = absurd (cc)

pub address_is : (r : State) (n id : ℕ) (command : DueCommand) → n ≡ next_number r → is_address r id command ≡ true → IsCommand r (Address n id) command
address_is r n id (AddressDue tag) at h = record { some = refl; line = ap (λ n. Address n id) at ∙ ap (Address (next_number r)) (sym (eqb-true (id_on r tag) id h)) }
address_is r n id Idle at h = absurd (cc)
address_is r n id (ParamsDue tag) at h = absurd (cc)
address_is r n id (Direct tag) at h = absurd (cc)
address_is r n id (Execute tag) at h = absurd (cc)
address_is r n id PollDue at h = absurd (cc)

pub poll_is : (r : State) (n mask : ℕ) (command : DueCommand) → n ≡ next_number r → mask ≡ polled_mask r → is_poll command ≡ true → IsCommand r (Poll n mask) command
poll_is r n mask PollDue at is h = record { some = refl; line = ap (λ n. Poll n mask) at ∙ ap (Poll (next_number r)) is }
poll_is r n mask Idle at is h = absurd (cc)
poll_is r n mask (ParamsDue tag) at is h = absurd (cc)
poll_is r n mask (AddressDue tag) at is h = absurd (cc)
poll_is r n mask (Direct tag) at is h = absurd (cc)
poll_is r n mask (Execute tag) at is h = absurd (cc)

-- a complete phase says that it kept exactly where it must keep
pub kept_is : (through : Bool) (job : Job) (count : ℕ) (kept : Bool) → may_keep through job count kept ≡ true → (kept || not (must_keep through job)) ≡ true → kept ≡ must_keep through job
kept_is through (ReadJob sector blocks high) count true may whole = absurd (cc)
kept_is through (ReadJob sector blocks high) count false may whole = refl
kept_is through (WriteJob sector blocks fill forced reliable high) count true may whole =
    sym ((and_parts (must_keep through (WriteJob sector blocks fill forced reliable high)) (count == blocks) may).0)
kept_is through (WriteJob sector blocks fill forced reliable high) count false may whole = sym (not-true (must_keep through (WriteJob sector blocks fill forced reliable high)) whole)
kept_is through FlushJob count true may whole = refl
kept_is through FlushJob count false may whole = absurd (cc)
kept_is through BarrierJob count true may whole = absurd (cc)
kept_is through BarrierJob count false may whole = refl
kept_is through StatusJob count true may whole = absurd (cc)
kept_is through StatusJob count false may whole = refl

-- what a phase line that may stand says
pub record Moves (r : State) (tag id count : ℕ) (kept : Bool) : Type 0 where
  pub same : id_on r tag ≡ id
  pub keeps : may_keep r.plan.through (job_of r.plan.jobs id) count kept ≡ true
  pub inside : is_in_range (job_of r.plan.jobs id) (length r.base) ≡ true

pub moves_say : (r : State) (tag id count : ℕ) (kept : Bool) → moves r tag id count kept ≡ true → Moves r tag id count kept
moves_say r tag id count kept h =
    let job = job_of r.plan.jobs id in
    let own = and_parts (id_on r tag == id) (may_move job (most_blocks (hit r) (phase_blocks job)) count && (may_keep r.plan.through job count kept && is_in_range job (length r.base))) h in
    let moved = and_parts (may_move job (most_blocks (hit r) (phase_blocks job)) count) (may_keep r.plan.through job count kept && is_in_range job (length r.base)) own.1 in
    let rest = and_parts (may_keep r.plan.through job count kept) (is_in_range job (length r.base)) moved.1 in
    record { same = eqb-true (id_on r tag) id own.0; keeps = rest.0; inside = rest.1 }

moved_line : (r : State) (n tag id count : ℕ) (kept : Bool) → n ≡ next_number r → moves r tag id count kept ≡ true → is_whole r.plan.through (job_of r.plan.jobs id) count kept ≡ true
    → Phase n id count kept ≡ phase_line r (id_on r tag)
moved_line r n tag id count kept at h whole =
    let job = job_of r.plan.jobs id in
    let said = moves_say r tag id count kept h in
    let all = and_parts (count == phase_blocks job) (kept || not (must_keep r.plan.through job)) whole in
    ap (λ n. Phase n id count kept) at
    ∙ (ap (λ count. Phase (next_number r) id count kept) (eqb-true count (phase_blocks job) all.0)
    ∙ (ap (λ kept. Phase (next_number r) id (phase_blocks job) kept) (kept_is r.plan.through job count kept said.keeps all.1)
    ∙ ap (phase_line r) (sym said.same)))

pub phase_is : (r : State) (n id count : ℕ) (kept : Bool) (command : DueCommand) → n ≡ next_number r → is_phase_of r id count kept command ≡ true → is_whole r.plan.through (job_of r.plan.jobs id) count kept ≡ true
    → IsCommand r (Phase n id count kept) command
phase_is r n id count kept (Direct tag) at h whole = record { some = refl; line = moved_line r n tag id count kept at ((and_parts (not (is_lost (hit r))) (moves r tag id count kept) h).1) whole }
phase_is r n id count kept (Execute tag) at h whole = record { some = refl; line = moved_line r n tag id count kept at ((and_parts (not (is_gone (hit r))) (moves r tag id count kept) h).1) whole }
phase_is r n id count kept Idle at h whole = absurd (cc)
phase_is r n id count kept (ParamsDue tag) at h whole = absurd (cc)
phase_is r n id count kept (AddressDue tag) at h whole = absurd (cc)
phase_is r n id count kept PollDue at h whole = absurd (cc)

pub heard_is : (r : State) (n : ℕ) (rest : Bool) → (((n == next_number r) && not (is_gone (hit r))) && rest) ≡ true → (n ≡ next_number r) × (rest ≡ true)
heard_is r n rest h =
    let parts = and_parts ((n == next_number r) && not (is_gone (hit r))) rest h in
    (eqb-true n (next_number r) ((and_parts (n == next_number r) (not (is_gone (hit r))) parts.0).0), parts.1)

params_line : (r : State) (n id : ℕ) → Comes r (Params n id) → Params n id ≡ free_line r
unfolding holds params_holds
params_line r n id c =
    let heard = heard_is r n (is_params r id (due r)) c.held in
    let is = params_is r n id (due r) heard.0 heard.1 in
    engine_line r (Params n id) c refl refl refl is.some is.line

address_line : (r : State) (n id : ℕ) → Comes r (Address n id) → Address n id ≡ free_line r
unfolding holds address_holds
address_line r n id c =
    let heard = heard_is r n (is_address r id (due r)) c.held in
    let is = address_is r n id (due r) heard.0 heard.1 in
    engine_line r (Address n id) c refl refl refl is.some is.line

poll_line : (r : State) (n mask : ℕ) → Comes r (Poll n mask) → Poll n mask ≡ free_line r
unfolding holds poll_holds
poll_line r n mask c =
    let heard = heard_is r n (is_poll (due r) && (mask == polled_mask r)) c.held in
    let parts = and_parts (is_poll (due r)) (mask == polled_mask r) heard.1 in
    let is = poll_is r n mask (due r) heard.0 (eqb-true mask (polled_mask r) parts.1) parts.0 in
    engine_line r (Poll n mask) c refl refl refl is.some is.line

phase_next : (r : State) (n id count : ℕ) (kept : Bool) → Comes r (Phase n id count kept) → is_whole r.plan.through (job_of r.plan.jobs id) count kept ≡ true → Phase n id count kept ≡ free_line r
unfolding holds phase_holds
phase_next r n id count kept c whole =
    let parts = and_parts (n == next_number r) (is_phase_of r id count kept (due r)) c.held in
    let is = phase_is r n id count kept (due r) (eqb-true n (next_number r) parts.0) parts.1 whole in
    engine_line r (Phase n id count kept) c refl refl refl is.some is.line

-- the host's lines

issue_next : (r : State) (id tag : ℕ) → Comes r (Issue id tag) → Issue id tag ≡ free_line r
unfolding holds
issue_next r id tag c =
    let may = may_issue r id tag c.held in
    sym (free_issue r (waiting_to_do r may.waits) may.calm may.running (not-true (is_irq_due r) c.first) ∙ ap (issue_line r) may.pair)

discard_next : (r : State) (n : ℕ) → Comes r (Discard n) → Discard n ≡ free_line r
unfolding holds discard_holds
discard_next r n c = ap Discard ((heard_is r n (may_discard r.recovery) c.held).0) ∙ sym (free_cleared r c.first)

recover_is : (r : State) (stop : Stop) → is_fault_of r stop ≡ false → Recover ≡ stop_line r stop
recover_is r Running e = refl
recover_is r (BusStop None) e = refl
recover_is r (BusStop (Some id)) e = sym (cond-false (named_times r id == 4) (Fault id ByBus) Recover e)
recover_is r (FlashStop id) e = absurd (cc)
recover_is r (Range id) e = absurd (cc)
recover_is r (Align id) e = absurd (cc)

recover_next : (own : Plan) (size : ℕ) (r : State) → Rests own size r → Comes r Recover → Recover ≡ free_line r
unfolding holds recover_holds
recover_next own size r rests c =
    let stopped = sym (ap (λ owed. is_recover_owed owed || (is_stopped r && not (is_fault_of r r.stop))) rests.owed) ∙ c.held in
    let parts = and_parts (is_stopped r) (not (is_fault_of r r.stop)) stopped in
    recover_is r r.stop (not-true (is_fault_of r r.stop) parts.1) ∙ sym (free_stopped own size r rests parts.0)

fault_is : (r : State) (id : ℕ) (why : Why) (stop : Stop) → is_fault r id why stop ≡ true → Fault id why ≡ stop_line r stop
fault_is r id ByBus (BusStop (Some named)) h =
    let parts = and_parts (id == named) (named_times r named == 4) h in
    ap (λ id. Fault id ByBus) (eqb-true id named parts.0) ∙ sym (cond-true (named_times r named == 4) (Fault named ByBus) Recover parts.1)
fault_is r id ByBus (BusStop None) h = absurd (cc)
fault_is r id ByBus Running h = absurd (cc)
fault_is r id ByBus (FlashStop named) h = absurd (cc)
fault_is r id ByBus (Range named) h = absurd (cc)
fault_is r id ByBus (Align named) h = absurd (cc)
fault_is r id ByFlash (FlashStop named) h = ap (λ id. Fault id ByFlash) (eqb-true id named h)
fault_is r id ByFlash (BusStop named) h = absurd (cc)
fault_is r id ByFlash Running h = absurd (cc)
fault_is r id ByFlash (Range named) h = absurd (cc)
fault_is r id ByFlash (Align named) h = absurd (cc)

fault_next : (own : Plan) (size : ℕ) (r : State) (id : ℕ) (why : Why) → Rests own size r → Comes r (Fault id why) → Fault id why ≡ free_line r
unfolding holds fault_holds
fault_next own size r id why rests c =
    let parts = and_parts (is_stopped r) (is_fault r id why r.stop) c.held in
    fault_is r id why r.stop parts.1 ∙ sym (free_stopped own size r rests parts.0)

refusal_is : (r : State) (id : ℕ) (why : Limit) (stop : Stop) → is_refusal id why stop ≡ true → Refused id why ≡ stop_line r stop
refusal_is r id ByRange (Range named) h = ap (λ id. Refused id ByRange) (eqb-true id named h)
refusal_is r id ByRange Running h = absurd (cc)
refusal_is r id ByRange (BusStop named) h = absurd (cc)
refusal_is r id ByRange (FlashStop named) h = absurd (cc)
refusal_is r id ByRange (Align named) h = absurd (cc)
refusal_is r id ByAlign (Align named) h = ap (λ id. Refused id ByAlign) (eqb-true id named h)
refusal_is r id ByAlign Running h = absurd (cc)
refusal_is r id ByAlign (BusStop named) h = absurd (cc)
refusal_is r id ByAlign (FlashStop named) h = absurd (cc)
refusal_is r id ByAlign (Range named) h = absurd (cc)

refused_next : (own : Plan) (size : ℕ) (r : State) (id : ℕ) (why : Limit) → Rests own size r → Comes r (Refused id why) → Refused id why ≡ free_line r
unfolding holds refused_holds
refused_next own size r id why rests c =
    let parts = and_parts (is_stopped r) (is_refusal id why r.stop) c.held in
    refusal_is r id why r.stop parts.1 ∙ sym (free_stopped own size r rests parts.0)

-- an interrupt, told at once or by the engine's event before it

idle_is : (command : DueCommand) → is_none_due command ≡ true → command ≡ Idle
idle_is Idle e = refl
idle_is (ParamsDue tag) e = absurd (cc)
idle_is (AddressDue tag) e = absurd (cc)
idle_is (Direct tag) e = absurd (cc)
idle_is (Execute tag) e = absurd (cc)
idle_is PollDue e = absurd (cc)

slots_either : (b : Bool) (s t r : State) → s.slots ≡ r.slots → t.slots ≡ r.slots → (cond b s t).slots ≡ r.slots
slots_either true s t r left right = left
slots_either false s t r left right = right

passed_slots : (r : State) (command : DueCommand) → (passed r command).slots ≡ r.slots
passed_slots r (Execute tag) = slots_either _ _ r r refl refl
passed_slots r Idle = slots_either _ _ r r refl refl
passed_slots r (ParamsDue tag) = slots_either _ _ r r refl refl
passed_slots r (AddressDue tag) = slots_either _ _ r r refl refl
passed_slots r (Direct tag) = slots_either _ _ r r refl refl
passed_slots r PollDue = slots_either _ _ r r refl refl

step_slots : (r : State) → (engine_step r).slots ≡ r.slots
unfolding engine_step
step_slots r = passed_slots r (due r)

irq_parts : (x : State) (mask : ℕ) → holds x (Irq mask) ≡ true → (is_irq_due x ≡ true) × (mask ≡ mask_of IsDone x.slots)
unfolding holds irq_holds
irq_parts x mask h =
    let parts = and_parts (is_irq_due x) (mask == mask_of IsDone x.slots) h in
    (parts.0, eqb-true mask (mask_of IsDone x.slots) parts.1)

told_next : (r : State) (mask : ℕ) → Comes r (Irq mask) → Irq mask ≡ free_line r
told_next r mask c =
    let parts = irq_parts r mask c.held in
    ap Irq parts.1 ∙ sym (free_irq r c.first parts.0)

stepped_next : (r : State) (mask : ℕ) → has_work r ≡ false → is_idle r ≡ true → Comes (engine_step r) (Irq mask) → Irq mask ≡ free_line r
stepped_next r mask work idle c =
    let x = engine_step r in
    let parts = irq_parts x mask c.held in
    let done = ap (has IsDone) (sym (step_slots r)) ∙ (and_parts (has IsDone x.slots) (x.notice || not (is_running x.stop)) parts.0).0 in
    let none = idle_is (due r) ((and_parts (is_none_due (due r)) _ idle).0) in
    ap Irq (parts.1 ∙ ap (mask_of IsDone) (step_slots r)) ∙ sym (free_command r (done_to_do r done) work ∙ ap (command_line r) none)

pub irq_next : (r : State) (mask : ℕ) → Comes (engine_first r (Irq mask)) (Irq mask) → Irq mask ≡ free_line r
irq_next r mask c =
    elim (cases_Bool (not (has_work r) && is_idle r)) [
      | inl steps ↦
          let parts = and_parts (not (has_work r)) (is_idle r) steps in
          stepped_next r mask (not-true (has_work r) parts.0) parts.1 (subst (λ x. Comes x (Irq mask)) (cond-true (not (has_work r) && is_idle r) (engine_step r) r steps) c)
      | inr stays ↦ told_next r mask (subst (λ x. Comes x (Irq mask)) (cond-false (not (has_work r) && is_idle r) (engine_step r) r stays) c)
    ]

-- the end

end_next : (own : Plan) (r : State) (end : End) → r.owed ≡ Nothing → holds r (Off end) ≡ true → is_expected own (Off end) ≡ true → Off end ≡ free_line r
unfolding holds off_holds
end_next own r Good owed h expected = sym (free_end r (not-true (to_do r) ((and_parts (is_free r.owed) (not (to_do r)) h).1)))
end_next own r FaultEnd owed h expected = absurd (cc)
end_next own r Dead owed h expected = absurd (false≢true (sym (ap (is_dead r) owed) ∙ h))
end_next own r Image owed h expected = absurd (false≢true (sym (ap (may_be_on r) owed) ∙ h))

-- all others are owed

pub card_off : (r : State) (sectors depth : ℕ) (lines : Option ℕ) → r.owed ≡ Nothing → holds r (Card sectors depth lines) ≡ true → false ≡ true
unfolding holds card_holds
card_off r sectors depth lines owed h = sym (ap is_card_owed owed) ∙ (and_parts (is_card_owed r.owed) _ h).0

pub turn_off : (r : State) (letter : Letter) → r.faults.turns ≡ [] → holds r (Turn letter) ≡ true → false ≡ true
unfolding holds turn_holds
turn_off r letter none h = sym (ap (λ turns. is_letter letter (slice_get turns r.letters)) none) ∙ (and_parts (owes_nothing r.owed) _ h).1

missed_off : (r : State) (n : ℕ) (kind : BusKind) (rest : Bool) → hit r ≡ None → ((n == next_number r) && (is_gone (Some kind) && (is_kind (hit r) kind && rest))) ≡ true → false ≡ true
missed_off r n kind rest none h =
    let gone = (and_parts (n == next_number r) (is_gone (Some kind) && (is_kind (hit r) kind && rest)) h).1 in
    let kinds = (and_parts (is_gone (Some kind)) (is_kind (hit r) kind && rest) gone).1 in
    sym (ap (λ hit. is_kind hit kind) none) ∙ (and_parts (is_kind (hit r) kind) rest kinds).0

pub bus_off : (r : State) (n : ℕ) (kind : BusKind) (id : Option ℕ) → r.owed ≡ Nothing → hit r ≡ None → holds r (Bus n kind id) ≡ true → false ≡ true
unfolding holds bus_holds
bus_off r n kind id owed none h = missed_off r n kind _ none (sym (ap (bus_by_owed r n kind id) owed) ∙ h)

answer_off : (r : State) (own rest : Bool) → r.owed ≡ Nothing → ((is_answers r.owed && own) && rest) ≡ true → false ≡ true
answer_off r own rest owed h =
    let parts = and_parts (is_answers r.owed && own) rest h in
    sym (ap is_answers owed) ∙ (and_parts (is_answers r.owed) own parts.0).0

pub done_off : (r : State) (id : ℕ) → r.owed ≡ Nothing → holds r (Done id) ≡ true → false ≡ true
unfolding holds done_holds
done_off r id owed h = answer_off r _ _ owed h

pub read_off : (r : State) (id : ℕ) → r.owed ≡ Nothing → holds r (Read id) ≡ true → false ≡ true
unfolding holds read_holds
read_off r id owed h = answer_off r _ _ owed h

pub status_off : (r : State) (id word : ℕ) → r.owed ≡ Nothing → holds r (Status id word) ≡ true → false ≡ true
unfolding holds status_holds
status_off r id word owed h = answer_off r _ _ owed h

pub sector_off : (r : State) (value : Block) → r.owed ≡ Nothing → holds r (Sector value) ≡ true → false ≡ true
unfolding holds sector_holds
sector_off r value owed h = sym (ap (sector_by_owed r value) owed) ∙ h

pub lost_off : (r : State) (id : ℕ) → r.owed ≡ Nothing → holds r (Lost id) ≡ true → false ≡ true
unfolding holds lost_holds
lost_off r id owed h = sym (ap (lost_by_owed r id) owed) ∙ h

pub on_off : (r : State) → r.owed ≡ Nothing → holds r On ≡ true → false ≡ true
unfolding holds on_holds
on_off r owed h = sym (ap (may_be_on r) owed) ∙ h

pub left_off : (r : State) (sector : ℕ) (value : Block) → r.owed ≡ Nothing → holds r (Left sector value) ≡ true → false ≡ true
unfolding holds left_holds
left_off r sector value owed h = sym (ap (left_by_owed r sector value) owed) ∙ h

-- so the line is that one

still : (r : State) (item : Item) → Comes (engine_first r item) item → engine_first r item ≡ r → Comes r item
still r item c same = subst (λ x. Comes x item) same c

calm_next : (own : Plan) (size : ℕ) (r : State) (item : Item) → Rests own size r → Comes r item → is_irq item ≡ false → is_expected own item ≡ true → item ≡ free_line r
calm_next own size r (Card sectors depth lines) i c irq expected = absurd (false≢true (card_off r sectors depth lines i.owed c.held))
calm_next own size r (Turn letter) i c irq expected = absurd (false≢true (turn_off r letter i.steady.quiet.turns c.held))
calm_next own size r (Issue id tag) i c irq expected = issue_next r id tag c
calm_next own size r (Params n id) i c irq expected = params_line r n id c
calm_next own size r (Address n id) i c irq expected = address_line r n id c
calm_next own size r (Poll n mask) i c irq expected = poll_line r n mask c
calm_next own size r (Phase n id count kept) i c irq expected = phase_next r n id count kept c (ap (λ plan. is_whole plan.through (job_of plan.jobs id) count kept) i.steady.plan ∙ expected)
calm_next own size r (Discard n) i c irq expected = discard_next r n c
calm_next own size r (Bus n kind id) i c irq expected = absurd (false≢true (bus_off r n kind id i.owed (hit_none r i.steady.quiet) c.held))
calm_next own size r (Flash id) i c irq expected = absurd (false≢true expected)
calm_next own size r Recover i c irq expected = recover_next own size r i c
calm_next own size r (Irq mask) i c irq expected = absurd (false≢true (sym irq))
calm_next own size r (Done id) i c irq expected = absurd (false≢true (done_off r id i.owed c.held))
calm_next own size r (Read id) i c irq expected = absurd (false≢true (read_off r id i.owed c.held))
calm_next own size r (Sector value) i c irq expected = absurd (false≢true (sector_off r value i.owed c.held))
calm_next own size r (Status id word) i c irq expected = absurd (false≢true (status_off r id word i.owed c.held))
calm_next own size r (Fault id why) i c irq expected = fault_next own size r id why i c
calm_next own size r (Refused id why) i c irq expected = refused_next own size r id why i c
calm_next own size r Cut i c irq expected = absurd (false≢true expected)
calm_next own size r (Lost id) i c irq expected = absurd (false≢true (lost_off r id i.owed c.held))
calm_next own size r On i c irq expected = absurd (false≢true (on_off r i.owed c.held))
calm_next own size r (Left sector value) i c irq expected = absurd (false≢true (left_off r sector value i.owed c.held))
calm_next own size r (Off end) i c irq expected = end_next own r end i.owed c.held expected

irq_else : (own : Plan) (size : ℕ) (r : State) (item : Item) → Rests own size r → Comes (engine_first r item) item → is_irq item ≡ true → item ≡ free_line r
irq_else own size r (Irq mask) i c irq = irq_next r mask c
irq_else own size r item i c irq = absurd (cc)

pub free_next : (own : Plan) (size : ℕ) (r : State) (item : Item) → Rests own size r → Comes (engine_first r item) item → is_expected own item ≡ true → item ≡ free_line r
free_next own size r item i c expected =
    elim (cases_Bool (is_irq item)) [
      | inl irq ↦ irq_else own size r item i c irq
      | inr other ↦ calm_next own size r item i (still r item c (first_same r item i.steady.quiet other)) other expected
    ]

-- Each line keeps what is so, and the answer that it gives is the request's.
use Rattle.std.proofs.Common.{◌≡◌, ◌∙◌, ℕ, ◌+◌, ◌-◌, ◌≤◌, ◌==◌, nat_le, min, Bool, true, false, ◌&&◌, not, Some, None, List, length, refl, ap, sym, subst, arith, get_or-set_same}
use Rattle.std.proofs.lemmas.Bool.{and_parts, both_ways, cond-false, cond-true, eq-eqb, eqb-true, false≢true, false_from_ne_true, le-leb, leb-true, not-false, not-true}
use Rattle.answer_laws.proofs.Answered.{IsAnswer, answer_apart, answer_calm, answer_on, answers_recover, card_leads, done_answer, done_leads, fault_leads, off_leads, read_answer, read_leads, recover_leads, refused_leads, refused_stopped, sector_leads, status_answer, status_leads}
use Rattle.answer_laws.proofs.Lines.{IsSteady, Leads, address_leads, calm_left, discard_leads, irq_leads, issue_leads, params_leads, poll_leads, turn_leads}
use Rattle.answer_laws.proofs.Phases.{bus_leads, bus_names, left_above, phase_leads, times_apart}
use Rattle.answer_laws.proofs.Settled.{left_of}
use Rattle.answer_laws.proofs.Stands.{IsNamed, Kept, Owes, Stands, times}
use Rattle.answer_laws.proofs.Tasks.{live_some, room_le, room_some, tasks, tasks_some}
use Rattle.answer_laws.specs.Answers.{answer_inside, answer_of, is_answer_to, is_bus_fault_of, own_answer}
use Rattle.one_trace.specs.Traces.{is_plain}
use Rattle.one_trace.proofs.Slots.{collected_inside, done_past, is_past, none_at}
use Rattle.storage_machine.specs.Commands.{is_calm}
use Rattle.storage_machine.specs.Host.{is_stopped, named_times}
use Rattle.storage_machine.specs.Jobs.{is_in_range, is_read, is_status, job_of}
use Rattle.storage_machine.specs.Slots.{slot_at}
use Rattle.storage_machine.specs.declared.state.Owed.{Owed}
use Rattle.storage_machine.specs.declared.state.Owed.TheVariants.{Nothing, Closed, Dark, Left as LeftOwed}
use Rattle.storage_machine.specs.declared.state.State.{State}
use Rattle.storage_machine.specs.declared.state.Stop.{Stop}
use Rattle.storage_machine.specs.declared.state.Stop.TheVariants.{Bus as BusStop, Flash as FlashStop, Range, Align}
use Rattle.storage_model.specs.declared.block.Block.{Block}
use Rattle.storage_model.specs.declared.plan.Job.{Job}
use Rattle.storage_model.specs.declared.plan.Job.TheVariants.{Read as ReadJob, Write as WriteJob, Flush as FlushJob, Barrier as BarrierJob, Status as StatusJob}
use Rattle.storage_model.specs.declared.plan.Plan.{Plan}
use Rattle.storage_model.specs.declared.trace.Item.{Item}
use Rattle.storage_model.specs.declared.trace.Item.TheVariants.{Card, Issue, Params, Address, Poll, Phase, Discard, Bus, Flash, Recover, Irq, Done, Read, Sector, Status, Fault, Refused, Cut, Lost, On, Left, Turn, Off}
use Rattle.storage_model.specs.declared.trace.Limit.{Limit}
use Rattle.storage_model.specs.declared.trace.Limit.TheVariants.{Range as ByRange, Align as ByAlign}
use Rattle.storage_model.specs.declared.trace.Why.{Why}
use Rattle.storage_model.specs.declared.trace.Why.TheVariants.{Bus as ByBus, Flash as ByFlash}
use Rattle.trace_effects.specs.Effects.{after_bus, effect, named_more}
use Rattle.trace_rules.specs.Lines.{done_holds, fault_holds, holds, is_answer_of, is_fault, is_for, is_free, is_refusal, left_by_owed, left_holds, lost_by_owed, lost_holds, may_be_on, on_holds, read_holds, refused_holds, status_holds}

-- lines that come where nothing is owed

abbrev is_common : Item → Bool
is_common (Turn letter) = true
is_common (Issue id tag) = true
is_common (Params n id) = true
is_common (Address n id) = true
is_common (Poll n mask) = true
is_common (Phase n id count kept) = true
is_common (Discard n) = true
is_common (Irq mask) = true
is_common (Fault id why) = true
is_common (Refused id why) = true
is_common item = false

free_common : (owed : Owed) (item : Item) → is_common item ≡ true → is_for owed item ≡ true → is_free owed ≡ true
free_common Nothing item common for = refl
free_common Closed item common for = refl
free_common owed (Turn letter) common for = absurd (cc)
free_common owed (Issue id tag) common for = absurd (cc)
free_common owed (Params n id) common for = absurd (cc)
free_common owed (Address n id) common for = absurd (cc)
free_common owed (Poll n mask) common for = absurd (cc)
free_common owed (Phase n id count kept) common for = absurd (cc)
free_common owed (Discard n) common for = absurd (cc)
free_common owed (Irq mask) common for = absurd (cc)
free_common owed (Fault id why) common for = absurd (cc)
free_common owed (Refused id why) common for = absurd (cc)
free_common owed item common for = absurd (false≢true common)

-- lines behind a loss of power

lost_none : (jobs : List Job) (size : ℕ) (x : State) (id : ℕ) (owed : Owed) → Owes x.slots x.stop x.recovery owed → lost_by_owed x id owed ≡ true → false ≡ true
lost_none jobs size x id (Dark cuts) owes h = owes
lost_none jobs size x id owed owes h = absurd (cc)

lost_off : (jobs : List Job) (size : ℕ) (x : State) (id : ℕ) → Kept jobs size x → holds x (Lost id) ≡ true → false ≡ true
unfolding holds lost_holds
lost_off jobs size x id i h = lost_none jobs size x id x.owed i.owes h

pub on_none : (jobs : List Job) (size : ℕ) (x : State) (owed : Owed) → Owes x.slots x.stop x.recovery owed → may_be_on x owed ≡ true → false ≡ true
on_none jobs size x (Dark cuts) owes h = owes
on_none jobs size x owed owes h = absurd (cc)

on_off : (jobs : List Job) (size : ℕ) (x : State) → Kept jobs size x → holds x On ≡ true → false ≡ true
unfolding holds on_holds
on_off jobs size x i h = on_none jobs size x x.owed i.owes h

left_none : (jobs : List Job) (size : ℕ) (x : State) (sector : ℕ) (value : Block) (owed : Owed) → Owes x.slots x.stop x.recovery owed → left_by_owed x sector value owed ≡ true → false ≡ true
left_none jobs size x sector value (LeftOwed from) owes h = owes
left_none jobs size x sector value owed owes h = absurd (cc)

left_off : (jobs : List Job) (size : ℕ) (x : State) (sector : ℕ) (value : Block) → Kept jobs size x → holds x (Left sector value) ≡ true → false ≡ true
unfolding holds left_holds
left_off jobs size x sector value i h = left_none jobs size x sector value x.owed i.owes h

pub line_leads : (own : Plan) (size : ℕ) (x : State) (item : Item) → IsSteady own size x → is_plain item ≡ true → is_for x.owed item ≡ true → holds x item ≡ true → Leads own.jobs size x (effect x item) item
line_leads own size x (Card sectors depth lines) i plain for h = card_leads own.jobs size x sectors depth lines i.kept h
line_leads own size x (Turn letter) i plain for h = turn_leads own.jobs size x letter i.kept (free_common x.owed (Turn letter) refl for)
line_leads own size x (Issue id tag) i plain for h = issue_leads own.jobs size x id tag i.kept (free_common x.owed (Issue id tag) refl for) h
line_leads own size x (Params n id) i plain for h = params_leads own.jobs size x n id i.kept (free_common x.owed (Params n id) refl for) h
line_leads own size x (Address n id) i plain for h = address_leads own size x n id i (free_common x.owed (Address n id) refl for) h
line_leads own size x (Poll n mask) i plain for h = poll_leads own.jobs size x n mask i.kept (free_common x.owed (Poll n mask) refl for) h
line_leads own size x (Phase n id count kept) i plain for h = phase_leads own size x n id count kept i (free_common x.owed (Phase n id count kept) refl for) h
line_leads own size x (Discard n) i plain for h = discard_leads own.jobs size x n i.kept (free_common x.owed (Discard n) refl for) h
line_leads own size x (Bus n kind id) i plain for h = bus_leads own.jobs size x n kind id i.kept for h
line_leads own size x (Flash id) i plain for h = absurd (false≢true plain)
line_leads own size x Recover i plain for h = recover_leads own.jobs size x i.kept h
line_leads own size x (Irq mask) i plain for h = irq_leads own.jobs size x mask i.kept (free_common x.owed (Irq mask) refl for) h
line_leads own size x (Done id) i plain for h = done_leads own.jobs size x id i.kept h
line_leads own size x (Read id) i plain for h = read_leads own.jobs size x id i.kept h
line_leads own size x (Sector value) i plain for h = sector_leads own.jobs size x value i.kept h
line_leads own size x (Status id word) i plain for h = status_leads own.jobs size x id word i.kept h
line_leads own size x (Fault id why) i plain for h = fault_leads own.jobs size x id why i.kept (free_common x.owed (Fault id why) refl for) h
line_leads own size x (Refused id limit) i plain for h = refused_leads own.jobs size x id limit i.kept (free_common x.owed (Refused id limit) refl for) h
line_leads own size x Cut i plain for h = absurd (false≢true plain)
line_leads own size x (Lost id) i plain for h = absurd (false≢true (lost_off own.jobs size x id i.kept h))
line_leads own size x On i plain for h = absurd (false≢true (on_off own.jobs size x i.kept h))
line_leads own size x (Left sector value) i plain for h = absurd (false≢true (left_off own.jobs size x sector value i.kept h))
line_leads own size x (Off end) i plain for h = off_leads own.jobs size x end i.kept for

-- the answers

one_left : (jobs : List Job) (size : ℕ) (x : State) (id : ℕ) → Kept jobs size x → is_calm x.recovery ≡ true → 1 ≤ tasks id x.slots → left_of id x ≡ 1
one_left jobs size x id i calm some = omega (arith, calm_left id x.waiting x.recovery x.slots calm, i.fits id, room_le (length jobs) id, some)

four_none : (jobs : List Job) (size : ℕ) (x : State) (id : ℕ) → Kept jobs size x → left_of id x ≡ 1 → (x.stop ≡ BusStop (Some id) → false ≡ true) → nat_le 4 (times x.named id) ≡ false
four_none jobs size x id i one off = false_from_ne_true (nat_le 4 (times x.named id)) (λ four. false≢true (off (i.fourth id one (leb-true 4 (times x.named id) four))))

inside_is : (id : ℕ) (job : Job) (size n : ℕ) → nat_le 4 n ≡ false → is_in_range job size ≡ true → answer_of id job size n ≡ own_answer id job
inside_is id job size n few inside = cond-false (nat_le 4 n) (Fault id ByBus) (answer_inside id job size) few ∙ cond-true (is_in_range job size) (own_answer id job) (Refused id ByRange) inside

outside_is : (id : ℕ) (job : Job) (size n : ℕ) → nat_le 4 n ≡ false → is_in_range job size ≡ false → answer_of id job size n ≡ Refused id ByRange
outside_is id job size n few outside = cond-false (nat_le 4 n) (Fault id ByBus) (answer_inside id job size) few ∙ cond-false (is_in_range job size) (own_answer id job) (Refused id ByRange) outside

answer_stop : (jobs : List Job) (size : ℕ) (x : State) (id : ℕ) → Kept jobs size x → IsAnswer x id → x.stop ≡ BusStop (Some id) → false ≡ true
answer_stop jobs size x id i at e =
    let named : IsNamed id x.waiting x.slots x.recovery x.owed = subst (Stands jobs size x.waiting x.slots x.recovery x.owed) e i.stands in
    answer_apart jobs size x id id i at (named.live (answers_recover x.owed at.owed)) refl

answer_range : (jobs : List Job) (size : ℕ) (x : State) (id : ℕ) → Kept jobs size x → IsAnswer x id → is_in_range (job_of jobs id) size ≡ true
answer_range jobs size x id i at =
    not-false (is_in_range (job_of jobs id) size)
    (ap (is_past jobs size) (sym at.same) ∙ collected_inside jobs size (slot_at x.slots at.tag) at.asked (none_at (done_past jobs size) x.slots refl i.served at.tag))

own_right : (own : Plan) (size : ℕ) (x : State) (id : ℕ) (item : Item) → IsSteady own size x → IsAnswer x id → item ≡ own_answer id (job_of own.jobs id) → item ≡ answer_of id (job_of own.jobs id) size (times x.named id)
own_right own size x id item i at e =
    let one = one_left own.jobs size x id i.kept (answer_calm own.jobs size x id i.kept at) (tasks_some id x.slots at.tag (answer_on x id at)) in
    e ∙ sym (inside_is id (job_of own.jobs id) size (times x.named id) (four_none own.jobs size x id i.kept one (answer_stop own.jobs size x id i.kept at)) (answer_range own.jobs size x id i.kept at))

own_done : (id : ℕ) (job : Job) → is_read job ≡ false → is_status job ≡ false → Done id ≡ own_answer id job
own_done id (ReadJob sector blocks high) read status = absurd (cc)
own_done id (WriteJob sector blocks fill forced reliable high) read status = refl
own_done id FlushJob read status = refl
own_done id BarrierJob read status = refl
own_done id StatusJob read status = absurd (cc)

own_read : (id : ℕ) (job : Job) → is_read job ≡ true → Read id ≡ own_answer id job
own_read id (ReadJob sector blocks high) e = refl
own_read id job e = absurd (cc)

own_status : (id : ℕ) (job : Job) → is_status job ≡ true → Status id 0x900 ≡ own_answer id job
own_status id StatusJob e = refl
own_status id job e = absurd (cc)

own_plan : (own : Plan) (size : ℕ) (x : State) (id : ℕ) (test : Job → Bool) (b : Bool) → IsSteady own size x → test (job_of x.plan.jobs id) ≡ b → test (job_of own.jobs id) ≡ b
own_plan own size x id test b i h = ap (λ plan. test (job_of plan.jobs id)) (sym i.plan) ∙ h

done_right : (own : Plan) (size : ℕ) (x : State) (id : ℕ) → IsSteady own size x → holds x (Done id) ≡ true → Done id ≡ answer_of id (job_of own.jobs id) size (times x.named id)
unfolding holds done_holds
done_right own size x id i h =
    let job = job_of x.plan.jobs id in
    let kinds = and_parts (not (is_read job)) (not (is_status job)) ((and_parts (is_answer_of x id) (not (is_read job) && not (is_status job)) h).1) in
    own_right own size x id (Done id) i (done_answer x id h)
    (own_done id (job_of own.jobs id) (own_plan own size x id is_read false i (not-true (is_read job) kinds.0)) (own_plan own size x id is_status false i (not-true (is_status job) kinds.1)))

read_right : (own : Plan) (size : ℕ) (x : State) (id : ℕ) → IsSteady own size x → holds x (Read id) ≡ true → Read id ≡ answer_of id (job_of own.jobs id) size (times x.named id)
unfolding holds read_holds
read_right own size x id i h =
    own_right own size x id (Read id) i (read_answer x id h)
    (own_read id (job_of own.jobs id) (own_plan own size x id is_read true i ((and_parts (is_answer_of x id) (is_read (job_of x.plan.jobs id)) h).1)))

status_right : (own : Plan) (size : ℕ) (x : State) (id word : ℕ) → IsSteady own size x → holds x (Status id word) ≡ true → Status id word ≡ answer_of id (job_of own.jobs id) size (times x.named id)
unfolding holds status_holds
status_right own size x id word i h =
    let job = job_of x.plan.jobs id in
    let kinds = and_parts (is_status job) (word == 0x900) ((and_parts (is_answer_of x id) (is_status job && (word == 0x900)) h).1) in
    own_right own size x id (Status id word) i (status_answer x id word h)
    (ap (Status id) (eqb-true word 0x900 kinds.1) ∙ own_status id (job_of own.jobs id) (own_plan own size x id is_status true i kinds.0))

fault_by : (jobs : List Job) (size : ℕ) (x : State) (id : ℕ) (why : Why) (stop : Stop) → Stands jobs size x.waiting x.slots x.recovery x.owed stop → is_fault x id why stop ≡ true
    → Fault id why ≡ answer_of id (job_of jobs id) size (times x.named id)
fault_by jobs size x id ByBus (BusStop (Some named)) stands h =
    let parts = and_parts (id == named) (named_times x named == 4) h in
    let four : times x.named id ≡ 4 = ap (times x.named) (eqb-true id named parts.0) ∙ eqb-true (times x.named named) 4 parts.1 in
    sym (cond-true (nat_le 4 (times x.named id)) (Fault id ByBus) (answer_inside id (job_of jobs id) size) (le-leb 4 (times x.named id) (omega (arith, four))))
fault_by jobs size x id ByFlash (FlashStop named) stands h = absurd (false≢true stands)
fault_by jobs size x id ByBus stop stands h = absurd (cc)
fault_by jobs size x id ByFlash stop stands h = absurd (cc)

fault_right : (own : Plan) (size : ℕ) (x : State) (id : ℕ) (why : Why) → IsSteady own size x → holds x (Fault id why) ≡ true → Fault id why ≡ answer_of id (job_of own.jobs id) size (times x.named id)
unfolding holds fault_holds
fault_right own size x id why i h = fault_by own.jobs size x id why x.stop i.kept.stands ((and_parts (is_stopped x) (is_fault x id why x.stop) h).1)

stop_apart : (stop : Stop) (named id : ℕ) → stop ≡ Range named → stop ≡ BusStop (Some id) → false ≡ true
stop_apart stop named id at e = let same : Range named ≡ BusStop (Some id) = sym at ∙ e in absurd (cc)

refused_by : (jobs : List Job) (size : ℕ) (x : State) (id : ℕ) (limit : Limit) (stop : Stop) → x.stop ≡ stop → Kept jobs size x → left_of id x ≡ 1 → Stands jobs size x.waiting x.slots x.recovery x.owed stop → is_refusal id limit stop ≡ true
    → Refused id limit ≡ answer_of id (job_of jobs id) size (times x.named id)
refused_by jobs size x id ByRange (Range named) at i one stands h =
    let past : is_past jobs size id ≡ true = ap (is_past jobs size) (eqb-true id named h) ∙ stands.1 in
    sym (outside_is id (job_of jobs id) size (times x.named id) (four_none jobs size x id i one (stop_apart x.stop named id at)) (not-true (is_in_range (job_of jobs id) size) past))
refused_by jobs size x id ByAlign (Align named) at i one stands h = absurd (false≢true stands)
refused_by jobs size x id ByRange stop at i one stands h = absurd (cc)
refused_by jobs size x id ByAlign stop at i one stands h = absurd (cc)

refused_right : (own : Plan) (size : ℕ) (x : State) (id : ℕ) (limit : Limit) → IsSteady own size x → is_free x.owed ≡ true → holds x (Refused id limit) ≡ true → Refused id limit ≡ answer_of id (job_of own.jobs id) size (times x.named id)
unfolding holds refused_holds
refused_right own size x id limit i free h =
    let at = refused_stopped own.jobs size x id limit i.kept free h in
    refused_by own.jobs size x id limit x.stop refl i.kept (one_left own.jobs size x id i.kept at.calm (live_some id x.slots at.live)) i.kept.stands ((and_parts (is_stopped x) (is_refusal id limit x.stop) h).1)

pub right : (own : Plan) (size : ℕ) (x : State) (id : ℕ) (item : Item) → IsSteady own size x → is_for x.owed item ≡ true → holds x item ≡ true → is_answer_to id item ≡ true → item ≡ answer_of id (job_of own.jobs id) size (times x.named id)
right own size x id (Done other) i for h to = subst (λ j. Done other ≡ answer_of j (job_of own.jobs j) size (times x.named j)) (eqb-true other id to) (done_right own size x other i h)
right own size x id (Read other) i for h to = subst (λ j. Read other ≡ answer_of j (job_of own.jobs j) size (times x.named j)) (eqb-true other id to) (read_right own size x other i h)
right own size x id (Status other word) i for h to = subst (λ j. Status other word ≡ answer_of j (job_of own.jobs j) size (times x.named j)) (eqb-true other id to) (status_right own size x other word i h)
right own size x id (Fault other why) i for h to = subst (λ j. Fault other why ≡ answer_of j (job_of own.jobs j) size (times x.named j)) (eqb-true other id to) (fault_right own size x other why i h)
right own size x id (Refused other limit) i for h to =
    subst (λ j. Refused other limit ≡ answer_of j (job_of own.jobs j) size (times x.named j)) (eqb-true other id to) (refused_right own size x other limit i (free_common x.owed (Refused other limit) refl for) h)
right own size x id (Lost other) i for h to = absurd (false≢true (lost_off own.jobs size x other i.kept h))
right own size x id item i for h to = absurd (false≢true to)

-- and the counts

pub times_kept : (own : Plan) (size : ℕ) (x : State) (id : ℕ) (item : Item) → IsSteady own size x → is_plain item ≡ true → is_for x.owed item ≡ true → holds x item ≡ true → 1 ≤ id → is_bus_fault_of id item ≡ false
    → times (effect x item).named id ≡ times x.named id
unfolding effect after_bus
times_kept own size x id (Bus n kind None) i plain for h above off = refl
times_kept own size x id (Bus n kind (Some other)) i plain for h above off =
    times_apart x.named other id (left_above own.jobs size x other i.kept (bus_names own.jobs size x n kind other i.kept for h).left) above (λ same. both_ways (other == id) off (eq-eqb other id same))
times_kept own size x id item i plain for h above off = ap (λ named. times named id) ((line_leads own size x item i plain for h).named refl)

pub record Raises (own : Plan) (size : ℕ) (x : State) (id : ℕ) (item : Item) : Type 0 where
  pub left : 1 ≤ left_of id x
  pub few : times x.named id ≤ 3
  pub raised : times (effect x item).named id ≡ min (times x.named id + 1) 4

pub times_raised : (own : Plan) (size : ℕ) (x : State) (id : ℕ) (item : Item) → IsSteady own size x → is_for x.owed item ≡ true → holds x item ≡ true → is_bus_fault_of id item ≡ true → Raises own size x id item
unfolding effect after_bus
times_raised own size x id (Bus n kind None) i for h of = absurd (false≢true of)
times_raised own size x id (Bus n kind (Some other)) i for h of =
    let at = bus_names own.jobs size x n kind other i.kept for h in
    let inside = room_some (length own.jobs) other (omega (arith, at.left, i.kept.fits other)) in
    let raised : times (named_more x.named (Some other)) other ≡ min (times x.named other + 1) 4 =
    get_or-set_same x.named (other - 1) (min (times x.named other + 1) 4) 0 (omega (arith, inside.0, inside.1, i.kept.names)) in
    let same = eqb-true other id of in
    record {
      left = subst (λ j. 1 ≤ left_of j x) same at.left;
      few = subst (λ j. times x.named j ≤ 3) same at.few;
      raised = subst (λ j. times (named_more x.named (Some other)) j ≡ min (times x.named j + 1) 4) same raised;
    }
times_raised own size x id item i for h of = absurd (false≢true of)

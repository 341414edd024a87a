-- What is so of each state that is reached stays so with each line.
use Rattle.std.proofs.Common.{inl, inr, ◌≡◌, ◌∙◌, ℕ, ◌+◌, ◌==◌, Bool, true, false, cond, ◌&&◌, ◌||◌, not, nat_lt, option_map, Option, Some, None, List, length, slice_set, refl, ap, sym, subst}
use Rattle.std.proofs.lemmas.Bool.{and_from, and_parts, eqb-true, false≢true, or_cases, or_right}
use Rattle.std.proofs.lemmas.List.Quantifiers.{position-Some}
use Rattle.std.proofs.lemmas.Option.{none-some, same_Some}
use Rattle.std.specs.List.{list_any}
use Rattle.one_trace.proofs.Dues.{address_named, due_running, due_to_do, may_issue, work_none}
use Rattle.one_trace.proofs.Lines.{address_is, bus_off, card_off, cleared_busy, done_off, heard_is, host_idle, left_off, lost_off, moves_say, on_off, params_is, read_off, sector_off, status_off, turn_off}
use Rattle.one_trace.proofs.Served.{answer_of, flash_only}
use Rattle.one_trace.proofs.Settled.{Comes, IsSteady, Rests, hit_none, is_lit, running_of, runs, stands_owed, stop_stands}
use Rattle.one_trace.proofs.Slots.{collected_inside, done_past, is_past, named_answered, named_at, named_collected, named_past, none_answered, none_at, none_collected, none_held, none_moved, none_ready, none_set, some_at}
use Rattle.one_trace.specs.Traces.{IsFaultless, is_plain}
use Rattle.storage_machine.specs.Commands.{due, hit, id_on, is_calm, is_gone, is_lost, is_none_due, is_running, next_number, polled_mask}
use Rattle.storage_machine.specs.Jobs.{is_in_range, job_of}
use Rattle.storage_machine.specs.Slots.{asks, changed_slots, slot_at, tag_of}
use Rattle.storage_machine.specs.declared.commands.DueCommand.{DueCommand}
use Rattle.storage_machine.specs.declared.commands.DueCommand.TheVariants.{Idle, Address as AddressDue, Params as ParamsDue, Direct, Execute, Poll as PollDue}
use Rattle.storage_machine.specs.declared.slots.Change.TheVariants.{MakeReady, Collect, Move, Answer}
use Rattle.storage_machine.specs.declared.slots.Question.TheVariants.{Collected as IsCollected}
use Rattle.storage_machine.specs.declared.state.Event.TheVariants.{Untold}
use Rattle.storage_machine.specs.declared.state.Owed.{Owed}
use Rattle.storage_machine.specs.declared.state.Owed.TheVariants.{Card as CardOwed, Nothing, Closed, Bus as BusOwed, Flash as FlashOwed, Answers, Sectors, Recover as RecoverOwed, Dark, Left as LeftOwed, End as Ended}
use Rattle.storage_machine.specs.declared.state.Recovery.{Recovery}
use Rattle.storage_machine.specs.declared.state.Recovery.TheVariants.{Discarded}
use Rattle.storage_machine.specs.declared.state.Standing.TheVariants.{Rung, Named, Sent, Done as DoneTask}
use Rattle.storage_machine.specs.declared.state.State.{State}
use Rattle.storage_machine.specs.declared.state.Stop.{Stop}
use Rattle.storage_machine.specs.declared.state.Task.{Task}
use Rattle.storage_model.specs.declared.block.Block.{Block}
use Rattle.storage_model.specs.declared.plan.Job.{Job}
use Rattle.storage_model.specs.declared.plan.Plan.{Plan}
use Rattle.storage_model.specs.declared.trace.End.{End}
use Rattle.storage_model.specs.declared.trace.End.TheVariants.{Good, Fault as FaultEnd, Dead, Image}
use Rattle.storage_model.specs.declared.trace.Item.{Item}
use Rattle.storage_model.specs.declared.trace.Item.TheVariants.{Card, Issue, Params, Address, Poll, Phase, Discard, Bus, Flash, Recover, Irq, Done, Read, Sector, Status, Fault, Refused, Cut, Lost, On, Left, Turn, Off}
use Rattle.trace_effects.proofs.Sounds.{effect_keeps}
use Rattle.trace_effects.specs.Effects.{addressed, after_address, after_answer, after_discard, after_fault, after_irq, after_issue, after_off, after_params, after_poll, after_read, after_recover, after_sector, answers_left, effect, over, sectors_from, shown_on}
use Rattle.trace_effects.specs.Phases.{after_blocks, after_done, after_keep, after_phase, closed_by, done_with, event_with, phase_by, read_sectors}
use Rattle.trace_rules.specs.Lines.{address_holds, data_on, done_holds, holds, is_address, is_answer_of, is_for, is_free, is_params, is_poll, is_recover_owed, params_holds, poll_holds, read_holds, status_holds}
use Rattle.trace_rules.specs.Phases.{is_phase_of, is_whole, moves, owed_by, phase_holds, tag_due}
use Rattle.trace_rules.specs.Steps.{is_cleared}

-- but for the plan and the number of sectors, which no line changes
record IsWell (own : Plan) (size : ℕ) (t : State) : Type 0 where
  quiet : IsFaultless t.faults
  event : t.event ≡ Untold
  lit : is_lit t.owed ≡ true
  served : list_any (done_past own.jobs size) t.slots ≡ false
  stands : stop_stands own.jobs size t.stop t.recovery t.owed t.slots ≡ true

steady_of : (own : Plan) (size : ℕ) (s : State) (item : Item) → IsSteady own size s → IsWell own size (effect s item) → IsSteady own size (effect s item)
steady_of own size s item i well =
    let kept = effect_keeps s item in
    record { plan = kept.plan ∙ i.plan; quiet = well.quiet; sectors = kept.sectors ∙ i.sectors; event = well.event; lit = well.lit; served = well.served; stands = well.stands }

well_either : (own : Plan) (size : ℕ) (b : Bool) (s t : State) → IsWell own size s → IsWell own size t → IsWell own size (cond b s t)
well_either own size true s t left right = left
well_either own size false s t left right = right

-- a stop, with other slots and another thing owed
stands_with : (jobs : List Job) (sectors : ℕ) (stop : Stop) (recovery : Recovery) (owed other : Owed) (slots changed : List (Option Task)) → is_recover_owed owed ≡ false
    → (list_any (named_past jobs sectors) slots ≡ true → list_any (named_past jobs sectors) changed ≡ true) → stop_stands jobs sectors stop recovery owed slots ≡ true
    → stop_stands jobs sectors stop recovery other changed ≡ true
stands_with jobs sectors stop recovery owed other slots changed off so h =
    let named = list_any (named_past jobs sectors) slots in
    elim (or_cases (is_running stop) (is_calm recovery && (is_recover_owed owed || named)) h) [
      | inl running ↦ runs jobs sectors stop recovery other changed running
      | inr rest ↦
          let parts = and_parts (is_calm recovery) (is_recover_owed owed || named) rest in
          let after = list_any (named_past jobs sectors) changed in
          or_right (is_running stop) (is_calm recovery && (is_recover_owed other || after)) (and_from (is_calm recovery) (is_recover_owed other || after) parts.0
          (or_right (is_recover_owed other) after (so (sym (ap (λ b. b || named) off) ∙ parts.1))))
    ]

-- a recovery that is owed
stands_answered : (jobs : List Job) (sectors : ℕ) (stop : Stop) (recovery : Recovery) (owed : Owed) (slots changed : List (Option Task)) → stop_stands jobs sectors stop recovery owed slots ≡ true
    → stop_stands jobs sectors stop recovery RecoverOwed changed ≡ true
stands_answered jobs sectors stop recovery owed slots changed h =
    let named = list_any (named_past jobs sectors) slots in
    elim (or_cases (is_running stop) (is_calm recovery && (is_recover_owed owed || named)) h) [
      | inl running ↦ runs jobs sectors stop recovery RecoverOwed changed running
      | inr rest ↦
          let parts = and_parts (is_calm recovery) (is_recover_owed owed || named) rest in
          or_right (is_running stop) (is_calm recovery && true) (and_from (is_calm recovery) true parts.0 refl)
    ]

-- lines that serve what is owed

inside_at : (own : Plan) (size : ℕ) (s : State) (id : ℕ) (tag : Option ℕ) → IsSteady own size s → tag_of IsCollected s.slots ≡ tag → option_map (λ tag. id_on s tag) tag ≡ Some id → is_past own.jobs size id ≡ false
inside_at own size s id None i at e = absurd (none-some id e)
inside_at own size s id (Some tag) i at e =
    let found = position-Some (asks IsCollected) s.slots tag None at in
    ap (is_past own.jobs size) (sym (same_Some (id_on s tag) id e))
    ∙ collected_inside own.jobs size (slot_at s.slots tag) found.1 (none_at (done_past own.jobs size) s.slots refl i.served tag)

answer_inside : (own : Plan) (size : ℕ) (s : State) (id : ℕ) → IsSteady own size s → is_answer_of s id ≡ true → is_past own.jobs size id ≡ false
answer_inside own size s id i h = inside_at own size s id (tag_of IsCollected s.slots) i refl (answer_of s id h)

lit_either : (b : Bool) → is_lit (cond b Answers Nothing) ≡ true
lit_either true = refl
lit_either false = refl

lit_sectors : (tag : Option ℕ) → is_lit (sectors_from tag) ≡ true
lit_sectors None = refl
lit_sectors (Some tag) = refl

card_well : (own : Plan) (size : ℕ) (s : State) (sectors depth : ℕ) (lines : Option ℕ) → IsSteady own size s → s.owed ≡ CardOwed → IsWell own size (effect s (Card sectors depth lines))
unfolding effect
card_well own size s sectors depth lines i at = record {
  quiet = i.quiet;
  event = refl;
  lit = refl;
  served = i.served;
  stands = stands_owed own.jobs size s.stop s.recovery s.owed Nothing s.slots (ap is_recover_owed at) i.stands;
}

answer_stands : (own : Plan) (size : ℕ) (s : State) (id : ℕ) (other : Owed) → IsSteady own size s → s.owed ≡ Answers → is_answer_of s id ≡ true → stop_stands own.jobs size s.stop s.recovery other (changed_slots (Answer id) s.slots) ≡ true
answer_stands own size s id other i at own_answer =
    stands_with own.jobs size s.stop s.recovery s.owed other s.slots (changed_slots (Answer id) s.slots) (ap is_recover_owed at)
    (named_answered own.jobs size id s.slots (answer_inside own size s id i own_answer)) i.stands

answer_well : (own : Plan) (size : ℕ) (s : State) (id : ℕ) → IsSteady own size s → s.owed ≡ Answers → is_answer_of s id ≡ true → IsWell own size (after_answer s id)
unfolding after_answer
answer_well own size s id i at own_answer = record {
  quiet = i.quiet;
  event = refl;
  lit = lit_either _;
  served = none_answered own.jobs size id s.slots i.served;
  stands = answer_stands own size s id (answers_left (changed_slots (Answer id) s.slots)) i at own_answer;
}

read_well : (own : Plan) (size : ℕ) (s : State) (id : ℕ) → IsSteady own size s → s.owed ≡ Answers → is_answer_of s id ≡ true → IsWell own size (after_read s id)
unfolding after_read
read_well own size s id i at own_answer = record {
  quiet = i.quiet;
  event = refl;
  lit = lit_sectors (tag_of IsCollected s.slots);
  served = none_answered own.jobs size id s.slots i.served;
  stands = answer_stands own size s id (sectors_from (tag_of IsCollected s.slots)) i at own_answer;
}

answers_well : (own : Plan) (size : ℕ) (s : State) (item : Item) → IsSteady own size s → s.owed ≡ Answers → is_for Answers item ≡ true → holds s item ≡ true → IsWell own size (effect s item)
unfolding effect holds done_holds read_holds status_holds
answers_well own size s (Done id) i at for h = answer_well own size s id i at ((and_parts (is_answer_of s id) _ h).0)
answers_well own size s (Read id) i at for h = read_well own size s id i at ((and_parts (is_answer_of s id) _ h).0)
answers_well own size s (Status id word) i at for h = answer_well own size s id i at ((and_parts (is_answer_of s id) _ h).0)
answers_well own size s item i at for h = absurd (cc)

sector_well : (own : Plan) (size : ℕ) (s : State) (value : Block) (tag k : ℕ) → IsSteady own size s → s.owed ≡ Sectors tag k → IsWell own size (effect s (Sector value))
unfolding effect after_sector
sector_well own size s value tag k i at =
    let stands : (other : Owed) → stop_stands own.jobs size s.stop s.recovery other s.slots ≡ true = λ other. stands_owed own.jobs size s.stop s.recovery s.owed other s.slots (ap is_recover_owed at) i.stands in
    subst (IsWell own size) (ap (shown_on s) (sym at))
    (well_either own size (nat_lt (k + 1) (length (data_on s tag))) (over s (Sectors tag (k + 1))) _
    (record { quiet = i.quiet; event = refl; lit = refl; served = i.served; stands = stands (Sectors tag (k + 1)) })
    (record { quiet = i.quiet; event = refl; lit = lit_either _; served = i.served; stands = stands (answers_left s.slots) }))

recover_well : (own : Plan) (size : ℕ) (s : State) → IsSteady own size s → IsWell own size (effect s Recover)
unfolding effect after_recover
recover_well own size s i = record { quiet = i.quiet; event = refl; lit = refl; served = none_held own.jobs size s.slots i.served; stands = refl }

card_only : (own : Plan) (size : ℕ) (s : State) (item : Item) → IsSteady own size s → s.owed ≡ CardOwed → is_for CardOwed item ≡ true → IsWell own size (effect s item)
card_only own size s (Card sectors depth lines) i at for = card_well own size s sectors depth lines i at
card_only own size s item i at for = absurd (cc)

sector_only : (own : Plan) (size : ℕ) (s : State) (item : Item) (tag k : ℕ) → IsSteady own size s → s.owed ≡ Sectors tag k → is_for (Sectors tag k) item ≡ true → IsWell own size (effect s item)
sector_only own size s (Sector value) tag k i at for = sector_well own size s value tag k i at
sector_only own size s item tag k i at for = absurd (cc)

recover_only : (own : Plan) (size : ℕ) (s : State) (item : Item) → IsSteady own size s → is_for RecoverOwed item ≡ true → IsWell own size (effect s item)
recover_only own size s Recover i for = recover_well own size s i
recover_only own size s item i for = absurd (cc)

owed_well : (own : Plan) (size : ℕ) (s : State) (owed : Owed) (item : Item) → IsSteady own size s → s.owed ≡ owed → is_free owed ≡ false → is_lit owed ≡ true → is_plain item ≡ true → is_for owed item ≡ true → holds s item ≡ true → IsWell own size (effect s item)
owed_well own size s CardOwed item i at owes lit plain for h = card_only own size s item i at for
owed_well own size s Answers item i at owes lit plain for h = answers_well own size s item i at for h
owed_well own size s (Sectors tag k) item i at owes lit plain for h = sector_only own size s item tag k i at for
owed_well own size s RecoverOwed item i at owes lit plain for h = recover_only own size s item i for
owed_well own size s Ended item i at owes lit plain for h = absurd (false≢true for)
owed_well own size s Nothing item i at owes lit plain for h = absurd (cc)
owed_well own size s Closed item i at owes lit plain for h = absurd (cc)
owed_well own size s (BusOwed n id kind) item i at owes lit plain for h = absurd (cc)
owed_well own size s (FlashOwed id) item i at owes lit plain for h = absurd (false≢true (flash_only id item for plain))
owed_well own size s (Dark cuts) item i at owes lit plain for h = absurd (cc)
owed_well own size s (LeftOwed from) item i at owes lit plain for h = absurd (cc)

-- lines of a next event: of the host

issue_well : (own : Plan) (size : ℕ) (x : State) (id tag : ℕ) → Rests own size x → holds x (Issue id tag) ≡ true → IsWell own size (effect x (Issue id tag))
unfolding effect after_issue holds
issue_well own size x id tag i h =
    let slots = slice_set x.slots tag (Some (record { id = id; standing = Rung })) in
    record {
      quiet = i.steady.quiet;
      event = refl;
      lit = refl;
      served = none_set (done_past own.jobs size) x.slots tag (Some (record { id = id; standing = Rung })) refl i.steady.served;
      stands = runs own.jobs size x.stop x.recovery Nothing slots (may_issue x id tag h).running;
    }

discard_well : (own : Plan) (size : ℕ) (x : State) (n : ℕ) → Rests own size x → is_cleared x.recovery ≡ true → IsWell own size (effect x (Discard n))
unfolding effect after_discard
discard_well own size x n i cleared = record {
  quiet = i.steady.quiet;
  event = refl;
  lit = refl;
  served = i.steady.served;
  stands = runs own.jobs size x.stop Discarded Nothing x.slots (running_of own.jobs size x.stop x.recovery x.owed x.slots (cleared_busy x.recovery cleared) i.steady.stands);
}

irq_well : (own : Plan) (size : ℕ) (x : State) (mask : ℕ) → Rests own size x → IsWell own size (effect x (Irq mask))
unfolding effect after_irq
irq_well own size x mask i = record {
  quiet = i.steady.quiet;
  event = refl;
  lit = refl;
  served = none_collected own.jobs size x.slots i.steady.served;
  stands = stands_with own.jobs size x.stop x.recovery x.owed Answers x.slots (changed_slots Collect x.slots) (ap is_recover_owed i.owed) (named_collected own.jobs size x.slots) i.steady.stands;
}

fault_well : (own : Plan) (size : ℕ) (x : State) (id : ℕ) → Rests own size x → IsWell own size (after_fault x id)
unfolding after_fault
fault_well own size x id i = record {
  quiet = i.steady.quiet;
  event = refl;
  lit = refl;
  served = none_answered own.jobs size id x.slots i.steady.served;
  stands = stands_answered own.jobs size x.stop x.recovery x.owed x.slots (changed_slots (Answer id) x.slots) i.steady.stands;
}

off_well : (own : Plan) (size : ℕ) (x : State) (end : End) → Rests own size x → IsWell own size (effect x (Off end))
unfolding effect after_off after_keep
off_well own size x Good i = record { quiet = i.steady.quiet; event = refl; lit = refl; served = i.steady.served; stands = stands_owed own.jobs size x.stop x.recovery x.owed Ended x.slots (ap is_recover_owed i.owed) i.steady.stands }
off_well own size x FaultEnd i = record { quiet = i.steady.quiet; event = refl; lit = refl; served = i.steady.served; stands = stands_owed own.jobs size x.stop x.recovery x.owed Ended x.slots (ap is_recover_owed i.owed) i.steady.stands }
off_well own size x Dead i = record { quiet = i.steady.quiet; event = refl; lit = refl; served = i.steady.served; stands = stands_owed own.jobs size x.stop x.recovery x.owed Ended x.slots (ap is_recover_owed i.owed) i.steady.stands }
off_well own size x Image i = record { quiet = i.steady.quiet; event = refl; lit = refl; served = i.steady.served; stands = stands_owed own.jobs size x.stop x.recovery x.owed Ended x.slots (ap is_recover_owed i.owed) i.steady.stands }

-- of the engine

params_well : (own : Plan) (size : ℕ) (x : State) (n id : ℕ) → Rests own size x → holds x (Params n id) ≡ true → IsWell own size (effect x (Params n id))
unfolding effect after_params holds params_holds
params_well own size x n id i h =
    let heard = heard_is x n (is_params x id (due x)) h in
    let is = params_is x n id (due x) heard.0 heard.1 in
    record {
      quiet = i.steady.quiet;
      event = refl;
      lit = refl;
      served = none_moved own.jobs size id Named x.slots refl i.steady.served;
      stands = runs own.jobs size x.stop x.recovery Nothing (changed_slots (Move id Named) x.slots) (due_running x is.some);
    }

polls : (command : DueCommand) → is_poll command ≡ true → is_none_due command ≡ false
polls PollDue e = refl
polls Idle e = absurd (cc)
polls (ParamsDue tag) e = absurd (cc)
polls (AddressDue tag) e = absurd (cc)
polls (Direct tag) e = absurd (cc)
polls (Execute tag) e = absurd (cc)

poll_well : (own : Plan) (size : ℕ) (x : State) (n mask : ℕ) → Rests own size x → holds x (Poll n mask) ≡ true → IsWell own size (effect x (Poll n mask))
unfolding effect after_poll holds poll_holds
poll_well own size x n mask i h =
    let heard = heard_is x n (is_poll (due x) && (mask == polled_mask x)) h in
    let parts = and_parts (is_poll (due x)) (mask == polled_mask x) heard.1 in
    record {
      quiet = i.steady.quiet;
      event = refl;
      lit = refl;
      served = none_ready own.jobs size mask x.slots i.steady.served;
      stands = runs own.jobs size x.stop x.recovery Nothing (changed_slots (MakeReady mask) x.slots) (due_running x (polls (due x) parts.0));
    }

-- an address past the last sector stops the engine, and the task stays named

record IsAddressed (x : State) (id : ℕ) (command : DueCommand) : Type 0 where
  tag : ℕ
  due : command ≡ AddressDue tag
  same : id_on x tag ≡ id

addressed_is : (x : State) (id : ℕ) (command : DueCommand) → is_address x id command ≡ true → IsAddressed x id command
addressed_is x id (AddressDue tag) h = record { tag = tag; due = refl; same = eqb-true (id_on x tag) id h }
addressed_is x id Idle h = absurd (cc)
addressed_is x id (ParamsDue tag) h = absurd (cc)
addressed_is x id (Direct tag) h = absurd (cc)
addressed_is x id (Execute tag) h = absurd (cc)
addressed_is x id PollDue h = absurd (cc)

past_is : (own : Plan) (size : ℕ) (x : State) (id : ℕ) (inside : Bool) → IsSteady own size x → is_in_range (job_of x.plan.jobs id) (length x.base) ≡ inside → is_past own.jobs size id ≡ not inside
past_is own size x id inside i at =
    ap (λ plan. is_past plan.jobs size id) (sym i.plan) ∙ (ap (λ n. is_past x.plan.jobs n id) (sym i.sectors) ∙ ap not at)

past_named : (own : Plan) (size : ℕ) (x : State) (id : ℕ) → IsSteady own size x → is_address x id (due x) ≡ true → is_in_range (job_of x.plan.jobs id) (length x.base) ≡ false → list_any (named_past own.jobs size) x.slots ≡ true
past_named own size x id i h outside =
    let is = addressed_is x id (due x) h in
    some_at (named_past own.jobs size) x.slots refl is.tag
    (named_at own.jobs size (slot_at x.slots is.tag) (address_named x is.tag is.due) (ap (is_past own.jobs size) is.same ∙ past_is own size x id false i outside))

address_by : (own : Plan) (size : ℕ) (x : State) (n id : ℕ) (inside : Bool) → Rests own size x → is_running x.stop ≡ true → is_calm x.recovery ≡ true → is_address x id (due x) ≡ true
    → is_in_range (job_of x.plan.jobs id) (length x.base) ≡ inside → IsWell own size (over (addressed (record x { n = n }) id inside) Nothing)
address_by own size x n id true i running calm h at = record {
  quiet = i.steady.quiet;
  event = refl;
  lit = refl;
  served = none_moved own.jobs size id Sent x.slots refl i.steady.served;
  stands = runs own.jobs size x.stop x.recovery Nothing (changed_slots (Move id Sent) x.slots) running;
}
address_by own size x n id false i running calm h at = record {
  quiet = i.steady.quiet;
  event = refl;
  lit = refl;
  served = i.steady.served;
  stands = and_from (is_calm x.recovery) (list_any (named_past own.jobs size) x.slots) calm (past_named own size x id i.steady h at);
}

address_well : (own : Plan) (size : ℕ) (x : State) (n id : ℕ) → Rests own size x → Comes x (Address n id) → IsWell own size (effect x (Address n id))
unfolding effect after_address holds address_holds
address_well own size x n id i c =
    let heard = heard_is x n (is_address x id (due x)) c.held in
    let is = address_is x n id (due x) heard.0 heard.1 in
    let quiet = work_none x (host_idle x (Address n id) refl refl refl (due_to_do x is.some) c.next) in
    address_by own size x n id (is_in_range (job_of x.plan.jobs id) (length x.base)) i quiet.running quiet.calm heard.1 refl

-- a phase that is complete

record IsSame (s t : State) : Type 0 where
  faults : t.faults ≡ s.faults
  slots : t.slots ≡ s.slots
  stop : t.stop ≡ s.stop
  event : t.event ≡ s.event

blocks_same : (s : State) (job : Job) (count : ℕ) (kept : Bool) → IsSame s (after_blocks s job count kept)
unfolding after_blocks after_keep
blocks_same s job count true = record { faults = refl; slots = refl; stop = refl; event = refl }
blocks_same s job count false = record { faults = refl; slots = refl; stop = refl; event = refl }

done_well : (own : Plan) (size : ℕ) (x z : State) (n tag id : ℕ) (job : Job) (sectors : List Block) → Rests own size x → IsSame x z → is_running x.stop ≡ true → is_past own.jobs size id ≡ false
    → IsWell own size (closed_by (after_done z tag id job sectors) n Closed)
unfolding after_done
done_well own size x z n tag id job sectors i same running inside = record {
  quiet = subst IsFaultless (sym same.faults) i.steady.quiet;
  event = ap event_with (same.event ∙ i.steady.event);
  lit = refl;
  served = none_moved own.jobs size id DoneTask z.slots inside (ap (list_any (done_past own.jobs size)) same.slots ∙ i.steady.served);
  stands = runs own.jobs size z.stop z.recovery Closed (changed_slots (Move id DoneTask) z.slots) (ap is_running same.stop ∙ running);
}

broken_well : (own : Plan) (size : ℕ) (x z : State) (n id : ℕ) → Rests own size x → IsSame x z → is_running x.stop ≡ true → IsWell own size (closed_by z n (FlashOwed id))
broken_well own size x z n id i same running = record {
  quiet = subst IsFaultless (sym same.faults) i.steady.quiet;
  event = ap event_with (same.event ∙ i.steady.event);
  lit = refl;
  served = ap (list_any (done_past own.jobs size)) same.slots ∙ i.steady.served;
  stands = runs own.jobs size z.stop z.recovery (FlashOwed id) z.slots (ap is_running same.stop ∙ running);
}

-- and one that isn't, which owes a line of the flash or a cut
abbrev pub phase_end : State → ℕ → ℕ → ℕ → Bool → Job → ℕ → Bool → State
phase_end x n id count kept job tag whole =
    closed_by (done_with (after_blocks x job count kept) tag id job (read_sectors x job) (whole && true)) n (owed_by None whole n id count)

pub phase_at : (x : State) (n id count : ℕ) (kept : Bool) (job : Job) (tag : ℕ) (whole : Bool) → hit x ≡ None → is_whole x.plan.through job count kept ≡ whole
    → phase_by x job tag (hit x) n id count kept ≡ phase_end x n id count kept job tag whole
phase_at x n id count kept job tag whole none at = ap (λ kind. phase_by x job tag kind n id count kept) none ∙ ap (phase_end x n id count kept job tag) at

phase_by_well : (own : Plan) (size : ℕ) (x : State) (n id count : ℕ) (kept : Bool) (tag : ℕ) (whole : Bool) → Rests own size x → is_running x.stop ≡ true → is_past own.jobs size id ≡ false
    → IsWell own size (phase_end x n id count kept (job_of x.plan.jobs id) tag whole)
phase_by_well own size x n id count kept tag true i running inside =
    let job = job_of x.plan.jobs id in
    done_well own size x (after_blocks x job count kept) n tag id job (read_sectors x job) i (blocks_same x job count kept) running inside
phase_by_well own size x n id count kept tag false i running inside =
    let job = job_of x.plan.jobs id in
    broken_well own size x (after_blocks x job count kept) n id i (blocks_same x job count kept) running

phase_past : (own : Plan) (size : ℕ) (x : State) (id count : ℕ) (kept : Bool) (command : DueCommand) → IsSteady own size x → is_phase_of x id count kept command ≡ true → is_past own.jobs size id ≡ false
phase_past own size x id count kept (Direct tag) i h = past_is own size x id true i ((moves_say x tag id count kept ((and_parts (not (is_lost (hit x))) (moves x tag id count kept) h).1)).inside)
phase_past own size x id count kept (Execute tag) i h = past_is own size x id true i ((moves_say x tag id count kept ((and_parts (not (is_gone (hit x))) (moves x tag id count kept) h).1)).inside)
phase_past own size x id count kept Idle i h = absurd (cc)
phase_past own size x id count kept (ParamsDue tag) i h = absurd (cc)
phase_past own size x id count kept (AddressDue tag) i h = absurd (cc)
phase_past own size x id count kept PollDue i h = absurd (cc)

phases : (x : State) (id count : ℕ) (kept : Bool) (command : DueCommand) → is_phase_of x id count kept command ≡ true → is_none_due command ≡ false
phases x id count kept (Direct tag) h = refl
phases x id count kept (Execute tag) h = refl
phases x id count kept Idle h = absurd (cc)
phases x id count kept (ParamsDue tag) h = absurd (cc)
phases x id count kept (AddressDue tag) h = absurd (cc)
phases x id count kept PollDue h = absurd (cc)

phase_well : (own : Plan) (size : ℕ) (x : State) (n id count : ℕ) (kept : Bool) → Rests own size x → holds x (Phase n id count kept) ≡ true → IsWell own size (effect x (Phase n id count kept))
unfolding effect after_phase holds phase_holds
phase_well own size x n id count kept i h =
    let job = job_of x.plan.jobs id in
    let parts = and_parts (n == next_number x) (is_phase_of x id count kept (due x)) h in
    subst (IsWell own size) (sym (phase_at x n id count kept job (tag_due (due x)) (is_whole x.plan.through job count kept) (hit_none x i.steady.quiet) refl))
    (phase_by_well own size x n id count kept (tag_due (due x)) (is_whole x.plan.through job count kept) i (due_running x (phases x id count kept (due x) parts.1)) (phase_past own size x id count kept (due x) i.steady parts.1))

free_well : (own : Plan) (size : ℕ) (x : State) (item : Item) → Rests own size x → Comes x item → is_plain item ≡ true → IsWell own size (effect x item)
unfolding effect
free_well own size x (Card sectors depth lines) i c plain = absurd (false≢true (card_off x sectors depth lines i.owed c.held))
free_well own size x (Turn letter) i c plain = absurd (false≢true (turn_off x letter i.steady.quiet.turns c.held))
free_well own size x (Issue id tag) i c plain = issue_well own size x id tag i c.held
free_well own size x (Params n id) i c plain = params_well own size x n id i c.held
free_well own size x (Address n id) i c plain = address_well own size x n id i c
free_well own size x (Poll n mask) i c plain = poll_well own size x n mask i c.held
free_well own size x (Phase n id count kept) i c plain = phase_well own size x n id count kept i c.held
free_well own size x (Discard n) i c plain = discard_well own size x n i c.first
free_well own size x (Bus n kind id) i c plain = absurd (false≢true (bus_off x n kind id i.owed (hit_none x i.steady.quiet) c.held))
free_well own size x (Flash id) i c plain = absurd (false≢true plain)
free_well own size x Recover i c plain = recover_well own size x i.steady
free_well own size x (Irq mask) i c plain = irq_well own size x mask i
free_well own size x (Done id) i c plain = absurd (false≢true (done_off x id i.owed c.held))
free_well own size x (Read id) i c plain = absurd (false≢true (read_off x id i.owed c.held))
free_well own size x (Sector value) i c plain = absurd (false≢true (sector_off x value i.owed c.held))
free_well own size x (Status id word) i c plain = absurd (false≢true (status_off x id word i.owed c.held))
free_well own size x (Fault id why) i c plain = fault_well own size x id i
free_well own size x (Refused id why) i c plain = fault_well own size x id i
free_well own size x Cut i c plain = absurd (false≢true plain)
free_well own size x (Lost id) i c plain = absurd (false≢true (lost_off x id i.owed c.held))
free_well own size x On i c plain = absurd (false≢true (on_off x i.owed c.held))
free_well own size x (Left sector value) i c plain = absurd (false≢true (left_off x sector value i.owed c.held))
free_well own size x (Off end) i c plain = off_well own size x end i

-- a line that is taken

pub free_kept : (own : Plan) (size : ℕ) (x : State) (item : Item) → Rests own size x → Comes x item → is_plain item ≡ true → IsSteady own size (effect x item)
free_kept own size x item i c plain = steady_of own size x item i.steady (free_well own size x item i c plain)

pub owed_kept : (own : Plan) (size : ℕ) (s : State) (item : Item) → IsSteady own size s → is_free s.owed ≡ false → is_plain item ≡ true → is_for s.owed item ≡ true → holds s item ≡ true → IsSteady own size (effect s item)
owed_kept own size s item i owes plain for h = steady_of own size s item i (owed_well own size s s.owed item i refl owes i.lit plain for h)

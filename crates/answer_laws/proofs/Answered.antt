-- What answers, and the lines behind a stop, leave.
use Rattle.std.proofs.Common.{inl, inr, ◌≡◌, ◌∙◌, ℕ, ◌+◌, ◌≤◌, ◌==◌, Bool, true, false, cond, ◌&&◌, not, nat_lt, option_map, Option, Some, None, List, [], length, slice_set, refl, ap, sym, subst, arith}
use Rattle.std.proofs.lemmas.Bool.{and_parts, both_ways, cases_eq, eq-eqb, eqb-true, false≢true, ne_eqb, not-true, or_cases}
use Rattle.std.proofs.lemmas.List.Quantifiers.{position-Some}
use Rattle.std.proofs.lemmas.Option.{none-some, same_Some}
use Rattle.std.specs.List.{list_any}
use Rattle.answer_laws.proofs.Lines.{Leads, calm_left, free_kept, line_kept, unheld}
use Rattle.answer_laws.proofs.Settled.{left_of}
use Rattle.answer_laws.proofs.Stands.{IsKept, IsNamed, Kept, Owes, Stands, free_none, free_recover, is_bus_owed, owed_kept, stands_map, times}
use Rattle.answer_laws.proofs.Tasks.{bit, is_active, is_live, is_on, is_open, length_changed, length_held, live_answered, live_only, live_some, none_after, open_slot, pending, room_le, tasks, tasks_answered, tasks_apart, tasks_some, waits_held}
use Rattle.answer_laws.specs.Answers.{is_answer_to}
use Rattle.one_trace.proofs.Served.{number_is}
use Rattle.one_trace.proofs.Slots.{none_answered, none_held}
use Rattle.storage_machine.specs.Commands.{id_on, is_calm, is_running}
use Rattle.storage_machine.specs.Host.{is_fault_of, is_stopped, named_times}
use Rattle.storage_machine.specs.Slots.{asks, asks_of, changed, changed_slots, has, id_of, slot_at, tag_of}
use Rattle.storage_machine.specs.declared.slots.Change.TheVariants.{Hold, Answer}
use Rattle.storage_machine.specs.declared.slots.Question.TheVariants.{Done as IsDone, Collected as IsCollected}
use Rattle.storage_machine.specs.declared.state.Owed.{Owed}
use Rattle.storage_machine.specs.declared.state.Owed.TheVariants.{Card as CardOwed, Nothing, Closed, Answers, Sectors, Recover as RecoverOwed, Dark, Left as LeftOwed, End as Ended}
use Rattle.storage_machine.specs.declared.state.Recovery.{Recovery}
use Rattle.storage_machine.specs.declared.state.Recovery.TheVariants.{Halted}
use Rattle.storage_machine.specs.declared.state.Standing.{Standing}
use Rattle.storage_machine.specs.declared.state.Standing.TheVariants.{Collected}
use Rattle.storage_machine.specs.declared.state.State.{State}
use Rattle.storage_machine.specs.declared.state.Stop.{Stop}
use Rattle.storage_machine.specs.declared.state.Stop.TheVariants.{Bus as BusStop, Flash as FlashStop, Range, Align}
use Rattle.storage_machine.specs.declared.state.Task.{Task}
use Rattle.storage_model.specs.declared.block.Block.{Block}
use Rattle.storage_model.specs.declared.plan.Job.{Job}
use Rattle.storage_model.specs.declared.trace.End.{End}
use Rattle.storage_model.specs.declared.trace.End.TheVariants.{Good, Fault as FaultEnd, Dead, Image}
use Rattle.storage_model.specs.declared.trace.Item.{Item}
use Rattle.storage_model.specs.declared.trace.Item.TheVariants.{Card, Recover, Done, Read, Sector, Status, Fault, Refused, Off}
use Rattle.storage_model.specs.declared.trace.Limit.{Limit}
use Rattle.storage_model.specs.declared.trace.Limit.TheVariants.{Range as ByRange, Align as ByAlign}
use Rattle.storage_model.specs.declared.trace.Why.{Why}
use Rattle.storage_model.specs.declared.trace.Why.TheVariants.{Bus as ByBus, Flash as ByFlash}
use Rattle.trace_effects.specs.Effects.{after_answer, after_fault, after_off, after_read, after_recover, after_sector, answers_left, effect, over, sectors_from, shown_on, waiting_with}
use Rattle.trace_effects.specs.Phases.{after_keep}
use Rattle.trace_rules.specs.Lines.{card_holds, data_on, done_holds, fault_holds, holds, is_answers, is_answer_of, is_card_owed, is_fault, is_for, is_free, is_number, is_recover_owed, is_refusal, read_holds, recover_holds, refused_holds, sector_by_owed, sector_holds, status_holds}

-- the task that is answered is collected
pub record IsAnswer (x : State) (id : ℕ) : Type 0 where
  pub tag : ℕ
  pub found : tag_of IsCollected x.slots ≡ Some tag
  pub asked : asks IsCollected (slot_at x.slots tag) ≡ true
  pub same : id_of (slot_at x.slots tag) ≡ id
  pub owed : is_answers x.owed ≡ true

answer_at : (x : State) (id : ℕ) (tag : Option ℕ) → tag_of IsCollected x.slots ≡ tag → is_answers x.owed ≡ true → option_map (λ tag. id_on x tag) tag ≡ Some id → IsAnswer x id
answer_at x id None at owed e = absurd (none-some id e)
answer_at x id (Some tag) at owed e =
    record { tag = tag; found = at; asked = (position-Some (asks IsCollected) x.slots tag None at).1; same = same_Some (id_on x tag) id e; owed = owed }

pub answer_is : (x : State) (id : ℕ) → is_answer_of x id ≡ true → IsAnswer x id
answer_is x id h =
    let parts = and_parts (is_answers x.owed) (is_number id (option_map (λ tag. id_on x tag) (tag_of IsCollected x.slots))) h in
    answer_at x id (tag_of IsCollected x.slots) refl parts.0 (number_is id (option_map (λ tag. id_on x tag) (tag_of IsCollected x.slots)) parts.1)

collected_own : (slot : Option Task) → asks IsCollected slot ≡ true → is_on (id_of slot) slot ≡ true
collected_own None e = absurd (cc)
collected_own (Some task) e = eq-eqb task.id task.id refl

pub answer_on : (x : State) (id : ℕ) → (at : IsAnswer x id) → is_on id (slot_at x.slots at.tag) ≡ true
answer_on x id at = ap (λ j. is_on j (slot_at x.slots at.tag)) (sym at.same) ∙ collected_own (slot_at x.slots at.tag) at.asked

shut_of : (standing : Standing) → asks_of IsCollected standing ≡ true → is_open standing ≡ false
shut_of Collected e = refl
shut_of standing e = absurd (cc)

pub collected_shut : (slot : Option Task) → asks IsCollected slot ≡ true → open_slot slot ≡ false
collected_shut None e = absurd (cc)
collected_shut (Some task) e = shut_of task.standing e

answers_calm : (slots : List (Option Task)) (stop : Stop) (recovery : Recovery) (owed : Owed) → is_answers owed ≡ true → Owes slots stop recovery owed → is_calm recovery ≡ true
answers_calm slots stop recovery Answers e owes = owes
answers_calm slots stop recovery owed e owes = absurd (cc)

pub answers_recover : (owed : Owed) → is_answers owed ≡ true → is_recover_owed owed ≡ false
answers_recover Answers e = refl
answers_recover owed e = absurd (cc)

pub answer_calm : (jobs : List Job) (size : ℕ) (x : State) (id : ℕ) → Kept jobs size x → IsAnswer x id → is_calm x.recovery ≡ true
answer_calm jobs size x id i at = answers_calm x.slots x.stop x.recovery x.owed at.owed i.owes

pub few_tasks : (jobs : List Job) (size : ℕ) (x : State) (id : ℕ) → Kept jobs size x → is_calm x.recovery ≡ true → tasks id x.slots ≤ 1
few_tasks jobs size x id i calm = omega (arith, calm_left id x.waiting x.recovery x.slots calm, i.fits id, room_le (length jobs) id)

-- an answer takes the request away
remove_law : (jobs : List Job) (size : ℕ) (x : State) (id : ℕ) → Kept jobs size x → is_calm x.recovery ≡ true → 1 ≤ tasks id x.slots → (other : ℕ)
    → pending other x.waiting x.recovery (changed_slots (Answer id) x.slots) + bit (id == other) ≡ pending other x.waiting x.recovery x.slots
remove_law jobs size x id i calm some other =
    let slots = changed_slots (Answer id) x.slots in
    let after = calm_left other x.waiting x.recovery slots calm in
    let before = calm_left other x.waiting x.recovery x.slots calm in
    elim (cases_eq id other) [
      | inl same ↦
          let none : tasks other slots ≡ 0 = subst (λ j. tasks j slots ≡ 0) same (tasks_answered id x.slots) in
          let own : 1 ≤ tasks other x.slots = subst (λ j. 1 ≤ tasks j x.slots) same some in
          omega (arith, after, before, none, own, i.fits other, room_le (length jobs) other, ap bit (eq-eqb id other same))
      | inr apart ↦ omega (arith, after, before, tasks_apart other id x.slots (ne_eqb id other apart), ap bit (ne_eqb id other apart))
    ]

-- a stop names another request
pub answer_apart : (jobs : List Job) (size : ℕ) (x : State) (id named : ℕ) → Kept jobs size x → IsAnswer x id → list_any (is_live named) x.slots ≡ true → id ≡ named → false ≡ true
answer_apart jobs size x id named i at live same =
    let calm = answer_calm jobs size x id i at in
    sym (collected_shut (slot_at x.slots at.tag) at.asked)
    ∙ live_only named x.slots at.tag (few_tasks jobs size x named i calm) live (subst (λ j. is_on j (slot_at x.slots at.tag) ≡ true) same (answer_on x id at))

answer_named : (jobs : List Job) (size : ℕ) (x : State) (id : ℕ) (other : Owed) → Kept jobs size x → IsAnswer x id → is_recover_owed other ≡ false → (named : ℕ) → IsNamed named x.waiting x.slots x.recovery x.owed
    → IsNamed named x.waiting (changed_slots (Answer id) x.slots) x.recovery other
answer_named jobs size x id other i at off named is =
    let live = is.live (answers_recover x.owed at.owed) in
    record {
      calm = is.calm;
      answered = λ e. absurd (both_ways (is_recover_owed other) off e);
      live = λ e. live_answered named id x.slots (ne_eqb id named (λ same. absurd (false≢true (answer_apart jobs size x id named i at live same)))) live;
    }

answer_kept : (jobs : List Job) (size : ℕ) (x : State) (id : ℕ) (other : Owed) → Kept jobs size x → IsAnswer x id → is_recover_owed other ≡ false → Owes (changed_slots (Answer id) x.slots) x.stop x.recovery other
    → IsKept jobs size x.waiting x.named (changed_slots (Answer id) x.slots) x.stop x.recovery other
answer_kept jobs size x id other i at off owes =
    let slots = changed_slots (Answer id) x.slots in
    let calm = answer_calm jobs size x id i at in
    line_kept jobs size x.waiting x.waiting x.named x.slots slots x.stop x.recovery x.recovery x.owed other (Done id) i
    (remove_law jobs size x id i calm (tasks_some id x.slots at.tag (answer_on x id at))) refl (length_changed (Answer id) x.slots) (unheld x.recovery slots calm) (none_answered jobs size id x.slots i.served) owes
    (stands_map jobs size x.waiting x.waiting x.slots slots x.recovery x.recovery x.owed other x.stop (answer_named jobs size x id other i at off) i.stands)

left_owes : (slots : List (Option Task)) (stop : Stop) (recovery : Recovery) (b : Bool) → has IsCollected slots ≡ b → is_calm recovery ≡ true → Owes slots stop recovery (cond b Answers Nothing)
left_owes slots stop recovery true at calm = calm
left_owes slots stop recovery false at calm = at

left_off : (b : Bool) → is_recover_owed (cond b Answers Nothing) ≡ false
left_off true = refl
left_off false = refl

left_bus : (b : Bool) → is_bus_owed (cond b Answers Nothing) ≡ false
left_bus true = refl
left_bus false = refl

read_bus : (tag : Option ℕ) → is_bus_owed (sectors_from tag) ≡ false
read_bus None = refl
read_bus (Some tag) = refl

answer_done : (jobs : List Job) (size : ℕ) (x : State) (id : ℕ) → Kept jobs size x → IsAnswer x id → Kept jobs size (after_answer x id)
unfolding after_answer
answer_done jobs size x id i at =
    let slots = changed_slots (Answer id) x.slots in
    answer_kept jobs size x id (answers_left slots) i at (left_off (has IsCollected slots)) (left_owes slots x.stop x.recovery (has IsCollected slots) refl (answer_calm jobs size x id i at))

read_owes : (x : State) (slots : List (Option Task)) (stop : Stop) (recovery : Recovery) (tag : Option ℕ) (own : ℕ) → tag ≡ Some own → is_calm recovery ≡ true → Owes slots stop recovery (sectors_from tag)
read_owes x slots stop recovery None own at calm = absurd (none-some own at)
read_owes x slots stop recovery (Some tag) own at calm = calm

read_off : (tag : Option ℕ) → is_recover_owed (sectors_from tag) ≡ false
read_off None = refl
read_off (Some tag) = refl

answer_read : (jobs : List Job) (size : ℕ) (x : State) (id : ℕ) → Kept jobs size x → IsAnswer x id → Kept jobs size (after_read x id)
unfolding after_read
answer_read jobs size x id i at =
    answer_kept jobs size x id (sectors_from (tag_of IsCollected x.slots)) i at (read_off (tag_of IsCollected x.slots))
    (read_owes x (changed_slots (Answer id) x.slots) x.stop x.recovery (tag_of IsCollected x.slots) at.tag at.found (answer_calm jobs size x id i at))

answer_law : (jobs : List Job) (size : ℕ) (x : State) (id : ℕ) → Kept jobs size x → IsAnswer x id → (other : ℕ) → left_of other (after_answer x id) + bit (id == other) ≡ left_of other x
unfolding after_answer
answer_law jobs size x id i at other = remove_law jobs size x id i (answer_calm jobs size x id i at) (tasks_some id x.slots at.tag (answer_on x id at)) other

read_law : (jobs : List Job) (size : ℕ) (x : State) (id : ℕ) → Kept jobs size x → IsAnswer x id → (other : ℕ) → left_of other (after_read x id) + bit (id == other) ≡ left_of other x
unfolding after_read
read_law jobs size x id i at other = remove_law jobs size x id i (answer_calm jobs size x id i at) (tasks_some id x.slots at.tag (answer_on x id at)) other

pub done_answer : (x : State) (id : ℕ) → holds x (Done id) ≡ true → IsAnswer x id
unfolding holds done_holds
done_answer x id h = answer_is x id ((and_parts (is_answer_of x id) _ h).0)

pub read_answer : (x : State) (id : ℕ) → holds x (Read id) ≡ true → IsAnswer x id
unfolding holds read_holds
read_answer x id h = answer_is x id ((and_parts (is_answer_of x id) _ h).0)

pub status_answer : (x : State) (id word : ℕ) → holds x (Status id word) ≡ true → IsAnswer x id
unfolding holds status_holds
status_answer x id word h = answer_is x id ((and_parts (is_answer_of x id) _ h).0)

pub done_leads : (jobs : List Job) (size : ℕ) (x : State) (id : ℕ) → Kept jobs size x → holds x (Done id) ≡ true → Leads jobs size x (effect x (Done id)) (Done id)
unfolding effect after_answer
done_leads jobs size x id i h = let at = done_answer x id h in record { kept = answer_done jobs size x id i at; law = answer_law jobs size x id i at; named = λ e. refl; faults = refl; quiet = λ e. left_bus (has IsCollected (changed_slots (Answer id) x.slots)) }

pub read_leads : (jobs : List Job) (size : ℕ) (x : State) (id : ℕ) → Kept jobs size x → holds x (Read id) ≡ true → Leads jobs size x (effect x (Read id)) (Read id)
unfolding effect after_read
read_leads jobs size x id i h = let at = read_answer x id h in record { kept = answer_read jobs size x id i at; law = read_law jobs size x id i at; named = λ e. refl; faults = refl; quiet = λ e. read_bus (tag_of IsCollected x.slots) }

pub status_leads : (jobs : List Job) (size : ℕ) (x : State) (id word : ℕ) → Kept jobs size x → holds x (Status id word) ≡ true → Leads jobs size x (effect x (Status id word)) (Status id word)
unfolding effect after_answer
status_leads jobs size x id word i h = let at = status_answer x id word h in record { kept = answer_done jobs size x id i at; law = answer_law jobs size x id i at; named = λ e. refl; faults = refl; quiet = λ e. left_bus (has IsCollected (changed_slots (Answer id) x.slots)) }

-- the sectors of a read

leads_either : (jobs : List Job) (size : ℕ) (b : Bool) (x s t : State) (item : Item) → Leads jobs size x s item → Leads jobs size x t item → Leads jobs size x (cond b s t) item
leads_either jobs size true x s t item left right = left
leads_either jobs size false x s t item left right = right

sector_at : (jobs : List Job) (size : ℕ) (x : State) (value : Block) (owed : Owed) → x.owed ≡ owed → Kept jobs size x → sector_by_owed x value owed ≡ true → Leads jobs size x (shown_on x owed) (Sector value)
sector_at jobs size x value (Sectors tag k) at i h =
    let calm : is_calm x.recovery ≡ true = subst (Owes x.slots x.stop x.recovery) at i.owes in
    let off = ap is_recover_owed at in
    let more = owed_kept jobs size x.waiting x.named x.slots x.stop x.recovery x.owed (Sectors tag (k + 1)) off refl calm i in
    let last = owed_kept jobs size x.waiting x.named x.slots x.stop x.recovery x.owed (answers_left x.slots) off (left_off (has IsCollected x.slots)) (left_owes x.slots x.stop x.recovery (has IsCollected x.slots) refl calm) i in
    leads_either jobs size (nat_lt (k + 1) (length (data_on x tag))) x (over x (Sectors tag (k + 1))) (over (record x { «data» = slice_set x.data tag [] }) (answers_left x.slots)) (Sector value)
    (record { kept = more; law = λ other. omega arith; named = λ e. refl; faults = refl; quiet = λ e. refl }) (record { kept = last; law = λ other. omega arith; named = λ e. refl; faults = refl; quiet = λ e. left_bus (has IsCollected x.slots) })
sector_at jobs size x value owed at i h = absurd (cc)

pub sector_leads : (jobs : List Job) (size : ℕ) (x : State) (value : Block) → Kept jobs size x → holds x (Sector value) ≡ true → Leads jobs size x (effect x (Sector value)) (Sector value)
unfolding effect after_sector holds sector_holds
sector_leads jobs size x value i h = sector_at jobs size x value x.owed refl i h

-- the first line and the last

card_at : (owed : Owed) (slots : List (Option Task)) (stop : Stop) (recovery : Recovery) → is_card_owed owed ≡ true → Owes slots stop recovery owed → (is_recover_owed owed ≡ false) × (has IsCollected slots ≡ false)
card_at CardOwed slots stop recovery e owes = (refl, owes)
card_at owed slots stop recovery e owes = absurd (cc)

pub card_leads : (jobs : List Job) (size : ℕ) (x : State) (sectors depth : ℕ) (lines : Option ℕ) → Kept jobs size x → holds x (Card sectors depth lines) ≡ true → Leads jobs size x (effect x (Card sectors depth lines)) (Card sectors depth lines)
unfolding effect holds card_holds
card_leads jobs size x sectors depth lines i h =
    let at = card_at x.owed x.slots x.stop x.recovery ((and_parts (is_card_owed x.owed) _ h).0) i.owes in
    record { kept = owed_kept jobs size x.waiting x.named x.slots x.stop x.recovery x.owed Nothing at.0 refl at.1 i; law = λ other. omega arith; named = λ e. refl; faults = refl; quiet = λ e. refl }

off_at : (owed : Owed) (end : End) (slots : List (Option Task)) (stop : Stop) (recovery : Recovery) → is_for owed (Off end) ≡ true → Owes slots stop recovery owed → is_free owed ≡ true
off_at Nothing end slots stop recovery e owes = refl
off_at Closed end slots stop recovery e owes = refl
off_at (Dark cuts) end slots stop recovery e owes = absurd (false≢true owes)
off_at (LeftOwed from) end slots stop recovery e owes = absurd (false≢true owes)
off_at owed end slots stop recovery e owes = absurd (cc)

off_end : (jobs : List Job) (size : ℕ) (x : State) (end : End) → Kept jobs size x → is_free x.owed ≡ true → Leads jobs size x (after_off x end) (Off end)
unfolding after_off after_keep
off_end jobs size x Good i free = record { kept = free_kept jobs size x Ended free refl (free_none x.slots x.stop x.recovery x.owed free i.owes) i; law = λ other. omega arith; named = λ e. refl; faults = refl; quiet = λ e. refl }
off_end jobs size x FaultEnd i free = record { kept = free_kept jobs size x Ended free refl (free_none x.slots x.stop x.recovery x.owed free i.owes) i; law = λ other. omega arith; named = λ e. refl; faults = refl; quiet = λ e. refl }
off_end jobs size x Dead i free = record { kept = free_kept jobs size x Ended free refl (free_none x.slots x.stop x.recovery x.owed free i.owes) i; law = λ other. omega arith; named = λ e. refl; faults = refl; quiet = λ e. refl }
off_end jobs size x Image i free = record { kept = free_kept jobs size x Ended free refl (free_none x.slots x.stop x.recovery x.owed free i.owes) i; law = λ other. omega arith; named = λ e. refl; faults = refl; quiet = λ e. refl }

pub off_leads : (jobs : List Job) (size : ℕ) (x : State) (end : End) → Kept jobs size x → is_for x.owed (Off end) ≡ true → Leads jobs size x (effect x (Off end)) (Off end)
unfolding effect
off_leads jobs size x end i for = off_end jobs size x end i (off_at x.owed end x.slots x.stop x.recovery for i.owes)

-- behind a stop

stopped_calm : (x : State) → is_stopped x ≡ true → is_calm x.recovery ≡ true
stopped_calm x h = (and_parts (is_calm x.recovery) (not (has IsDone x.slots)) ((and_parts (not (is_running x.stop)) (is_calm x.recovery && not (has IsDone x.slots)) h).1)).0

recover_calm_at : (slots : List (Option Task)) (stop : Stop) (recovery : Recovery) (owed : Owed) → is_recover_owed owed ≡ true → Owes slots stop recovery owed → is_calm recovery ≡ true
recover_calm_at slots stop recovery RecoverOwed e owes = owes
recover_calm_at slots stop recovery owed e owes = absurd (cc)

record IsRecover (x : State) : Type 0 where
  calm : is_calm x.recovery ≡ true
  answered : (id : ℕ) → left_of id x ≡ 1 → 4 ≤ times x.named id → x.stop ≡ BusStop (Some id) → false ≡ true

owed_recover : (jobs : List Job) (size : ℕ) (x : State) → Kept jobs size x → is_recover_owed x.owed ≡ true → IsRecover x
owed_recover jobs size x i owed = record {
  calm = recover_calm_at x.slots x.stop x.recovery x.owed owed i.owes;
  answered = λ id one four at.
      let named : IsNamed id x.waiting x.slots x.recovery x.owed = subst (Stands jobs size x.waiting x.slots x.recovery x.owed) at i.stands in
      absurd (omega (arith, one, named.answered owed));
}

four_is : (x : State) (id : ℕ) → 4 ≤ times x.named id → times x.named id ≤ 4 → (times x.named id == 4) ≡ true
four_is x id low high = eq-eqb (times x.named id) 4 (omega arith)

stop_recover : (jobs : List Job) (size : ℕ) (x : State) → Kept jobs size x → (is_stopped x && not (is_fault_of x x.stop)) ≡ true → IsRecover x
stop_recover jobs size x i h =
    let parts = and_parts (is_stopped x) (not (is_fault_of x x.stop)) h in
    record {
      calm = stopped_calm x parts.0;
      answered = λ id one four at. sym (ap (is_fault_of x) (sym at) ∙ not-true (is_fault_of x x.stop) parts.1) ∙ four_is x id four (i.most id);
    }

recover_is : (jobs : List Job) (size : ℕ) (x : State) → Kept jobs size x → holds x Recover ≡ true → IsRecover x
unfolding holds recover_holds
recover_is jobs size x i h =
    elim (or_cases (is_recover_owed x.owed) (is_stopped x && not (is_fault_of x x.stop)) h) [
      | inl owed ↦ owed_recover jobs size x i owed
      | inr stopped ↦ stop_recover jobs size x i stopped
    ]

hold_active : (tag : ℕ) (slot : Option Task) → is_active (changed Hold tag slot) ≡ false
hold_active tag None = refl
hold_active tag (Some task) = refl

hold_collected : (tag : ℕ) (slot : Option Task) → asks IsCollected (changed Hold tag slot) ≡ false
hold_collected tag None = refl
hold_collected tag (Some task) = refl

pub recover_leads : (jobs : List Job) (size : ℕ) (x : State) → Kept jobs size x → holds x Recover ≡ true → Leads jobs size x (effect x Recover) Recover
unfolding effect after_recover
recover_leads jobs size x i h =
    let at = recover_is jobs size x i h in
    let after = waiting_with x.waiting x.slots in
    let slots = changed_slots Hold x.slots in
    let same = waits_held (length jobs) x.slots x.waiting i.long (λ id. omega (arith, i.fits id, calm_left id x.waiting x.recovery x.slots at.calm)) in
    let law : (id : ℕ) → pending id after Halted slots ≡ pending id x.waiting x.recovery x.slots = λ id. omega (arith, same id, calm_left id x.waiting x.recovery x.slots at.calm) in
    record {
      kept = record {
        long = length_held x.slots x.waiting ∙ i.long;
        names = i.names;
        tags = length_changed Hold x.slots ∙ i.tags;
        fits = λ id. omega (arith, law id, i.fits id);
        held = λ e. none_after is_active Hold hold_active x.slots;
        served = none_held jobs size x.slots i.served;
        owes = none_after (asks IsCollected) Hold hold_collected x.slots;
        stands = refl;
        most = i.most;
        fourth = λ id one four. absurd (false≢true (at.answered id (sym (law id) ∙ one) four (i.fourth id (sym (law id) ∙ one) four)));
      };
      law = λ id. omega (arith, law id);
      named = λ e. refl;
      faults = refl;
      quiet = λ e. refl;
    }

-- the stop gives an answer to the request that it names

abbrev names : Stop → ℕ → Bool
names (BusStop (Some named)) id = id == named
names (Range named) id = id == named
names stop id = false

fault_names : (jobs : List Job) (size : ℕ) (x : State) (id : ℕ) (why : Why) (stop : Stop) → Stands jobs size x.waiting x.slots x.recovery x.owed stop → is_fault x id why stop ≡ true → names stop id ≡ true
fault_names jobs size x id ByBus (BusStop (Some named)) stands h = (and_parts (id == named) (named_times x named == 4) h).0
fault_names jobs size x id ByFlash (FlashStop named) stands h = absurd (false≢true stands)
fault_names jobs size x id ByBus stop stands h = absurd (cc)
fault_names jobs size x id ByFlash stop stands h = absurd (cc)

refusal_names : (jobs : List Job) (size : ℕ) (x : State) (id : ℕ) (limit : Limit) (stop : Stop) → Stands jobs size x.waiting x.slots x.recovery x.owed stop → is_refusal id limit stop ≡ true → names stop id ≡ true
refusal_names jobs size x id ByRange (Range named) stands h = h
refusal_names jobs size x id ByAlign (Align named) stands h = absurd (false≢true stands)
refusal_names jobs size x id ByRange stop stands h = absurd (cc)
refusal_names jobs size x id ByAlign stop stands h = absurd (cc)

named_is : (jobs : List Job) (size : ℕ) (x : State) (id : ℕ) (stop : Stop) → Stands jobs size x.waiting x.slots x.recovery x.owed stop → names stop id ≡ true → IsNamed id x.waiting x.slots x.recovery x.owed
named_is jobs size x id (BusStop (Some named)) stands h = subst (λ j. IsNamed j x.waiting x.slots x.recovery x.owed) (sym (eqb-true id named h)) stands
named_is jobs size x id (Range named) stands h = subst (λ j. IsNamed j x.waiting x.slots x.recovery x.owed) (sym (eqb-true id named h)) stands.0
named_is jobs size x id stop stands h = absurd (cc)

answered_named : (x : State) (id named : ℕ) (slots : List (Option Task)) → id ≡ named → is_calm x.recovery ≡ true → pending id x.waiting x.recovery slots ≡ 0 → IsNamed named x.waiting slots x.recovery RecoverOwed
answered_named x id named slots same calm none =
    record { calm = calm; answered = λ e. subst (λ j. pending j x.waiting x.recovery slots ≡ 0) same none; live = λ e. absurd (false≢true (sym e)) }

answered_stands : (jobs : List Job) (size : ℕ) (x : State) (id : ℕ) (slots : List (Option Task)) (stop : Stop) → names stop id ≡ true → is_calm x.recovery ≡ true → pending id x.waiting x.recovery slots ≡ 0
    → Stands jobs size x.waiting x.slots x.recovery x.owed stop → Stands jobs size x.waiting slots x.recovery RecoverOwed stop
answered_stands jobs size x id slots (BusStop (Some named)) h calm none stands = answered_named x id named slots (eqb-true id named h) calm none
answered_stands jobs size x id slots (Range named) h calm none stands = (answered_named x id named slots (eqb-true id named h) calm none, stands.1)
answered_stands jobs size x id slots stop h calm none stands = absurd (cc)

pub record IsStopped (x : State) (id : ℕ) : Type 0 where
  pub calm : is_calm x.recovery ≡ true
  pub live : list_any (is_live id) x.slots ≡ true

stop_is : (jobs : List Job) (size : ℕ) (x : State) (id : ℕ) → Kept jobs size x → is_free x.owed ≡ true → is_stopped x ≡ true → names x.stop id ≡ true → IsStopped x id
stop_is jobs size x id i free stopped at = record { calm = stopped_calm x stopped; live = (named_is jobs size x id x.stop i.stands at).live (free_recover x.owed free) }

-- whichever line it is
stop_leads : (jobs : List Job) (size : ℕ) (x : State) (id : ℕ) (item : Item) → Kept jobs size x → IsStopped x id → names x.stop id ≡ true → ((other : ℕ) → is_answer_to other item ≡ (id == other)) → Leads jobs size x (after_fault x id) item
unfolding after_fault
stop_leads jobs size x id item i at named same =
    let slots = changed_slots (Answer id) x.slots in
    let some = live_some id x.slots at.live in
    let remove = remove_law jobs size x id i at.calm some in
    let law : (other : ℕ) → pending other x.waiting x.recovery slots + bit (is_answer_to other item) ≡ pending other x.waiting x.recovery x.slots = λ other. omega (arith, remove other, ap bit (same other)) in
    let none : pending id x.waiting x.recovery slots ≡ 0 = omega (arith, remove id, ap bit (eq-eqb id id refl), i.fits id, room_le (length jobs) id) in
    record {
      kept = line_kept jobs size x.waiting x.waiting x.named x.slots slots x.stop x.recovery x.recovery x.owed RecoverOwed item i law refl (length_changed (Answer id) x.slots) (unheld x.recovery slots at.calm)
          (none_answered jobs size id x.slots i.served) at.calm (answered_stands jobs size x id slots x.stop named at.calm none i.stands);
      law = law;
      named = λ e. refl;
      faults = refl;
      quiet = λ e. refl;
    }

pub fault_stopped : (jobs : List Job) (size : ℕ) (x : State) (id : ℕ) (why : Why) → Kept jobs size x → is_free x.owed ≡ true → holds x (Fault id why) ≡ true → IsStopped x id
unfolding holds fault_holds
fault_stopped jobs size x id why i free h =
    let parts = and_parts (is_stopped x) (is_fault x id why x.stop) h in
    stop_is jobs size x id i free parts.0 (fault_names jobs size x id why x.stop i.stands parts.1)

pub refused_stopped : (jobs : List Job) (size : ℕ) (x : State) (id : ℕ) (limit : Limit) → Kept jobs size x → is_free x.owed ≡ true → holds x (Refused id limit) ≡ true → IsStopped x id
unfolding holds refused_holds
refused_stopped jobs size x id limit i free h =
    let parts = and_parts (is_stopped x) (is_refusal id limit x.stop) h in
    stop_is jobs size x id i free parts.0 (refusal_names jobs size x id limit x.stop i.stands parts.1)

pub fault_leads : (jobs : List Job) (size : ℕ) (x : State) (id : ℕ) (why : Why) → Kept jobs size x → is_free x.owed ≡ true → holds x (Fault id why) ≡ true → Leads jobs size x (effect x (Fault id why)) (Fault id why)
unfolding effect holds fault_holds
fault_leads jobs size x id why i free h =
    let parts = and_parts (is_stopped x) (is_fault x id why x.stop) h in
    let named = fault_names jobs size x id why x.stop i.stands parts.1 in
    stop_leads jobs size x id (Fault id why) i (stop_is jobs size x id i free parts.0 named) named (λ other. refl)

pub refused_leads : (jobs : List Job) (size : ℕ) (x : State) (id : ℕ) (limit : Limit) → Kept jobs size x → is_free x.owed ≡ true → holds x (Refused id limit) ≡ true → Leads jobs size x (effect x (Refused id limit)) (Refused id limit)
unfolding effect holds refused_holds
refused_leads jobs size x id limit i free h =
    let parts = and_parts (is_stopped x) (is_refusal id limit x.stop) h in
    let named = refusal_names jobs size x id limit x.stop i.stands parts.1 in
    stop_leads jobs size x id (Refused id limit) i (stop_is jobs size x id i free parts.0 named) named (λ other. refl)

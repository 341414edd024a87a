-- What is so of each state that is reached.
use Rattle.std.proofs.Common.{not, ◌≡◌, ◌∙◌, ℕ, ◌+◌, ◌-◌, ◌≤◌, Bool, true, false, cond, Option, Some, None, List, length, slice_index_or, refl, ap, sym, arith}
use Rattle.std.proofs.lemmas.Bool.{both_ways, false_from_ne_true}
use Rattle.std.specs.List.{list_any}
use Rattle.answer_laws.proofs.Tasks.{is_active, is_held, is_live, pending, room, tasks, tasks_none, waits}
use Rattle.one_trace.proofs.Slots.{any_if, done_past, is_past, none_left}
use Rattle.storage_machine.specs.Commands.{is_calm, is_running}
use Rattle.storage_machine.specs.Slots.{asks, asks_of, has, no_tasks}
use Rattle.storage_machine.specs.declared.slots.Question.TheVariants.{Collected as IsCollected}
use Rattle.storage_machine.specs.declared.state.Owed.{Owed}
use Rattle.storage_machine.specs.declared.state.Owed.TheVariants.{Card as CardOwed, Nothing, Closed, Bus as BusOwed, Flash as FlashOwed, Answers, Sectors, Recover as RecoverOwed, Dark, Left as LeftOwed, End as Ended}
use Rattle.storage_machine.specs.declared.state.Recovery.{Recovery}
use Rattle.storage_machine.specs.declared.state.Standing.{Standing}
use Rattle.storage_machine.specs.declared.state.Standing.TheVariants.{Collected}
use Rattle.storage_machine.specs.declared.state.State.{State}
use Rattle.storage_machine.specs.declared.state.Stop.{Stop}
use Rattle.storage_machine.specs.declared.state.Stop.TheVariants.{Running, Bus as BusStop, Flash as FlashStop, Range, Align}
use Rattle.storage_machine.specs.declared.state.Task.{Task}
use Rattle.storage_model.specs.declared.plan.Job.{Job}
use Rattle.storage_order.specs.Events.{closed}
use Rattle.trace_rules.specs.Lines.{is_free, is_recover_owed}

-- how many bus faults named it
abbrev pub times : List ℕ → ℕ → ℕ
times named id = slice_index_or named (id - 1) 0

-- a stop names a request whose task the engine has, up to its answer
pub record IsNamed (id : ℕ) (waiting : List Bool) (slots : List (Option Task)) (recovery : Recovery) (owed : Owed) : Type 0 where
  pub calm : is_calm recovery ≡ true
  pub answered : is_recover_owed owed ≡ true → pending id waiting recovery slots ≡ 0
  pub live : is_recover_owed owed ≡ false → list_any (is_live id) slots ≡ true

abbrev pub Stands : List Job → ℕ → List Bool → List (Option Task) → Recovery → Owed → Stop → Type 0
Stands jobs size waiting slots recovery owed Running = true ≡ true
Stands jobs size waiting slots recovery owed (BusStop None) = true ≡ true
Stands jobs size waiting slots recovery owed (BusStop (Some id)) = IsNamed id waiting slots recovery owed
Stands jobs size waiting slots recovery owed (FlashStop id) = false ≡ true
Stands jobs size waiting slots recovery owed (Range id) = IsNamed id waiting slots recovery owed × (is_past jobs size id ≡ true)
Stands jobs size waiting slots recovery owed (Align id) = false ≡ true

-- what is owed, and where
pub record IsBusOwed (id : ℕ) (slots : List (Option Task)) (stop : Stop) (recovery : Recovery) : Type 0 where
  pub calm : is_calm recovery ≡ true
  pub running : is_running stop ≡ true
  pub live : list_any (is_live id) slots ≡ true
  pub none : has IsCollected slots ≡ false

abbrev pub Owes : List (Option Task) → Stop → Recovery → Owed → Type 0
Owes slots stop recovery CardOwed = has IsCollected slots ≡ false
Owes slots stop recovery Nothing = has IsCollected slots ≡ false
Owes slots stop recovery Closed = has IsCollected slots ≡ false
Owes slots stop recovery Ended = has IsCollected slots ≡ false
Owes slots stop recovery (BusOwed n id kind) = IsBusOwed id slots stop recovery
Owes slots stop recovery (FlashOwed id) = has IsCollected slots ≡ false
Owes slots stop recovery Answers = is_calm recovery ≡ true
Owes slots stop recovery (Sectors tag k) = is_calm recovery ≡ true
Owes slots stop recovery RecoverOwed = is_calm recovery ≡ true
Owes slots stop recovery (Dark cuts) = false ≡ true
Owes slots stop recovery (LeftOwed from) = false ≡ true

-- a bus fault's line is owed
abbrev pub is_bus_owed : Owed → Bool
is_bus_owed (BusOwed n id kind) = true
is_bus_owed owed = false

pub record IsKept (jobs : List Job) (size : ℕ) (waiting : List Bool) (named : List ℕ) (slots : List (Option Task)) (stop : Stop) (recovery : Recovery) (owed : Owed) : Type 0 where
  pub long : length waiting ≡ length jobs
  pub names : length named ≡ length jobs
  pub tags : length slots ≡ 32
  pub fits : (id : ℕ) → pending id waiting recovery slots ≤ room (length jobs) id
  pub held : is_calm recovery ≡ false → list_any is_active slots ≡ false
  pub served : list_any (done_past jobs size) slots ≡ false
  pub owes : Owes slots stop recovery owed
  pub stands : Stands jobs size waiting slots recovery owed stop
  pub most : (id : ℕ) → times named id ≤ 4
  pub fourth : (id : ℕ) → pending id waiting recovery slots ≡ 1 → 4 ≤ times named id → stop ≡ BusStop (Some id)

abbrev pub Kept : List Job → ℕ → State → Type 0
Kept jobs size s = IsKept jobs size s.waiting s.named s.slots s.stop s.recovery s.owed

-- stops

pub stands_map : (jobs : List Job) (size : ℕ) (waiting after : List Bool) (slots changed : List (Option Task)) (recovery next : Recovery) (owed other : Owed) (stop : Stop)
    → ((id : ℕ) → IsNamed id waiting slots recovery owed → IsNamed id after changed next other) → Stands jobs size waiting slots recovery owed stop → Stands jobs size after changed next other stop
stands_map jobs size waiting after slots changed recovery next owed other Running f stands = refl
stands_map jobs size waiting after slots changed recovery next owed other (BusStop None) f stands = refl
stands_map jobs size waiting after slots changed recovery next owed other (BusStop (Some id)) f stands = f id stands
stands_map jobs size waiting after slots changed recovery next owed other (FlashStop id) f stands = stands
stands_map jobs size waiting after slots changed recovery next owed other (Range id) f stands = (f id stands.0, stands.1)
stands_map jobs size waiting after slots changed recovery next owed other (Align id) f stands = stands

pub stands_running : (jobs : List Job) (size : ℕ) (waiting : List Bool) (slots : List (Option Task)) (recovery : Recovery) (owed : Owed) (stop : Stop) → is_running stop ≡ true → Stands jobs size waiting slots recovery owed stop
stands_running jobs size waiting slots recovery owed Running e = refl
stands_running jobs size waiting slots recovery owed (BusStop None) e = refl
stands_running jobs size waiting slots recovery owed (BusStop (Some id)) e = absurd (cc)
stands_running jobs size waiting slots recovery owed (FlashStop id) e = absurd (cc)
stands_running jobs size waiting slots recovery owed (Range id) e = absurd (cc)
stands_running jobs size waiting slots recovery owed (Align id) e = absurd (cc)

-- in a recovery no stop names a request
pub stands_busy : (jobs : List Job) (size : ℕ) (waiting after : List Bool) (slots changed : List (Option Task)) (recovery next : Recovery) (owed other : Owed) (stop : Stop) → is_calm recovery ≡ false
    → Stands jobs size waiting slots recovery owed stop → Stands jobs size after changed next other stop
stands_busy jobs size waiting after slots changed recovery next owed other stop busy stands =
    stands_map jobs size waiting after slots changed recovery next owed other stop (λ id named. absurd (both_ways (is_calm recovery) busy named.calm)) stands

-- where nothing is owed no task is collected

pub free_none : (slots : List (Option Task)) (stop : Stop) (recovery : Recovery) (owed : Owed) → is_free owed ≡ true → Owes slots stop recovery owed → has IsCollected slots ≡ false
free_none slots stop recovery Nothing e owes = owes
free_none slots stop recovery Closed e owes = owes
free_none slots stop recovery owed e owes = absurd (cc)

pub free_recover : (owed : Owed) → is_free owed ≡ true → is_recover_owed owed ≡ false
free_recover Nothing e = refl
free_recover Closed e = refl
free_recover owed e = absurd (cc)

-- in a recovery

collected_active : (standing : Standing) → asks_of IsCollected standing ≡ true → not (is_held standing) ≡ true
collected_active Collected e = refl
collected_active standing e = absurd (cc)

pub slot_collected : (slot : Option Task) → asks IsCollected slot ≡ true → is_active slot ≡ true
slot_collected None e = absurd (cc)
slot_collected (Some task) e = collected_active task.standing e

pub none_collected : (slots : List (Option Task)) → list_any is_active slots ≡ false → has IsCollected slots ≡ false
none_collected slots none = false_from_ne_true (has IsCollected slots) (λ some. both_ways (list_any is_active slots) none (any_if (asks IsCollected) is_active slot_collected slots some))

owes_busy : (slots changed : List (Option Task)) (stop : Stop) (recovery next : Recovery) (owed : Owed) → is_calm recovery ≡ false → has IsCollected changed ≡ false → Owes slots stop recovery owed → Owes changed stop next owed
owes_busy slots changed stop recovery next CardOwed busy none owes = none
owes_busy slots changed stop recovery next Nothing busy none owes = none
owes_busy slots changed stop recovery next Closed busy none owes = none
owes_busy slots changed stop recovery next Ended busy none owes = none
owes_busy slots changed stop recovery next (BusOwed n id kind) busy none owes = absurd (both_ways (is_calm recovery) busy owes.calm)
owes_busy slots changed stop recovery next (FlashOwed id) busy none owes = none
owes_busy slots changed stop recovery next Answers busy none owes = absurd (both_ways (is_calm recovery) busy owes)
owes_busy slots changed stop recovery next (Sectors tag k) busy none owes = absurd (both_ways (is_calm recovery) busy owes)
owes_busy slots changed stop recovery next RecoverOwed busy none owes = absurd (both_ways (is_calm recovery) busy owes)
owes_busy slots changed stop recovery next (Dark cuts) busy none owes = owes
owes_busy slots changed stop recovery next (LeftOwed from) busy none owes = owes

-- a step of it, up to the last
pub step_kept : (jobs : List Job) (size : ℕ) (waiting : List Bool) (named : List ℕ) (slots : List (Option Task)) (stop : Stop) (recovery next : Recovery) (owed : Owed) → is_calm recovery ≡ false → is_calm next ≡ false
    → IsKept jobs size waiting named slots stop recovery owed → IsKept jobs size waiting named slots stop next owed
step_kept jobs size waiting named slots stop recovery next owed busy goes i =
    let same : (id : ℕ) → pending id waiting next slots ≡ pending id waiting recovery slots = λ id. ap (λ calm. waits id waiting + cond calm (tasks id slots) 0) (goes ∙ sym busy) in
    record {
      long = i.long;
      names = i.names;
      tags = i.tags;
      fits = λ id. omega (arith, same id, i.fits id);
      held = λ e. i.held busy;
      served = i.served;
      owes = owes_busy slots slots stop recovery next owed busy (none_collected slots (i.held busy)) i.owes;
      stands = stands_busy jobs size waiting waiting slots slots recovery next owed owed stop busy i.stands;
      most = i.most;
      fourth = λ id one four. i.fourth id (sym (same id) ∙ one) four;
    }

pub tags_none : length no_tasks ≡ 32
unfolding no_tasks
tags_none = refl

pub collected_none : has IsCollected no_tasks ≡ false
unfolding no_tasks
collected_none = refl

pub pending_over : (id : ℕ) (waiting : List Bool) (slots : List (Option Task)) (recovery next : Recovery) → is_calm recovery ≡ false → is_calm next ≡ true → pending id waiting next no_tasks ≡ pending id waiting recovery slots
pending_over id waiting slots recovery next busy calm =
    ap (λ c. waits id waiting + cond c (tasks id no_tasks) 0) calm ∙ (ap (λ n. waits id waiting + n) (tasks_none id) ∙ sym (ap (λ c. waits id waiting + cond c (tasks id slots) 0) busy))

-- and that one
pub over_kept : (jobs : List Job) (size : ℕ) (waiting : List Bool) (named : List ℕ) (slots : List (Option Task)) (stop : Stop) (recovery next : Recovery) (owed : Owed) → is_calm recovery ≡ false → is_calm next ≡ true
    → IsKept jobs size waiting named slots stop recovery owed → IsKept jobs size waiting named no_tasks stop next owed
over_kept jobs size waiting named slots stop recovery next owed busy calm i =
    let same : (id : ℕ) → pending id waiting next no_tasks ≡ pending id waiting recovery slots = λ id. pending_over id waiting slots recovery next busy calm in
    record {
      long = i.long;
      names = i.names;
      tags = tags_none;
      fits = λ id. omega (arith, same id, i.fits id);
      held = λ e. absurd (both_ways (is_calm next) e calm);
      served = none_left jobs size;
      owes = owes_busy slots no_tasks stop recovery next owed busy collected_none i.owes;
      stands = stands_busy jobs size waiting waiting slots no_tasks recovery next owed owed stop busy i.stands;
      most = i.most;
      fourth = λ id one four. i.fourth id (sym (same id) ∙ one) four;
    }

-- another thing is owed
pub named_owed : (id : ℕ) (waiting : List Bool) (slots : List (Option Task)) (recovery : Recovery) (owed other : Owed) → is_recover_owed owed ≡ false → is_recover_owed other ≡ false
    → IsNamed id waiting slots recovery owed → IsNamed id waiting slots recovery other
named_owed id waiting slots recovery owed other off none named =
    record { calm = named.calm; answered = λ e. absurd (both_ways (is_recover_owed other) none e); live = λ e. named.live off }

pub owed_kept : (jobs : List Job) (size : ℕ) (waiting : List Bool) (named : List ℕ) (slots : List (Option Task)) (stop : Stop) (recovery : Recovery) (owed other : Owed) → is_recover_owed owed ≡ false → is_recover_owed other ≡ false
    → Owes slots stop recovery other → IsKept jobs size waiting named slots stop recovery owed → IsKept jobs size waiting named slots stop recovery other
owed_kept jobs size waiting named slots stop recovery owed other off none owes i = record {
  long = i.long;
  names = i.names;
  tags = i.tags;
  fits = i.fits;
  held = i.held;
  served = i.served;
  owes = owes;
  stands = stands_map jobs size waiting waiting slots slots recovery recovery owed other stop (λ id. named_owed id waiting slots recovery owed other off none) i.stands;
  most = i.most;
  fourth = i.fourth;
}

pub closed_kept : (jobs : List Job) (size : ℕ) (waiting : List Bool) (named : List ℕ) (slots : List (Option Task)) (stop : Stop) (recovery : Recovery) (owed : Owed)
    → IsKept jobs size waiting named slots stop recovery owed → IsKept jobs size waiting named slots stop recovery (closed owed)
closed_kept jobs size waiting named slots stop recovery Closed i = owed_kept jobs size waiting named slots stop recovery Closed Nothing refl refl i.owes i
closed_kept jobs size waiting named slots stop recovery owed i = i

pub closed_bus : (owed : Owed) → is_bus_owed (closed owed) ≡ is_bus_owed owed
closed_bus Closed = refl
closed_bus owed = refl

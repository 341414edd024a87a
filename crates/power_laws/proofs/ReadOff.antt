-- What the state in an event in which power is lost tells of the path, and of its requests.
use Rattle.std.proofs.Common.{◌≡◌, ◌≢◌, ◌<◌, ◌==◌, ◌&&◌, ◌||◌, ℕ, refl, sym, ◌∙◌, ap, subst, arith, inl, inr, zero-add}
use Rattle.std.specs.Prelude.{Bool, true, false, not, cond, Option, Some, None, IfSome, length, List, [], slice_set, slice_index_or}
use Rattle.std.specs.Option.{option_map}
use Rattle.std.proofs.lemmas.Bool.{cases_lt}
use Rattle.std.proofs.lemmas.List.{get_or-set_other, get_or_past}
use Rattle.std.proofs.lemmas.List.FromFn.{get_or-map-range_with_len, length-map-range_with_len}
use Rattle.std.proofs.Math.ListN.{length-set}
use Rattle.cq_regs.specs.Slots.{progress_of}
use Rattle.cq_regs.specs.declared.slots.Progress.{Progress}
use Rattle.cq_regs.specs.declared.slots.Progress.TheVariants as progress
use Rattle.cq_schedule.specs.Held.{slots}
use Rattle.cut_order.specs.Order.{OrderState, order_of}
use Rattle.drv_core.specs.State.{is_recovering}
use Rattle.storage_machine.proofs.Changes.{changed_from-at, length-changed_from}
use Rattle.storage_machine.specs.Jobs.{is_read, must_keep}
use Rattle.storage_machine.specs.Slots.{asks_of, changed, changed_slots, slot_at}
use Rattle.storage_machine.specs.declared.slots.Change.TheVariants.{Move}
use Rattle.storage_machine.specs.declared.slots.Question.TheVariants.{Issued}
use Rattle.storage_machine.specs.declared.state.Event.{Event}
use Rattle.storage_machine.specs.declared.state.Owed.{Owed}
use Rattle.storage_machine.specs.declared.state.Standing.{Standing}
use Rattle.storage_machine.specs.declared.state.Standing.TheVariants as standing
use Rattle.storage_machine.specs.declared.state.State.{State}
use Rattle.storage_machine.specs.declared.state.Task.{Task}
use Rattle.storage_model.specs.declared.block.Block.{Block}
use Rattle.storage_model.specs.declared.marks.Mark.{Mark}
use Rattle.storage_model.specs.declared.plan.Job.{Job}
use Rattle.trace_effects.specs.Phases.{after_done, is_empty, read_sectors}
use Rattle.world_state.specs.Path.{PathState, holder, plan_of}
use Rattle.world_state.specs.Reading.{Context, data_by, data_of, is_done, recovery_of, standing_at, standing_of, state_of, task_at, tasks_of, waiting_of}
use Rattle.power_laws.proofs.PhaseEnds.{pend_with, phase_over, woken}

-- ---- what it tells as the state before did

pub record TellsOf (v : State) (p : PathState) (o : OrderState) (k : Context) : Type 0 where
  pub plan : v.plan ≡ plan_of p
  pub ready : v.faults.ready ≡ p.script.ready
  pub bus : v.faults.bus ≡ p.script.hits
  pub order : order_of v ≡ o
  pub waiting : v.waiting ≡ waiting_of p.driver
  pub words : v.words ≡ p.script.used
  pub named : v.named ≡ k.named
  pub deferred : v.deferred ≡ false
  pub lefts : v.lefts ≡ []
  pub epochs : v.epochs ≡ []
  pub recovery : v.recovery ≡ recovery_of p.driver.recovery

pub woken_tells : (p : PathState) (o : OrderState) (k : Context) (event : Event) (staged : Bool) → TellsOf (woken (state_of p o k) event staged) p o k
unfolding state_of
woken_tells p o k event staged = record {
  plan = refl;
  ready = refl;
  bus = refl;
  order = refl;
  waiting = refl;
  words = refl;
  named = refl;
  deferred = refl;
  lefts = refl;
  epochs = refl;
  recovery = refl;
}

pub state_tells : (p : PathState) (o : OrderState) (k : Context) → TellsOf (state_of p o k) p o k
unfolding state_of
state_tells p o k = record {
  plan = refl;
  ready = refl;
  bus = refl;
  order = refl;
  waiting = refl;
  words = refl;
  named = refl;
  deferred = refl;
  lefts = refl;
  epochs = refl;
  recovery = refl;
}

pub over_tells : (p : PathState) (o : OrderState) (k : Context) (event : Event) (staged : Bool) (job : Job) (count tag id n : ℕ) (done : Bool) (owed : Owed)
    → TellsOf (phase_over (state_of p o k) event staged job count tag id n done owed) p o k
unfolding state_of after_done
over_tells p o k event staged job count tag id n true owed = record {
  plan = refl;
  ready = refl;
  bus = refl;
  order = refl;
  waiting = refl;
  words = refl;
  named = refl;
  deferred = refl;
  lefts = refl;
  epochs = refl;
  recovery = refl;
}
over_tells p o k event staged job count tag id n false owed = record {
  plan = refl;
  ready = refl;
  bus = refl;
  order = refl;
  waiting = refl;
  words = refl;
  named = refl;
  deferred = refl;
  lefts = refl;
  epochs = refl;
  recovery = refl;
}

-- ---- its contents

pub record HasContents (v : State) (base : List Block) (pend : List Mark) (staged kept : Bool) : Type 0 where
  pub base_is : v.base ≡ base
  pub pend_is : v.pend ≡ pend
  pub staged_is : v.staged ≡ staged
  pub kept_is : v.kept ≡ kept

pub woken_contents : (s : State) (event : Event) (staged : Bool) → HasContents (woken s event staged) s.base s.pend staged s.kept
woken_contents s event staged = record { base_is = refl; pend_is = refl; staged_is = refl; kept_is = refl }

abbrev pub kept_over : State → Job → ℕ → Bool
kept_over s job count = not (is_empty (pend_with s job count)) && (s.kept || must_keep s.plan.through job)

pub over_contents : (s : State) (event : Event) (staged : Bool) (job : Job) (count tag id n : ℕ) (done : Bool) (owed : Owed)
    → HasContents (phase_over s event staged job count tag id n done owed) s.base (pend_with (woken s event staged) job count) staged
    (kept_over (woken s event staged) job count)
unfolding after_done
over_contents s event staged job count tag id n true owed = record { base_is = refl; pend_is = refl; staged_is = refl; kept_is = refl }
over_contents s event staged job count tag id n false owed = record { base_is = refl; pend_is = refl; staged_is = refl; kept_is = refl }

-- ---- its requests

pub record HasTasks (v : State) (p : PathState) : Type 0 where
  pub slots : length v.slots ≡ 32
  pub issued : (tag : ℕ) → tag < 32 → option_map (λ task. task.id) (slot_at v.slots tag) ≡ holder p tag
  pub standing : (tag : ℕ) → IfSome (slot_at v.slots tag) (λ task. asks_of Issued task.standing ≡ true)
  pub places : length v.«data» ≡ 32
  pub vacant : (tag : ℕ) → holder p tag ≡ None → slice_index_or v.«data» tag [] ≡ []

abbrev task_so : ℕ → Standing → Task
task_so id far = record { id = id; standing = far }

slots_long : (p : PathState) (o : OrderState) (k : Context) → length (state_of p o k).slots ≡ 32
unfolding state_of tasks_of slots
slots_long p o k = length-map-range_with_len (task_at p) 0 32

data_long : (p : PathState) (o : OrderState) (k : Context) → length (state_of p o k).«data» ≡ 32
unfolding state_of data_of slots
data_long p o k = length-map-range_with_len (λ tag. data_by p tag (holder p tag)) 0 32

pub slot_so : (p : PathState) (o : OrderState) (k : Context) (tag : ℕ) → tag < 32 → slot_at (state_of p o k).slots tag ≡ task_at p tag
unfolding state_of tasks_of slots
slot_so p o k tag within = get_or-map-range_with_len (task_at p) 0 32 tag tag None within (zero-add tag)

data_so : (p : PathState) (o : OrderState) (k : Context) (tag : ℕ) → tag < 32 → slice_index_or (state_of p o k).«data» tag [] ≡ data_by p tag (holder p tag)
unfolding state_of data_of slots
data_so p o k tag within = get_or-map-range_with_len (λ t. data_by p t (holder p t)) 0 32 tag tag [] within (zero-add tag)

ids_back : (o : Option ℕ) (far : Standing) → option_map (λ task. task.id) (option_map (λ id. task_so id far) o) ≡ o
ids_back None far = refl
ids_back (Some id) far = refl

standing_issued : (recovering done : Bool) (p : Progress)
    → asks_of Issued (cond recovering standing.Held (cond done standing.Done (standing_of p))) ≡ true
standing_issued true done p = refl
standing_issued false true p = refl
standing_issued false false progress.Idle = refl
standing_issued false false progress.Rung = refl
standing_issued false false progress.Named = refl
standing_issued false false progress.Sent = refl
standing_issued false false progress.Ready = refl
standing_issued false false progress.Active = refl

pub standing_so : (p : PathState) (tag : ℕ) → asks_of Issued (standing_at p tag) ≡ true
standing_so p tag = standing_issued (is_recovering p.driver.recovery) (is_done p tag) (progress_of p.regs.ring tag)

task_issued : (p : PathState) (tag : ℕ) (o : Option ℕ)
    → IfSome (option_map (λ id. task_so id (standing_at p tag)) o) (λ task. asks_of Issued task.standing ≡ true)
task_issued p tag None = tt
task_issued p tag (Some id) = standing_so p tag

abbrev IsIssuedTask : Option Task → Type 0
IsIssuedTask o = IfSome o (λ task. asks_of Issued task.standing ≡ true)

all_issued : (p : PathState) (o : OrderState) (k : Context) (tag : ℕ) → IsIssuedTask (slot_at (state_of p o k).slots tag)
all_issued p o k tag =
    elim (cases_lt tag 32) [
      | inl within ↦ subst IsIssuedTask (sym (slot_so p o k tag within)) (task_issued p tag (holder p tag))
      | inr past ↦
          let long = slots_long p o k in
          subst IsIssuedTask (sym (get_or_past (state_of p o k).slots tag None (omega (arith, long, past)))) tt
    ]

vacant_data : (p : PathState) (o : OrderState) (k : Context) (tag : ℕ) → holder p tag ≡ None → slice_index_or (state_of p o k).«data» tag [] ≡ []
vacant_data p o k tag none =
    elim (cases_lt tag 32) [
      | inl within ↦ data_so p o k tag within ∙ ap (data_by p tag) none
      | inr past ↦
          let long = data_long p o k in
          get_or_past (state_of p o k).«data» tag [] (omega (arith, long, past))
    ]

pub state_tasks : (p : PathState) (o : OrderState) (k : Context) → HasTasks (state_of p o k) p
state_tasks p o k = record {
  slots = slots_long p o k;
  issued = λ tag within. ap (option_map (λ task. task.id)) (slot_so p o k tag within) ∙ ids_back (holder p tag) (standing_at p tag);
  standing = all_issued p o k;
  places = data_long p o k;
  vacant = vacant_data p o k;
}

pub woken_tasks : (p : PathState) (o : OrderState) (k : Context) (event : Event) (staged : Bool) → HasTasks (woken (state_of p o k) event staged) p
woken_tasks p o k event staged =
    let h = state_tasks p o k in
    record { slots = h.slots; issued = h.issued; standing = h.standing; places = h.places; vacant = h.vacant }

-- ---- and once one of them is done

done_length : (id : ℕ) (slots : List (Option Task)) → length (changed_slots (Move id standing.Done) slots) ≡ length slots
unfolding changed_slots
done_length id slots = length-changed_from (Move id standing.Done) 0 slots

done_at : (id : ℕ) (slots : List (Option Task)) (tag : ℕ) → tag < length slots
    → slot_at (changed_slots (Move id standing.Done) slots) tag ≡ changed (Move id standing.Done) tag (slot_at slots tag)
unfolding changed_slots
done_at id slots tag low =
    changed_from-at (Move id standing.Done) 0 tag slots None low ∙ ap (λ t. changed (Move id standing.Done) t (slot_at slots tag)) (zero-add tag)

either_id : (b : Bool) (task : Task)
    → option_map (λ (x : Task). x.id) (cond b (Some (record task { standing = standing.Done })) (Some task)) ≡ Some task.id
either_id true task = refl
either_id false task = refl

done_id : (id tag : ℕ) (o : Option Task) → option_map (λ (x : Task). x.id) (changed (Move id standing.Done) tag o) ≡ option_map (λ (x : Task). x.id) o
done_id id tag None = refl
done_id id tag (Some task) = either_id (task.id == id) task

either_issued : (b : Bool) (task : Task) → asks_of Issued task.standing ≡ true
    → IsIssuedTask (cond b (Some (record task { standing = standing.Done })) (Some task))
either_issued true task h = refl
either_issued false task h = h

done_issued : (id tag : ℕ) (o : Option Task) → IsIssuedTask o → IsIssuedTask (changed (Move id standing.Done) tag o)
done_issued id tag None h = tt
done_issued id tag (Some task) h = either_issued (task.id == id) task h

done_standing : (p : PathState) (o : OrderState) (k : Context) (id tag : ℕ) → IsIssuedTask (slot_at (changed_slots (Move id standing.Done) (state_of p o k).slots) tag)
done_standing p o k id tag =
    let old : List (Option Task) = (state_of p o k).slots in
    let new : List (Option Task) = changed_slots (Move id standing.Done) old in
    let long : length old ≡ 32 = slots_long p o k in
    let size : length new ≡ length old = done_length id old in
    elim (cases_lt tag 32) [
      | inl within ↦
          let low : tag < length old = omega (arith, long, within) in
          subst IsIssuedTask (sym (done_at id old tag low)) (done_issued id tag (slot_at old tag) (all_issued p o k tag))
      | inr past ↦ subst IsIssuedTask (sym (get_or_past new tag None (omega (arith, long, size, past)))) tt
    ]

either_long : (b : Bool) (xs : List (List Block)) (tag : ℕ) (sectors : List Block) → length (cond b (slice_set xs tag sectors) xs) ≡ length xs
either_long true xs tag sectors = length-set xs tag sectors
either_long false xs tag sectors = refl

either_other : (b : Bool) (xs : List (List Block)) (tag other : ℕ) (sectors : List Block) → other ≢ tag
    → slice_index_or (cond b (slice_set xs tag sectors) xs) other [] ≡ slice_index_or xs other []
either_other true xs tag other sectors apart = get_or-set_other xs tag other sectors [] apart
either_other false xs tag other sectors apart = refl

pub over_tasks : (p : PathState) (o : OrderState) (k : Context) (event : Event) (staged : Bool) (job : Job) (count tag id n : ℕ) (done : Bool) (owed : Owed)
    → holder p tag ≡ Some id → HasTasks (phase_over (state_of p o k) event staged job count tag id n done owed) p
unfolding after_done
over_tasks p o k event staged job count tag id n true owed is =
    let s : State = state_of p o k in
    let b : State = woken s event staged in
    let h = state_tasks p o k in
    record {
      slots = done_length id s.slots ∙ h.slots;
      issued = λ t within.
          let long : length s.slots ≡ 32 = h.slots in
          let low : t < length s.slots = omega (arith, long, within) in
          ap (option_map (λ (x : Task). x.id)) (done_at id s.slots t low) ∙ done_id id t (slot_at s.slots t) ∙ h.issued t within;
      standing = done_standing p o k id;
      places = either_long (is_read job) s.«data» tag (read_sectors b job) ∙ h.places;
      vacant = λ t none.
          either_other (is_read job) s.«data» tag t (read_sectors b job) (λ same. absurd (cc (sym is ∙ ap (holder p) (sym same) ∙ none))) ∙ h.vacant t none;
    }
over_tasks p o k event staged job count tag id n false owed is =
    let h = state_tasks p o k in
    record { slots = h.slots; issued = h.issued; standing = h.standing; places = h.places; vacant = h.vacant }

-- The requests that are held when power is lost: each stands on its slot, and none of them waits with the driver.
use Rattle.std.proofs.Common.{◌≡◌, ◌≢◌, ◌∙◌, ℕ, zero, suc, ◌+◌, ◌-◌, ◌<◌, ◌||◌, inl, inr, Bool, true, false, cond, not, Option, Some, None, IfSome, List, [], ◌∷◌, fold, length, get_or, replicate, slice_set, slice_index_or, refl, ap, sym, subst, arith}
use Rattle.std.specs.List.{list_any}
use Rattle.std.specs.Prelude.{option_map}
use Rattle.std.proofs.lemmas.Bool.{and_parts, cases_lt, or_parts}
use Rattle.std.proofs.lemmas.List.{ext_get_or, get_or-replicate, get_or-set_same, get_or_past, get_or-set_other, length-set}
use Rattle.storage_machine.specs.Commands.{is_calm}
use Rattle.storage_machine.specs.Host.{recovery_steps, recovery_steps_at, to_do}
use Rattle.storage_machine.specs.Slots.{asks_of, has, id_of, no_tasks, slot_at}
use Rattle.storage_machine.specs.declared.slots.Question.TheVariants.{Issued as IsIssued}
use Rattle.storage_machine.specs.declared.state.Owed.{Owed}
use Rattle.storage_machine.specs.declared.state.Owed.TheVariants.{Dark}
use Rattle.storage_machine.specs.declared.state.Recovery.{Recovery}
use Rattle.storage_machine.specs.declared.state.Recovery.TheVariants.{Calm, Halted, Cleared, Discarded, Cleaned, Resumed}
use Rattle.storage_machine.specs.declared.state.State.{State}
use Rattle.storage_machine.specs.declared.state.Task.{Task}
use Rattle.storage_model.specs.declared.trace.Item.TheVariants.{Cut}
use Rattle.trace_effects.specs.Effects.{after_cut, effect, first_cut, is_last, is_quiet, letters_left}
use Rattle.array_edge.specs.Array.{ArrayState}
use Rattle.cut_laws.specs.Laws.{IsCut, IsHeldBy}
use Rattle.cut_order.specs.Order.{OrderState}
use Rattle.drv_core.specs.State.{DriverState, is_recovering}
use Rattle.drv_jobs.proofs.SoundLaws.{length-given_back}
use Rattle.drv_jobs.specs.Changes.{waits_again}
use Rattle.drv_jobs.specs.Sound.{IsHeld, IsSound}
use Rattle.drv_jobs.specs.Standings.{holder_of}
use Rattle.dark_laws.specs.Laws.{IsCutHere}
use Rattle.world_state.specs.Path.{PathState, holder}
use Rattle.world_state.specs.Reading.{waiting_of}
use Rattle.world_state.specs.Told.{IsLosing, is_dark}

-- the first cut

cut_by : (s : State) (owed : Owed) → s.owed ≡ owed → is_dark owed ≡ false → effect s Cut ≡ first_cut s
unfolding effect after_cut
cut_by s (Dark cuts) is lit = absurd (cc)
cut_by s owed is lit = rw is refl

pub cut_is : (s : State) → is_dark s.owed ≡ false → effect s Cut ≡ first_cut s
cut_is s lit = cut_by s s.owed refl lit

-- where the cut may be one of the last flush, nothing is to do behind the silent steps of a recovery

off : (b : Bool) → not b ≡ true → b ≡ false
off true is = absurd (cc)
off false is = refl

nothing_after : (s : State) → is_last s ≡ true → to_do (recovery_steps s) ≡ false
nothing_after s last =
    let quiet = and_parts (is_quiet s.event) (not (letters_left s || to_do (recovery_steps s))) last in
    (or_parts (letters_left s) (to_do (recovery_steps s)) (off (letters_left s || to_do (recovery_steps s)) quiet.1)).1

work_by : (s : State) (last : Bool) → is_last s ≡ last → to_do (cond last (recovery_steps s) s) ≡ true → to_do s ≡ true
work_by s true is work = let none = nothing_after s is in absurd (cc (none, work))
work_by s false is work = work

pub work_before : (s : State) → (first_cut s).worked ≡ true → to_do s ≡ true
work_before s work = work_by s (is_last s) refl work

waiting_steps : (s : State) (state : Recovery) → (recovery_steps_at s state).waiting ≡ s.waiting
waiting_steps s Calm = refl
waiting_steps s Halted = refl
waiting_steps s Cleared = refl
waiting_steps s Discarded = refl
waiting_steps s Cleaned = refl
waiting_steps s Resumed = refl

none_waits : (s : State) → to_do (recovery_steps s) ≡ false → list_any (λ waits. waits) s.waiting ≡ false
unfolding to_do recovery_steps
none_waits s none =
    let t : State = recovery_steps_at s s.recovery in
    sym (ap (λ waiting. list_any (λ waits. waits) waiting) (waiting_steps s s.recovery))
    ∙ (or_parts (list_any (λ waits. waits) t.waiting) (has IsIssued t.slots || not (is_calm t.recovery)) none).0

-- each held request waits again, and no other

set_waits : (waiting : List Bool) (n place : ℕ) → slice_index_or waiting place false ≡ true → slice_index_or (slice_set waiting n true) place false ≡ true
set_waits [] n place is = is
set_waits (b ∷ waiting) zero zero is = refl
set_waits (b ∷ waiting) zero (suc place) is = is
set_waits (b ∷ waiting) (suc n) zero is = is
set_waits (b ∷ waiting) (suc n) (suc place) is = set_waits waiting n place is

still_waits : (waiting : List Bool) (holders : List (Option ℕ)) (place : ℕ) → slice_index_or waiting place false ≡ true → slice_index_or (fold waits_again waiting holders) place false ≡ true
still_waits waiting [] place is = is
still_waits waiting (None ∷ holders) place is = still_waits waiting holders place is
still_waits waiting (Some id ∷ holders) place is = still_waits (slice_set waiting (id - 1) true) holders place (set_waits waiting (id - 1) place is)

held_waits : (waiting : List Bool) (holders : List (Option ℕ)) (tag id : ℕ) → get_or holders tag None ≡ Some id → id - 1 < length waiting → slice_index_or (fold waits_again waiting holders) (id - 1) false ≡ true
held_waits waiting [] tag id at few = absurd (cc (at))
held_waits waiting (None ∷ holders) zero id at few = absurd (cc (at))
held_waits waiting (Some other ∷ holders) zero id at few =
    let same : other ≡ id = cc in
    still_waits (slice_set waiting (other - 1) true) holders (id - 1)
    (subst (λ n. slice_index_or (slice_set waiting (n - 1) true) (id - 1) false ≡ true) (sym same) (get_or-set_same waiting (id - 1) true false few))
held_waits waiting (None ∷ holders) (suc tag) id at few = held_waits waiting holders tag id at few
held_waits waiting (Some other ∷ holders) (suc tag) id at few =
    let size = length-set waiting (other - 1) true in
    held_waits (slice_set waiting (other - 1) true) holders tag id at (omega (arith, few, size))

waits_at : (waiting : List Bool) (place : ℕ) → list_any (λ waits. waits) waiting ≡ false → slice_index_or waiting place false ≡ false
waits_at [] place none = refl
waits_at (true ∷ waiting) place none = absurd (cc (none))
waits_at (false ∷ waiting) zero none = refl
waits_at (false ∷ waiting) (suc place) none = waits_at waiting place none

abbrev no_task : Option Task
no_task = None

pub others_wait : (waiting : List Bool) (holders : List (Option ℕ)) (place : ℕ) → ((tag id : ℕ) → get_or holders tag None ≡ Some id → id - 1 ≢ place)
    → slice_index_or (fold waits_again waiting holders) place false ≡ slice_index_or waiting place false
others_wait waiting [] place apart = refl
others_wait waiting (None ∷ holders) place apart = others_wait waiting holders place (λ tag id at. apart (suc tag) id at)
others_wait waiting (Some id ∷ holders) place apart =
    others_wait (slice_set waiting (id - 1) true) holders place (λ tag other at. apart (suc tag) other at)
    ∙ get_or-set_other waiting (id - 1) place true false (λ same. apart 0 id refl (sym same))

waits_by : (b : Bool) (d : DriverState) → is_recovering d.recovery ≡ b → (place : ℕ) → ((tag id : ℕ) → holder_of d.requests.holders tag ≡ Some id → id - 1 ≢ place)
    → slice_index_or (waiting_of d) place false ≡ slice_index_or d.requests.waiting place false
waits_by true d is place apart = rw is (others_wait d.requests.waiting d.requests.holders place apart)
waits_by false d is place apart = rw is refl

long_by : (b : Bool) (d : DriverState) → is_recovering d.recovery ≡ b → length (waiting_of d) ≡ length d.requests.waiting
long_by true d is = rw is (length-given_back d.requests.waiting d.requests.holders)
long_by false d is = rw is refl

-- the slots

module _ (s : State) (p : PathState) (o : OrderState) (a : ArrayState) (sound : IsSound p.driver.requests) (losing : IsLosing s p o a) where
  holds : (tag : ℕ) (task : Task) → slot_at s.slots tag ≡ Some task → holder p tag ≡ Some task.id
  holds tag task at = elim (cases_lt tag 32) [
    | inl few ↦ sym (losing.issued tag few) ∙ ap (option_map (λ (task : Task). task.id)) at
    | inr past ↦ let long = losing.slots in let none = get_or_past s.slots tag None (omega (arith, past, long)) in absurd (cc (none, at))
  ]

  held_by : (tag : ℕ) (slot : Option Task) → slot_at s.slots tag ≡ slot → IfSome slot (IsHeldBy p.driver.requests.waiting)
  held_by tag None at = tt
  held_by tag (Some task) at =
      let held : IsHeld p.driver.requests.waiting p.driver.requests.holders tag task.id = sound.held tag task.id (holds tag task at) in
      record {
        above = held.above;
        issued = subst (λ slot. IfSome slot (λ task. asks_of IsIssued task.standing ≡ true)) at (losing.standing tag);
        waits = held.waits;
      }

  no_other : (place : ℕ) → ((tag : ℕ) → id_of (slot_at s.slots tag) ≢ place + 1) → (tag id : ℕ) → holder p tag ≡ Some id → id - 1 ≢ place
  no_other place none tag id at same =
      let held : IsHeld p.driver.requests.waiting p.driver.requests.holders tag id = sound.held tag id at in
      let above = held.above in
      let is : id ≡ place + 1 = omega (arith, above, same) in
      elim (cases_lt tag 32) [
        | inl few ↦ none tag (slot_id (slot_at s.slots tag) id (losing.issued tag few ∙ at) ∙ is)
        | inr past ↦ let long = sound.holders in let no = get_or_past p.driver.requests.holders tag None (omega (arith, past, long)) in absurd (cc (no, at))
      ]
    where
      slot_id : (slot : Option Task) (id : ℕ) → option_map (λ (task : Task). task.id) slot ≡ Some id → id_of slot ≡ id
      slot_id None id is = absurd (cc)
      slot_id (Some task) id is = cc

  no_data : (tag : ℕ) → slot_at s.slots tag ≡ None → slice_index_or s.data tag [] ≡ []
  no_data tag none = elim (cases_lt tag 32) [
    | inl few ↦ losing.vacant tag (sym (losing.issued tag few) ∙ ap (option_map (λ (task : Task). task.id)) none)
    | inr past ↦ let long = losing.places in get_or_past s.data tag [] (omega (arith, past, long))
  ]

  -- where nothing is to do behind the silent steps of a recovery, they take no task from its slot: none was held
  none_held : is_recovering p.driver.recovery ≡ true → list_any (λ waits. waits) s.waiting ≡ false → (tag : ℕ) (found : Option ℕ) → holder p tag ≡ found → found ≡ None
  none_held on none tag None at = refl
  none_held on none tag (Some id) at =
      let held : IsHeld p.driver.requests.waiting p.driver.requests.holders tag id = sound.held tag id at in
      let above = held.above in
      let below = held.below in
      let few : id - 1 < length p.driver.requests.waiting = omega (arith, above, below) in
      let again : waiting_of p.driver ≡ fold waits_again p.driver.requests.waiting p.driver.requests.holders =
      ap (λ b. cond b (fold waits_again p.driver.requests.waiting p.driver.requests.holders) p.driver.requests.waiting) on in
      let waits : slice_index_or s.waiting (id - 1) false ≡ true =
      ap (λ xs. slice_index_or xs (id - 1) false) (losing.waiting ∙ again)
      ∙ held_waits p.driver.requests.waiting p.driver.requests.holders tag id at few in
      let not_so = waits_at s.waiting (id - 1) none in
      absurd (cc (waits, not_so))

  slot_none : (slot : Option Task) → option_map (λ (task : Task). task.id) slot ≡ None → slot ≡ None
  slot_none None is = refl
  slot_none (Some task) is = absurd (cc (is))

  slots_none : is_recovering p.driver.recovery ≡ true → list_any (λ waits. waits) s.waiting ≡ false → no_tasks ≡ s.slots
  unfolding no_tasks
  slots_none on none =
      let long = losing.slots in
      let size : length (replicate 32 no_task) ≡ 32 = refl in
      ext_get_or None (replicate 32 no_task) s.slots (sym long)
      (λ tag few.
      let within : tag < 32 = omega (arith, few, size) in
      get_or-replicate 32 tag no_task None within
      ∙ sym (slot_none (slot_at s.slots tag) (losing.issued tag within ∙ none_held on none tag (holder p tag) refl)))

  steps_keep : list_any (λ waits. waits) s.waiting ≡ false → (state : Recovery) → is_recovering p.driver.recovery ≡ not (is_calm state) → (recovery_steps_at s state).slots ≡ s.slots
  steps_keep none Calm is = refl
  steps_keep none Halted is = refl
  steps_keep none Cleared is = refl
  steps_keep none Discarded is = slots_none is none
  steps_keep none Cleaned is = slots_none is none
  steps_keep none Resumed is = slots_none is none

  kept_by : (last : Bool) → is_last s ≡ last → (cond last (recovery_steps s) s).slots ≡ s.slots
  unfolding recovery_steps
  kept_by true is = steps_keep (none_waits s (nothing_after s is)) s.recovery losing.recovery
  kept_by false is = refl

  pub slots_kept : (first_cut s).slots ≡ s.slots
  slots_kept = kept_by (is_last s) refl

  cut_kept : IsCut p.driver.requests.waiting (record (first_cut s) { slots = s.slots })
  cut_kept = record {
    owed = refl;
    event = refl;
    slots = losing.slots;
    held = λ tag. held_by tag (slot_at s.slots tag) refl;
    apart = λ tag other task that at there same.
        let held : IsHeld p.driver.requests.waiting p.driver.requests.holders other that.id = sound.held other that.id (holds other that there) in
        held.apart tag (holds tag task at ∙ ap Some same);
    long = ap (λ xs. length xs) losing.waiting ∙ long_by (is_recovering p.driver.recovery) p.driver refl;
    waits = λ place none. ap (λ xs. slice_index_or xs place false) losing.waiting ∙ waits_by (is_recovering p.driver.recovery) p.driver refl place (no_other place none);
    kept = losing.places;
    empty = no_data;
  }

  pub cut_first : IsCut p.driver.requests.waiting (first_cut s)
  cut_first = subst (λ slots. IsCut p.driver.requests.waiting (record (first_cut s) { slots = slots })) (sym slots_kept) cut_kept

pub cut_here : (s : State) (p : PathState) (o : OrderState) (a : ArrayState) → IsCutHere s p o a
cut_here s p o a sound losing = subst (IsCut p.driver.requests.waiting) (sym (cut_is s losing.unjudged.lit)) (cut_first s p o a sound losing)

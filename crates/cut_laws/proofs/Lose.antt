-- The issued requests are lost, one line after the other.
use Rattle.std.proofs.Common.{◌≡◌, ◌≢◌, ◌∙◌, ℕ, zero, suc, ◌+◌, ◌-◌, ◌≤◌, ◌==◌, inl, inr, Bool, true, false, nat_lt, Option, Some, None, IfSome, List, [], ◌∷◌, map, length, get_or, slice_set, slice_index_or, replicate, refl, ap, sym, subst, arith}
use Rattle.std.proofs.lemmas.Bool.{both_ways, cases_Bool, cases_eq, eq-eqb, eqb-true, lt-ltb, ltb-false, ne_eqb}
use Rattle.std.proofs.lemmas.List.{ext_get_or, get_or-replicate, get_or-set_other}
use Rattle.std.proofs.lemmas.List.Quantifiers.{position-Some}
use Rattle.std.proofs.Math.ListN.{get_or-map}
use Rattle.std.specs.List.{position, position_or_len}
use Rattle.storage_machine.specs.Cuts.{first_lost}
use Rattle.storage_machine.specs.Slots.{changed_slots, changed_from, id_of, no_tasks, slot_at, tag_with, asks_of}
use Rattle.storage_machine.specs.declared.slots.Change.TheVariants.{Answer}
use Rattle.storage_machine.specs.declared.slots.Question.TheVariants.{Issued as IsIssued}
use Rattle.storage_machine.specs.declared.state.Event.TheVariants.{Untold}
use Rattle.storage_machine.specs.declared.state.Owed.TheVariants.{Dark}
use Rattle.storage_machine.specs.declared.state.State.{State}
use Rattle.storage_machine.specs.declared.state.Task.{Task}
use Rattle.storage_model.specs.declared.block.Block.{Block}
use Rattle.storage_model.specs.declared.trace.Item.TheVariants.{Lost}
use Rattle.storage_order.specs.Events.{Fits, More, goes_on}
use Rattle.storage_runs.specs.Runs.{StaysSo}
use Rattle.trace_effects.specs.Effects.{after_lost, effect, without_data}
use Rattle.trace_rules.specs.Lines.{holds, line_rule, lost_holds}
use Rattle.trace_rules.specs.Steps.{stands_in}
use Rattle.cut_laws.proofs.Numbers.{AreIssued, kept_above, lost_is, next_above, next_lowest, none_above, none_kept}
use Rattle.cut_laws.proofs.Slots.{HasTask, all_slots, data_empty, data_long, id_stays, length_set, lost_slots, next_task, no_blocks, slot_after, slot_kept, value_set, was_lost, was_there}
use Rattle.cut_laws.specs.Laws.{AreLostShown, IsCut, IsHeldBy, LosesRequests, all_lost, no_data}
use Rattle.cut_laws.specs.Lost.{AreLost, ids_in, lost_lines, next_lost}

-- the parts of the state that the lines change
abbrev pub with_parts : State → List (Option Task) → List Bool → List (List Block) → State
with_parts s slots waiting kept = record s { slots = slots; waiting = waiting; «data» = kept }

-- the line may stand

loses_none : (s : State) (id : ℕ) → s.owed ≡ Dark 0 → first_lost s.slots ≡ Some id → line_rule s (Lost id) ≡ None
unfolding line_rule holds lost_holds
loses_none s id owed first = rw (owed, first, eq-eqb id id refl) refl

loses_fits : (s : State) (id : ℕ) → s.owed ≡ Dark 0 → s.event ≡ Untold → first_lost s.slots ≡ Some id → Fits s (Lost id)
loses_fits s id owed event first = record { line = loses_none s id owed first; stands = ap (λ told. stands_in s told (Lost id)) event; first = refl }

loses_goes : (s : State) (id : ℕ) → s.owed ≡ Dark 0 → goes_on s s.owed (Lost id) ≡ true
loses_goes s id owed = rw owed refl

loses_effect : (s : State) (id : ℕ) (slots : List (Option Task)) (waiting : List Bool) (kept : List (List Block)) → s.event ≡ Untold
    → effect (with_parts s slots waiting kept) (Lost id) ≡ with_parts s (changed_from (Answer id) 0 slots) (slice_set waiting (id - 1) false) (without_data kept (tag_with id slots))
unfolding effect after_lost changed_slots
loses_effect s id slots waiting kept event =
    ap (λ told. record (with_parts s (changed_from (Answer id) 0 slots) (slice_set waiting (id - 1) false) (without_data kept (tag_with id slots))) { event = told }) (sym event)

-- what is so when the requests up to the last are lost
record IsLosing (waiting : List Bool) (s : State) (last : ℕ) (w : List Bool) (d : List (List Block)) : Type 0 where
  long : length w ≡ length waiting
  waits : (place : ℕ) → ((tag : ℕ) → id_of (slot_at (map (kept_above last) s.slots) tag) ≢ place + 1) → slice_index_or w place false ≡ slice_index_or waiting place false
  kept : length d ≡ 32
  empty : (tag : ℕ) → slot_at (map (kept_above last) s.slots) tag ≡ None → slice_index_or d tag [] ≡ []

issued_all : (waiting : List Bool) (s : State) → IsCut waiting s → AreIssued s.slots
issued_all waiting s cut = all_slots (λ slot. IfSome slot (λ task. asks_of IsIssued task.standing ≡ true)) s.slots (λ tag. issued (slot_at s.slots tag) (cut.held tag))
  where
    issued : (slot : Option Task) → IfSome slot (IsHeldBy waiting) → IfSome slot (λ task. asks_of IsIssued task.standing ≡ true)
    issued None is = tt
    issued (Some task) is = is.issued

held_at : (waiting : List Bool) (s : State) (tag : ℕ) (task : Task) → IsCut waiting s → slot_at s.slots tag ≡ Some task → IsHeldBy waiting task
held_at waiting s tag task cut at = subst (λ slot. IfSome slot (IsHeldBy waiting)) at (cut.held tag)

none_len : {X : Type 0} (p : X → Bool) (xs : List X) (i : ℕ) (d : X) → length xs ≤ position_or_len p xs → p d ≡ false → p (get_or xs i d) ≡ false
none_len p [] i d past off = off
none_len p (x ∷ xs) zero d past off = elim (cases_Bool (p x)) [
  | inl here ↦ let none = rw here at past in absurd (omega (arith, none))
  | inr other ↦ other
]
none_len p (x ∷ xs) (suc i) d past off = elim (cases_Bool (p x)) [
  | inl here ↦ let none = rw here at past in absurd (omega (arith, none))
  | inr other ↦ let more = rw other at past in none_len p xs i d (omega (arith, more)) off
]

none_found : {X : Type 0} (p : X → Bool) (xs : List X) (i : ℕ) (d : X) → position p xs ≡ None → p d ≡ false → p (get_or xs i d) ≡ false
none_found p xs i d found off = none_len p xs i d (elim (cases_Bool (nat_lt (position_or_len p xs) (length xs))) [
  | inl some ↦ absurd (cc (rw some at found))
  | inr none ↦ ltb-false (position_or_len p xs) (length xs) none
]) off

-- one request

module _ (waiting : List Bool) (s : State) (cut : IsCut waiting s) (last id : ℕ) (w : List Bool) (d : List (List Block)) (losing : IsLosing waiting s last w d) (next : next_lost last (ids_in s.slots) ≡ Some id) where
  abbrev slots : List (Option Task)
  slots = map (kept_above last) s.slots

  after : changed_from (Answer id) 0 slots ≡ map (kept_above id) s.slots
  after = lost_slots last id 0 s.slots (next_above last (ids_in s.slots) id next) (next_lowest last (ids_in s.slots) id next)

  task_of : HasTask s.slots id
  unfolding next_lost
  task_of = next_task last id s.slots next

  still : (tag : ℕ) (task : Task) → slot_at slots tag ≡ Some task → slot_at s.slots tag ≡ Some task
  still tag task at = was_there last (slot_at s.slots tag) task (sym (slot_kept last tag s.slots) ∙ at)

  waits_more : (place : ℕ) → ((tag : ℕ) → id_of (slot_at (map (kept_above id) s.slots) tag) ≢ place + 1) → slice_index_or (slice_set w (id - 1) false) place false ≡ slice_index_or waiting place false
  waits_more place none =
      let found = task_of in
      let held = held_at waiting s found.tag found.task cut found.at in
      let is = found.is in
      let over = held.above in
      elim (cases_eq place (id - 1)) [
        | inl same ↦
            let there : found.task.id - 1 ≡ place = omega (arith, is, same) in
            let off : slice_index_or waiting place false ≡ false = subst (λ i. slice_index_or waiting i false ≡ false) there held.waits in
            subst (λ i. slice_index_or (slice_set w i false) place false ≡ slice_index_or waiting place false) same (value_set w place false ∙ sym off)
        | inr apart ↦
            let other : place + 1 ≢ id = λ e. apart (omega (arith, e)) in
            get_or-set_other w (id - 1) place false false apart
            ∙ losing.waits place (λ tag at. none tag (ap id_of (sym (ap (λ xs. slot_at xs tag) after) ∙ slot_after id 0 tag slots) ∙ id_stays id (0 + tag) (place + 1) (slot_at slots tag) other at))
      ]

  tag_at : (tag : ℕ) (task : Task) (best : Option ℕ) → position (λ slot. id_of slot == id) slots ≡ best → slot_at slots tag ≡ Some task → task.id ≡ id → best ≡ Some tag
  tag_at tag task (Some other) found at is =
      let that = position-Some (λ slot. id_of slot == id) slots other None found in
      ap Some (same_tag other (slot_at slots other) refl that.1)
    where
      same_tag : (other : ℕ) (slot : Option Task) → slot_at slots other ≡ slot → (id_of slot == id) ≡ true → other ≡ tag
      same_tag other None there one =
          let zero_is = eqb-true 0 id one in
          let over = next_above last (ids_in s.slots) id next in
          absurd (omega (arith, zero_is, over))
      same_tag other (Some that) there one = cut.apart other tag that task (still other that there) (still tag task at) (eqb-true that.id id one ∙ sym is)
  tag_at tag task None found at is = absurd (both_ways (id_of (slot_at slots tag) == id) (none_found (λ slot. id_of slot == id) slots tag None found (let over = next_above last (ids_in s.slots) id next in ne_eqb 0 id (omega (arith, over)))) (ap (λ slot. id_of slot == id) at ∙ eq-eqb task.id id is))

  empty_more : (tag : ℕ) → slot_at (map (kept_above id) s.slots) tag ≡ None → slice_index_or (without_data d (tag_with id slots)) tag [] ≡ []
  empty_more tag none =
      data_empty d (tag_with id slots) tag (elim (was_lost id (0 + tag) (slot_at slots tag) (sym (slot_after id 0 tag slots) ∙ (ap (λ xs. slot_at xs tag) after ∙ none))) [
        | inl gone ↦ inl (losing.empty tag gone)
        | inr lost ↦ inr (tag_at tag lost.0 (tag_with id slots) refl lost.1 lost.2)
      ])

  loses_more : IsLosing waiting s id (slice_set w (id - 1) false) (without_data d (tag_with id slots))
  loses_more = record {
    long = length_set w (id - 1) false ∙ losing.long;
    waits = waits_more;
    kept = data_long d (tag_with id slots) ∙ losing.kept;
    empty = empty_more;
  }

  effect_more : effect (with_parts s slots w d) (Lost id) ≡ with_parts s (map (kept_above id) s.slots) (slice_set w (id - 1) false) (without_data d (tag_with id slots))
  effect_more =
      loses_effect s id slots w d cut.event ∙ ap (λ xs. with_parts s xs (slice_set w (id - 1) false) (without_data d (tag_with id slots))) after

  fits_more : Fits (with_parts s slots w d) (Lost id)
  fits_more = loses_fits (with_parts s slots w d) id cut.owed cut.event (lost_is last s.slots (issued_all waiting s cut) ∙ next)

-- all of them

abbrev no_slot : Option Task
no_slot = None

all_none : (n : ℕ) (slots : List (Option Task)) → length slots ≡ n → map (λ slot. no_slot) slots ≡ replicate n no_slot
all_none zero [] long = refl
all_none (suc n) [] long = absurd (omega (arith, long))
all_none zero (slot ∷ slots) long = absurd (omega (arith, long))
all_none (suc n) (slot ∷ slots) long = ap (λ more. no_slot ∷ more) (all_none n slots (omega (arith, long)))

parts_same : (s : State) {slots slots' : List (Option Task)} {w w' : List Bool} {d d' : List (List Block)} → slots ≡ slots' → w ≡ w' → d ≡ d' → with_parts s slots w d ≡ with_parts s slots' w' d'
parts_same s {slots} {slots'} {w} {w'} {d} {d'} a b c = ap (λ x. with_parts s x w d) a ∙ (ap (λ x. with_parts s slots' x d) b ∙ ap (λ x. with_parts s slots' w' x) c)

tasks_none : replicate 32 no_slot ≡ no_tasks
unfolding no_tasks
tasks_none = refl

nothing_left : (waiting : List Bool) (s : State) → IsCut waiting s → (last : ℕ) (w : List Bool) (d : List (List Block)) → IsLosing waiting s last w d → next_lost last (ids_in s.slots) ≡ None
    → with_parts s (map (kept_above last) s.slots) w d ≡ all_lost s waiting
nothing_left waiting s cut last w d losing none =
    let gone : map (kept_above last) s.slots ≡ map (λ slot. no_slot) s.slots = none_kept last s.slots (none_above last (ids_in s.slots) none) in
    let no_slot_at : (tag : ℕ) → slot_at (map (kept_above last) s.slots) tag ≡ None = λ tag. ap (λ xs. slot_at xs tag) gone ∙ get_or-map (λ slot. no_slot) s.slots tag no_slot in
    let kept = losing.kept in
    parts_same s (gone ∙ (all_none 32 s.slots cut.slots ∙ tasks_none))
    (ext_get_or false w waiting losing.long (λ i below. losing.waits i (λ tag at. let zero_is = sym (ap id_of (no_slot_at tag)) ∙ at in omega (arith, zero_is))))
    (ext_get_or no_blocks d no_data kept (λ i below. losing.empty i (no_slot_at i) ∙ sym (get_or-replicate 32 i no_blocks no_blocks (omega (arith, below, kept)))))

lose : (waiting : List Bool) (s : State) → IsCut waiting s → (all : Bool) (ids : List ℕ) (last : ℕ) (w : List Bool) (d : List (List Block)) → IsLosing waiting s last w d
    → AreLost last (ids_in s.slots) all ids → LosesRequests (with_parts s (map (kept_above last) s.slots) w d) waiting all (lost_lines ids)
lose waiting s cut all [] last w d losing lost = record {
  last = with_parts s (map (kept_above last) s.slots) w d;
  follow = record { more = refl; stays = tt };
  whole = λ whole. nothing_left waiting s cut last w d losing (lost whole);
  base = refl;
  pend = refl;
}
lose waiting s cut all (id ∷ ids) last w d losing lost =
    let next : next_lost last (ids_in s.slots) ≡ Some id = lost.0 in
    let rest = lose waiting s cut all ids id (slice_set w (id - 1) false) (without_data d (tag_with id (map (kept_above last) s.slots))) (loses_more waiting s cut last id w d losing next) lost.1 in
    let to = effect_more waiting s cut last id w d losing next in
    record {
      last = rest.last;
      follow = record {
        more = (loses_goes (with_parts s (map (kept_above last) s.slots) w d) id cut.owed, fits_more waiting s cut last id w d losing next, subst (λ u. More u (lost_lines ids) rest.last) (sym to) rest.follow.more);
        stays = (refl, subst (λ u. StaysSo u (lost_lines ids)) (sym to) rest.follow.stays);
      };
      whole = rest.whole;
      base = rest.base;
      pend = rest.pend;
    }

pub lost_shown : (waiting : List Bool) (s : State) (all : Bool) (ids : List ℕ) → AreLostShown waiting s all ids
lost_shown waiting s all ids cut lost =
    let first = first_kept s.slots (λ tag. numbered (slot_at s.slots tag) (cut.held tag)) in
    let losing : IsLosing waiting s 0 s.waiting s.data = record {
      long = cut.long;
      waits = λ place none. cut.waits place (λ tag at. none tag (ap (λ xs. id_of (slot_at xs tag)) first ∙ at));
      kept = cut.kept;
      empty = λ tag none. cut.empty tag (sym (ap (λ xs. slot_at xs tag) first) ∙ none);
    } in
    subst (λ xs. LosesRequests (with_parts s xs s.waiting s.data) waiting all (lost_lines ids)) first (lose waiting s cut all ids 0 s.waiting s.data losing lost)
  where
    numbered : (slot : Option Task) → IfSome slot (IsHeldBy waiting) → IfSome slot (λ task. 1 ≤ task.id)
    numbered None is = tt
    numbered (Some task) is = is.above

    first_kept : (slots : List (Option Task)) → ((tag : ℕ) → IfSome (slot_at slots tag) (λ task. 1 ≤ task.id)) → map (kept_above 0) slots ≡ slots
    first_kept [] each = refl
    first_kept (None ∷ slots) each = ap (λ more. None ∷ more) (first_kept slots (λ tag. each (suc tag)))
    first_kept (Some task ∷ slots) each =
        let over : 1 ≤ task.id = each 0 in
        let test : nat_lt 0 task.id ≡ true = lt-ltb 0 task.id (omega (arith, over)) in
        rw test (ap (λ more. Some task ∷ more) (first_kept slots (λ tag. each (suc tag))))

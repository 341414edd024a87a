-- What the storage machine's state says of a tag, and its slots after one task moved.
use Rattle.std.proofs.Common.{◌≡◌, ◌≢◌, ◌<◌, ℕ, suc, cond, length, get_or, refl, sym, ◌∙◌, ap, subst, arith, inl, inr, zero-add}
use Rattle.std.specs.Prelude.{List, [], ◌∷◌, Option, Some, None}
use Rattle.std.specs.Option.{option_map}
use Rattle.std.proofs.lemmas.Bool.{eq-eqb, ne_eqb}
use Rattle.std.proofs.lemmas.Bool.Decides.{eqb_tells}
use Rattle.std.proofs.lemmas.List.FromFn.{get_or-map-range_with_len, length-map-range_with_len}
use Rattle.cq_schedule.specs.Held.{slots}
use Rattle.drv_core.specs.State.{DriverState}
use Rattle.drv_jobs.specs.Sound.{IsHeld}
use Rattle.drv_jobs.specs.Standings.{holder_of}
use Rattle.storage_machine.specs.Slots.{changed, changed_from, changed_slots, id_of, slot_at}
use Rattle.storage_machine.specs.declared.slots.Change.{Change}
use Rattle.storage_machine.specs.declared.slots.Change.TheVariants.{Move}
use Rattle.storage_machine.specs.declared.state.Standing.{Standing}
use Rattle.storage_machine.specs.declared.state.Task.{Task}
use Rattle.storage_machine.proofs.Changes.{changed_from-at, length-changed_from}
use Rattle.world_state.specs.Path.{PathState, holder}
use Rattle.world_state.specs.Reading.{standing_at, task_at, tasks_of}
use Rattle.world_state.specs.Ties.{AreTied}

-- the task of a tag
pub slot_is : (p : PathState) (tag : ℕ) → tag < 32 → slot_at (tasks_of p) tag ≡ task_at p tag
unfolding slots tasks_of
slot_is p tag below = get_or-map-range_with_len (task_at p) 0 32 tag tag None below (zero-add tag)

pub id_is : (p : PathState) (tag id : ℕ) → tag < 32 → holder p tag ≡ Some id → id_of (slot_at (tasks_of p) tag) ≡ id
id_is p tag id below e =
    ap id_of (slot_is p tag below) ∙ ap (λ o. id_of (option_map (λ id. record { id = id; standing = standing_at p tag }) o)) e

long : (p : PathState) → length (tasks_of p) ≡ 32
unfolding slots tasks_of
long p = length-map-range_with_len (task_at p) 0 32

-- lists that have the same at each place are the same
pub same_list : {A : Type 0} (d : A) (xs ys : List A) → length xs ≡ length ys → ((i : ℕ) → i < length xs → get_or xs i d ≡ get_or ys i d) → xs ≡ ys
same_list d [] [] size same = refl
same_list d [] (y ∷ ys) size same = absurd (cc size)
same_list d (x ∷ xs) [] size same = absurd (cc size)
same_list d (x ∷ xs) (y ∷ ys) size same =
    ap (λ z. z ∷ xs) (same 0 (omega arith)) ∙ ap (λ zs. y ∷ zs) (same_list d xs ys (omega (arith, size)) (λ i low. same (suc i) (omega (arith, low))))

-- so slots are those after a change where each is
pub slots_by : (p q : PathState) (change : Change) → ((tag : ℕ) → tag < 32 → task_at q tag ≡ changed change tag (task_at p tag))
    → tasks_of q ≡ changed_slots change (tasks_of p)
unfolding changed_slots
slots_by p q change each =
    let none : Option Task = None in
    same_list none (tasks_of q) (changed_from change 0 (tasks_of p)) (long q ∙ sym (long p) ∙ sym (length-changed_from change 0 (tasks_of p)))
    (λ i low.
    let below : i < 32 = subst (λ n. i < n) (long q) low in
    let inside : i < length (tasks_of p) = subst (λ n. i < n) (sym (long p)) below in
    slot_is q i below ∙ each i below
    ∙ sym (changed_from-at change 0 i (tasks_of p) none inside ∙ ap (λ t. changed change t (slot_at (tasks_of p) i)) (zero-add i)
    ∙ ap (changed change i) (slot_is p i below)))

-- or as they were
pub slots_same : (p q : PathState) → ((tag : ℕ) → tag < 32 → task_at q tag ≡ task_at p tag) → tasks_of q ≡ tasks_of p
slots_same p q each =
    let none : Option Task = None in
    same_list none (tasks_of q) (tasks_of p) (long q ∙ sym (long p))
    (λ i low.
    let below : i < 32 = subst (λ n. i < n) (long q) low in
    slot_is q i below ∙ each i below ∙ sym (slot_is p i below))

-- the task of one request moved, where the others stand as they did
moved_at : (p q : PathState) (slot id tag : ℕ) (standing : Standing) (o : Option ℕ) → holder p tag ≡ o → AreTied p → holder p slot ≡ Some id
    → standing_at q slot ≡ standing → ((tag : ℕ) → tag ≢ slot → standing_at q tag ≡ standing_at p tag)
    → option_map (λ id. record { id = id; standing = standing_at q tag }) o
    ≡ changed (Move id standing) tag (option_map (λ id. record { id = id; standing = standing_at p tag }) o)
moved_at p q slot id tag standing None e t is at others = refl
moved_at p q slot id tag standing (Some other) e t is at others =
    elim (eqb_tells other id) [
      | inl same ↦
          let held : IsHeld p.driver.requests.waiting p.driver.requests.holders slot id = t.sound.held slot id is in
          let same_tag : tag ≡ slot = held.apart tag (e ∙ ap (λ n. Some n) same.1) in
          let task : Standing → Option Task = λ s. Some (record { id = other; standing = s }) in
          ap task (ap (standing_at q) same_tag ∙ at)
          ∙ sym (ap (λ b. cond b (task standing) (task (standing_at p tag))) (eq-eqb other id same.1))
      | inr apart ↦
          let task : Standing → Option Task = λ s. Some (record { id = other; standing = s }) in
          let other_tag : tag ≢ slot = λ same_tag. apart.1 (some_same other id (sym e ∙ ap (holder p) same_tag ∙ is)) in
          ap task (others tag other_tag)
          ∙ sym (ap (λ b. cond b (task standing) (task (standing_at p tag))) (ne_eqb other id apart.1))
    ]
  where
    some_same : (a b : ℕ) → Some a ≡ Some b → a ≡ b
    some_same a b e = cc e

pub slots_moved : (p q : PathState) (slot id : ℕ) (standing : Standing) → AreTied p → q.driver ≡ p.driver → holder p slot ≡ Some id
    → standing_at q slot ≡ standing → ((tag : ℕ) → tag ≢ slot → standing_at q tag ≡ standing_at p tag)
    → tasks_of q ≡ changed_slots (Move id standing) (tasks_of p)
slots_moved p q slot id standing t driver is at others =
    slots_by p q (Move id standing)
    (λ tag below.
    ap (λ (d : DriverState). option_map (λ id. record { id = id; standing = standing_at q tag }) (holder_of d.requests.holders tag)) driver
    ∙ moved_at p q slot id tag standing (holder p tag) refl t is at others)

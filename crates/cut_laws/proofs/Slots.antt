-- What is left of the slots where one more request is lost.
use Rattle.std.proofs.Common.{◌≡◌, ◌≢◌, ◌∙◌, ℕ, zero, suc, ◌+◌, ◌<◌, ◌≤◌, ◌⊎◌, inl, inr, false, ◌==◌, nat_lt, Option, Some, None, min, All, List, [], ◌∷◌, fold, map, length, get_or, slice_set, slice_index_or, refl, ap, sym, subst, arith}
use Rattle.std.proofs.lemmas.Bool.{both_ways, cases_Bool, cases_eq, cases_lt, eqb-true, eqb-false, lt-ltb, le-ltb}
use Rattle.std.proofs.lemmas.List.{get_or-set_other}
use Rattle.std.proofs.lemmas.List.Elements.{All-nil, All-cons, All-head, All-tail}
use Rattle.std.proofs.Math.ListN.{get_or-map}
use Rattle.storage_machine.specs.Slots.{changed, changed_from, id_of, slot_at}
use Rattle.storage_machine.specs.declared.slots.Change.TheVariants.{Answer}
use Rattle.storage_machine.specs.declared.state.Task.{Task}
use Rattle.trace_effects.specs.Effects.{without_data}
use Rattle.storage_model.specs.declared.block.Block.{Block}
use Rattle.cut_laws.proofs.Numbers.{IsFrom, kept_above}
use Rattle.cut_laws.specs.Lost.{above, id_in, lower}

pub all_slots : {X : Type 0} (P : Option X → Type 0) (xs : List (Option X)) → ((tag : ℕ) → P (get_or xs tag None)) → All P xs
all_slots P [] each = All-nil P
all_slots P (x ∷ xs) each = All-cons P x xs (each 0) (all_slots P xs (λ tag. each (suc tag)))

pub lost_slots : (last id tag : ℕ) (slots : List (Option Task)) → last < id → All (IsFrom id) (map (above last) (map id_in slots))
    → changed_from (Answer id) tag (map (kept_above last) slots) ≡ map (kept_above id) slots
lost_slots last id tag [] less all = refl
lost_slots last id tag (None ∷ slots) less all =
    ap (λ more. None ∷ more) (lost_slots last id (tag + 1) slots less (All-tail (IsFrom id) None (map (above last) (map id_in slots)) all))
lost_slots last id tag (Some task ∷ slots) less all =
    let head : IsFrom id (above last (Some task.id)) = All-head (IsFrom id) (above last (Some task.id)) (map (above last) (map id_in slots)) all in
    let rest = lost_slots last id (tag + 1) slots less (All-tail (IsFrom id) (above last (Some task.id)) (map (above last) (map id_in slots)) all) in
    elim (cases_Bool (nat_lt last task.id)) [
      | inl over ↦
          let under : id ≤ task.id = rw over at head in
          elim (cases_Bool (task.id == id)) [
            | inl same ↦
                let is = eqb-true task.id id same in
                rw (over, same, le-ltb id task.id (omega (arith, is))) (ap (λ more. None ∷ more) rest)
            | inr other ↦
                let not = eqb-false task.id id other in
                rw (over, other, lt-ltb id task.id (omega (arith, not, under))) (ap (λ more. Some task ∷ more) rest)
          ]
      | inr below ↦
          let out : nat_lt id task.id ≡ false = le-ltb id task.id (lower_than last id task.id less below) in
          rw (below, out) (ap (λ more. None ∷ more) rest)
    ]
  where
    lower_than : (last id n : ℕ) → last < id → nat_lt last n ≡ false → n ≤ id
    lower_than last id n less below = elim (cases_lt last n) [
      | inl more ↦ absurd (both_ways (nat_lt last n) below (lt-ltb last n more))
      | inr at ↦ omega (arith, less, at)
    ]

-- slot by slot

pub slot_after : (id start tag : ℕ) (slots : List (Option Task)) → slot_at (changed_from (Answer id) start slots) tag ≡ changed (Answer id) (start + tag) (slot_at slots tag)
slot_after id start tag [] = refl
slot_after id start zero (slot ∷ slots) = let same : start ≡ start + 0 = omega arith in ap (λ t. changed (Answer id) t slot) same
slot_after id start (suc tag) (slot ∷ slots) =
    let same : start + 1 + tag ≡ start + suc tag = omega arith in
    slot_after id (start + 1) tag slots ∙ ap (λ t. changed (Answer id) t (slot_at slots tag)) same

pub slot_kept : (last tag : ℕ) (slots : List (Option Task)) → slot_at (map (kept_above last) slots) tag ≡ kept_above last (slot_at slots tag)
slot_kept last tag slots = get_or-map (kept_above last) slots tag None

-- a slot that is left was there, and one that isn't was empty or the lost request's

pub was_there : (last : ℕ) (slot : Option Task) (task : Task) → kept_above last slot ≡ Some task → slot ≡ Some task
was_there last None task is = absurd (cc)
was_there last (Some other) task is =
    elim (cases_Bool (nat_lt last other.id)) [
      | inl over ↦ rw over at is
      | inr under ↦ absurd (cc (rw under at is))
    ]

pub id_stays : (id tag n : ℕ) (slot : Option Task) → n ≢ id → id_of slot ≡ n → id_of (changed (Answer id) tag slot) ≡ n
id_stays id tag n None apart is = is
id_stays id tag n (Some task) apart is =
    elim (cases_Bool (task.id == id)) [
      | inl same ↦ absurd (apart (sym is ∙ eqb-true task.id id same))
      | inr other ↦ rw other is
    ]

pub was_lost : (id tag : ℕ) (slot : Option Task) → changed (Answer id) tag slot ≡ None → (slot ≡ None) ⊎ ((task : Task) × (slot ≡ Some task) × (task.id ≡ id))
was_lost id tag None is = inl refl
was_lost id tag (Some task) is =
    elim (cases_Bool (task.id == id)) [
      | inl same ↦ inr (task, refl, eqb-true task.id id same)
      | inr other ↦ absurd (cc (rw other at is))
    ]

-- the lowest request is on a slot

lowest_in : (best : Option ℕ) (xs : List (Option ℕ)) (id : ℕ) → fold lower best xs ≡ Some id → (best ≡ Some id) ⊎ ((tag : ℕ) × (get_or xs tag None ≡ Some id))
lowest_in best [] id is = inl is
lowest_in best (None ∷ xs) id is = elim (lowest_in best xs id is) [
  | inl first ↦ inl first
  | inr later ↦ inr (suc later.0, later.1)
]
lowest_in None (Some n ∷ xs) id is = elim (lowest_in (Some n) xs id is) [
  | inl first ↦ inr (0, first)
  | inr later ↦ inr (suc later.0, later.1)
]
lowest_in (Some m) (Some n ∷ xs) id is = elim (lowest_in (Some (min m n)) xs id is) [
  | inl first ↦ elim (cases_lt m n) [
    | inl less ↦ let same : min m n ≡ m = omega arith in inl (sym (ap Some same) ∙ first)
    | inr more ↦ let same : min m n ≡ n = omega arith in inr (0, sym (ap Some same) ∙ first)
  ]
  | inr later ↦ inr (suc later.0, later.1)
]

number_of : (last id : ℕ) (task : Task) → above last (Some task.id) ≡ Some id → task.id ≡ id
number_of last id task is =
    elim (cases_Bool (nat_lt last task.id)) [
      | inl over ↦ let same = rw over at is in cc
      | inr under ↦ absurd (cc (rw under at is))
    ]

pub record HasTask (slots : List (Option Task)) (id : ℕ) : Type 0 where
  pub tag : ℕ
  pub task : Task
  pub at : slot_at slots tag ≡ Some task
  pub is : task.id ≡ id

slot_with : (last id tag : ℕ) (slots : List (Option Task)) → get_or (map (above last) (map id_in slots)) tag None ≡ Some id → HasTask slots id
slot_with last id tag [] is = absurd (cc)
slot_with last id zero (None ∷ slots) is = absurd (cc)
slot_with last id zero (Some task ∷ slots) is = record { tag = 0; task = task; at = refl; is = number_of last id task is }
slot_with last id (suc tag) (slot ∷ slots) is = let rest = slot_with last id tag slots is in record { tag = suc rest.tag; task = rest.task; at = rest.at; is = rest.is }

pub next_task : (last id : ℕ) (slots : List (Option Task)) → fold lower None (map (above last) (map id_in slots)) ≡ Some id → HasTask slots id
next_task last id slots is = elim (lowest_in None (map (above last) (map id_in slots)) id is) [
  | inl first ↦ absurd (cc)
  | inr later ↦ slot_with last id later.0 slots later.1
]

-- lists with another value at a place

pub value_set : {X : Type 0} (xs : List X) (i : ℕ) (y : X) → slice_index_or (slice_set xs i y) i y ≡ y
value_set [] i y = refl
value_set (x ∷ xs) zero y = refl
value_set (x ∷ xs) (suc i) y = value_set xs i y

pub length_set : {X : Type 0} (xs : List X) (i : ℕ) (y : X) → length (slice_set xs i y) ≡ length xs
length_set [] i y = refl
length_set (x ∷ xs) zero y = refl
length_set (x ∷ xs) (suc i) y = let more = length_set xs i y in omega (arith, more)

-- the data of the lost request's tag is gone

abbrev pub no_blocks : List Block
no_blocks = []

pub data_long : (kept : List (List Block)) (best : Option ℕ) → length (without_data kept best) ≡ length kept
data_long kept None = refl
data_long kept (Some tag) = length_set kept tag no_blocks

pub data_empty : (kept : List (List Block)) (best : Option ℕ) (tag : ℕ) → (slice_index_or kept tag no_blocks ≡ no_blocks) ⊎ (best ≡ Some tag) → slice_index_or (without_data kept best) tag no_blocks ≡ no_blocks
data_empty kept None tag (inl was) = was
data_empty kept None tag (inr at) = absurd (cc)
data_empty kept (Some other) tag (inr at) = let same : other ≡ tag = cc in subst (λ t. slice_index_or (slice_set kept other no_blocks) t no_blocks ≡ no_blocks) same (value_set kept other no_blocks)
data_empty kept (Some other) tag (inl was) = elim (cases_eq tag other) [
  | inl same ↦ subst (λ t. slice_index_or (slice_set kept other no_blocks) t no_blocks ≡ no_blocks) (sym same) (value_set kept other no_blocks)
  | inr apart ↦ get_or-set_other kept other tag no_blocks no_blocks apart ∙ was
]

-- How often a request is still to be answered: it waits, or a task of it stands on a slot.
use Rattle.std.proofs.Common.{inl, inr, ◌≡◌, ◌∙◌, ℕ, zero, suc, ◌+◌, ◌-◌, ◌≤◌, ◌<◌, ◌==◌, Bool, true, false, cond, ◌&&◌, not, nat_lt, Option, Some, None, List, [], ◌∷◌, length, fold, slice_set, slice_index_or, refl, ap, ap₂, sym, subst, arith, get_or-set_other, get_or-set_same}
use Rattle.std.proofs.lemmas.Bool.{and_from, and_parts, both_ways, cases_eq, cond_both, eq-eqb, eqb-true, false≢true, ltb-true, ne_eqb, or_cases, or_from}
use Rattle.std.specs.Int.{bit_at}
use Rattle.std.specs.List.{list_any}
use Rattle.one_trace.proofs.Slots.{some_at, some_changed}
use Rattle.storage_machine.proofs.Changes.{length-changed_from}
use Rattle.storage_machine.specs.Commands.{is_calm}
use Rattle.storage_machine.specs.Slots.{asks_of, changed, changed_from, changed_slots, id_of, moved, no_tasks, slot_at}
use Rattle.storage_machine.specs.declared.slots.Change.{Change}
use Rattle.storage_machine.specs.declared.slots.Change.TheVariants.{MakeReady, Collect, Move, Answer}
use Rattle.storage_machine.specs.declared.slots.Question.TheVariants.{Sent as IsSent, Done as IsDone}
use Rattle.storage_machine.specs.declared.state.Recovery.{Recovery}
use Rattle.storage_machine.specs.declared.state.Standing.{Standing}
use Rattle.storage_machine.specs.declared.state.Standing.TheVariants.{Rung, Named, Sent, Ready, Done, Collected, Held}
use Rattle.storage_machine.specs.declared.state.Task.{Task}
use Rattle.trace_effects.specs.Effects.{waiting_with, with_held}

abbrev pub bit : Bool → ℕ
bit true = 1
bit false = 0

pub bit_le : (b : Bool) → bit b ≤ 1
bit_le true = omega arith
bit_le false = omega arith

-- whether it waits, as a number
abbrev pub waits : ℕ → List Bool → ℕ
waits zero waiting = 0
waits (suc place) waiting = bit (slice_index_or waiting place false)

-- a task of it is on the slot
abbrev pub is_on : ℕ → Option Task → Bool
is_on id None = false
is_on id (Some task) = task.id == id

abbrev pub tasks : ℕ → List (Option Task) → ℕ
tasks id [] = 0
tasks id (slot ∷ slots) = bit (is_on id slot) + tasks id slots

-- the tasks that a recovery holds are of requests that wait again
abbrev pub pending : ℕ → List Bool → Recovery → List (Option Task) → ℕ
pending id waiting recovery slots = waits id waiting + cond (is_calm recovery) (tasks id slots) 0

-- once, where the number is that of a request
abbrev pub room : ℕ → ℕ → ℕ
room count zero = 0
room count (suc place) = bit (nat_lt place count)

pub room_le : (count id : ℕ) → room count id ≤ 1
room_le count zero = omega arith
room_le count (suc place) = bit_le (nat_lt place count)

-- slots

pub tasks_set : (id : ℕ) (slots : List (Option Task)) (tag : ℕ) (slot : Option Task) → tag < length slots → tasks id (slice_set slots tag slot) + bit (is_on id (slot_at slots tag)) ≡ tasks id slots + bit (is_on id slot)
tasks_set id [] tag slot below = absurd (omega arith)
tasks_set id (x ∷ xs) zero slot below = omega arith
tasks_set id (x ∷ xs) (suc tag) slot below = omega (arith, tasks_set id xs tag slot (omega arith))

tasks_from : (id : ℕ) (change : Change) → ((tag : ℕ) (slot : Option Task) → is_on id (changed change tag slot) ≡ is_on id slot) → (tag : ℕ) (slots : List (Option Task)) → tasks id (changed_from change tag slots) ≡ tasks id slots
tasks_from id change same tag [] = refl
tasks_from id change same tag (slot ∷ slots) = ap₂ (λ b n. bit b + n) (same tag slot) (tasks_from id change same (tag + 1) slots)

tasks_changed : (id : ℕ) (change : Change) → ((tag : ℕ) (slot : Option Task) → is_on id (changed change tag slot) ≡ is_on id slot) → (slots : List (Option Task)) → tasks id (changed_slots change slots) ≡ tasks id slots
unfolding changed_slots
tasks_changed id change same slots = tasks_from id change same 0 slots

on_either : (id : ℕ) (b : Bool) (x y : Option Task) (v : Bool) → (b ≡ true → is_on id x ≡ v) → is_on id y ≡ v → is_on id (cond b x y) ≡ v
on_either id b x y v left right = cond_both b x y (λ slot. is_on id slot ≡ v) left (λ e. right)

on_ready : (id word tag : ℕ) (slot : Option Task) → is_on id (changed (MakeReady word) tag slot) ≡ is_on id slot
on_ready id word tag None = refl
on_ready id word tag (Some task) = on_either id (asks_of IsSent task.standing && (bit_at word tag == 1)) (moved Ready task) (Some task) (task.id == id) (λ e. refl) refl

on_collect : (id tag : ℕ) (slot : Option Task) → is_on id (changed Collect tag slot) ≡ is_on id slot
on_collect id tag None = refl
on_collect id tag (Some task) = on_either id (asks_of IsDone task.standing) (moved Collected task) (Some task) (task.id == id) (λ e. refl) refl

on_move : (id other : ℕ) (standing : Standing) (tag : ℕ) (slot : Option Task) → is_on id (changed (Move other standing) tag slot) ≡ is_on id slot
on_move id other standing tag None = refl
on_move id other standing tag (Some task) = on_either id (task.id == other) (moved standing task) (Some task) (task.id == id) (λ e. refl) refl

on_answer : (id other : ℕ) → (other == id) ≡ false → (tag : ℕ) (slot : Option Task) → is_on id (changed (Answer other) tag slot) ≡ is_on id slot
on_answer id other apart tag None = refl
on_answer id other apart tag (Some task) =
    on_either id (task.id == other) None (Some task) (task.id == id) (λ e. sym (ap (λ j. j == id) (eqb-true task.id other e) ∙ apart)) refl

pub tasks_ready : (id word : ℕ) (slots : List (Option Task)) → tasks id (changed_slots (MakeReady word) slots) ≡ tasks id slots
tasks_ready id word slots = tasks_changed id (MakeReady word) (on_ready id word) slots

pub tasks_collected : (id : ℕ) (slots : List (Option Task)) → tasks id (changed_slots Collect slots) ≡ tasks id slots
tasks_collected id slots = tasks_changed id Collect (on_collect id) slots

pub tasks_moved : (id other : ℕ) (standing : Standing) (slots : List (Option Task)) → tasks id (changed_slots (Move other standing) slots) ≡ tasks id slots
tasks_moved id other standing slots = tasks_changed id (Move other standing) (on_move id other standing) slots

pub tasks_apart : (id other : ℕ) (slots : List (Option Task)) → (other == id) ≡ false → tasks id (changed_slots (Answer other) slots) ≡ tasks id slots
tasks_apart id other slots apart = tasks_changed id (Answer other) (on_answer id other apart) slots

none_on : (id : ℕ) (b : Bool) (task : Task) → (task.id == id) ≡ b → is_on id (cond b None (Some task)) ≡ false
none_on id true task e = refl
none_on id false task e = e

off_answer : (id tag : ℕ) (slot : Option Task) → is_on id (changed (Answer id) tag slot) ≡ false
off_answer id tag None = refl
off_answer id tag (Some task) = none_on id (task.id == id) task refl

answered_from : (id tag : ℕ) (slots : List (Option Task)) → tasks id (changed_from (Answer id) tag slots) ≡ 0
answered_from id tag [] = refl
answered_from id tag (slot ∷ slots) = ap₂ (λ b n. bit b + n) (off_answer id tag slot) (answered_from id (tag + 1) slots)

pub tasks_answered : (id : ℕ) (slots : List (Option Task)) → tasks id (changed_slots (Answer id) slots) ≡ 0
unfolding changed_slots
tasks_answered id slots = answered_from id 0 slots

pub length_changed : (change : Change) (slots : List (Option Task)) → length (changed_slots change slots) ≡ length slots
unfolding changed_slots
length_changed change slots = length-changed_from change 0 slots

pub tasks_some : (id : ℕ) (slots : List (Option Task)) (tag : ℕ) → is_on id (slot_at slots tag) ≡ true → 1 ≤ tasks id slots
tasks_some id [] tag on = absurd (false≢true on)
tasks_some id (x ∷ xs) zero on = omega (arith, ap bit on)
tasks_some id (x ∷ xs) (suc tag) on = omega (arith, tasks_some id xs tag on)

pub tasks_none : (id : ℕ) → tasks id no_tasks ≡ 0
unfolding no_tasks
tasks_none id = refl

-- a task that the engine has

abbrev pub is_open : Standing → Bool
is_open Rung = true
is_open Named = true
is_open Sent = true
is_open Ready = true
is_open standing = false

abbrev pub open_slot : Option Task → Bool
open_slot None = false
open_slot (Some task) = is_open task.standing

abbrev pub is_live : ℕ → Option Task → Bool
is_live id slot = is_on id slot && open_slot slot

pub live_some : (id : ℕ) (slots : List (Option Task)) → list_any (is_live id) slots ≡ true → 1 ≤ tasks id slots
live_some id [] live = absurd (false≢true live)
live_some id (x ∷ xs) live =
    elim (or_cases (is_live id x) (list_any (is_live id) xs) live) [
      | inl here ↦ omega (arith, ap bit ((and_parts (is_on id x) (open_slot x) here).0))
      | inr later ↦ omega (arith, live_some id xs later)
    ]

-- no other task of its request is on a slot
pub live_only : (id : ℕ) (slots : List (Option Task)) (tag : ℕ) → tasks id slots ≤ 1 → list_any (is_live id) slots ≡ true → is_on id (slot_at slots tag) ≡ true → open_slot (slot_at slots tag) ≡ true
live_only id [] tag few live on = absurd (false≢true on)
live_only id (x ∷ xs) zero few live on =
    elim (or_cases (is_live id x) (list_any (is_live id) xs) live) [
      | inl here ↦ (and_parts (is_on id x) (open_slot x) here).1
      | inr later ↦ absurd (omega (arith, few, ap bit on, live_some id xs later))
    ]
live_only id (x ∷ xs) (suc tag) few live on =
    elim (or_cases (is_live id x) (list_any (is_live id) xs) live) [
      | inl here ↦ absurd (omega (arith, few, ap bit ((and_parts (is_on id x) (open_slot x) here).0), tasks_some id xs tag on))
      | inr later ↦ live_only id xs tag (omega (arith, few)) later on
    ]

on_own : (slot : Option Task) → open_slot slot ≡ true → is_on (id_of slot) slot ≡ true
on_own None opened = opened
on_own (Some task) opened = eq-eqb task.id task.id refl

pub live_at : (id : ℕ) (slots : List (Option Task)) (tag : ℕ) → id_of (slot_at slots tag) ≡ id → open_slot (slot_at slots tag) ≡ true → list_any (is_live id) slots ≡ true
live_at id slots tag same opened =
    some_at (is_live id) slots refl tag (and_from (is_on id (slot_at slots tag)) (open_slot (slot_at slots tag)) (ap (λ j. is_on j (slot_at slots tag)) (sym same) ∙ on_own (slot_at slots tag) opened) opened)

open_undone : (standing : Standing) → is_open standing ≡ true → asks_of IsDone standing ≡ false
open_undone Rung opened = refl
open_undone Named opened = refl
open_undone Sent opened = refl
open_undone Ready opened = refl
open_undone Done opened = absurd (false≢true opened)
open_undone Collected opened = refl
open_undone Held opened = refl

live_either : (id : ℕ) (b : Bool) (x y : Option Task) → b ≡ false → is_live id y ≡ true → is_live id (cond b x y) ≡ true
live_either id true x y off live = absurd (false≢true (sym off))
live_either id false x y off live = live

collect_live : (id tag : ℕ) (slot : Option Task) → is_live id slot ≡ true → is_live id (changed Collect tag slot) ≡ true
collect_live id tag None live = absurd (false≢true live)
collect_live id tag (Some task) live =
    live_either id (asks_of IsDone task.standing) (moved Collected task) (Some task) (open_undone task.standing ((and_parts (task.id == id) (is_open task.standing) live).1)) live

pub live_collected : (id : ℕ) (slots : List (Option Task)) → list_any (is_live id) slots ≡ true → list_any (is_live id) (changed_slots Collect slots) ≡ true
live_collected id slots live = some_changed (is_live id) Collect (collect_live id) slots live

apart_back : (id other : ℕ) → (other == id) ≡ false → (id == other) ≡ false
apart_back id other apart = ne_eqb id other (λ e. both_ways (other == id) apart (eq-eqb other id (sym e)))

answer_live : (id other : ℕ) → (other == id) ≡ false → (tag : ℕ) (slot : Option Task) → is_live id slot ≡ true → is_live id (changed (Answer other) tag slot) ≡ true
answer_live id other apart tag None live = absurd (false≢true live)
answer_live id other apart tag (Some task) live =
    let same = eqb-true task.id id ((and_parts (task.id == id) (is_open task.standing) live).0) in
    live_either id (task.id == other) None (Some task) (ap (λ j. j == other) same ∙ apart_back id other apart) live

pub live_answered : (id other : ℕ) (slots : List (Option Task)) → (other == id) ≡ false → list_any (is_live id) slots ≡ true → list_any (is_live id) (changed_slots (Answer other) slots) ≡ true
live_answered id other slots apart live = some_changed (is_live id) (Answer other) (answer_live id other apart) slots live

-- a task that no recovery holds

abbrev pub is_held : Standing → Bool
is_held Held = true
is_held standing = false

abbrev pub is_active : Option Task → Bool
is_active None = false
is_active (Some task) = not (is_held task.standing)

none_from : (bad : Option Task → Bool) (change : Change) → ((tag : ℕ) (slot : Option Task) → bad (changed change tag slot) ≡ false) → (tag : ℕ) (slots : List (Option Task)) → list_any bad (changed_from change tag slots) ≡ false
none_from bad change none tag [] = refl
none_from bad change none tag (slot ∷ slots) = or_from (bad (changed change tag slot)) (list_any bad (changed_from change (tag + 1) slots)) (none tag slot) (none_from bad change none (tag + 1) slots)

pub none_after : (bad : Option Task → Bool) (change : Change) → ((tag : ℕ) (slot : Option Task) → bad (changed change tag slot) ≡ false) → (slots : List (Option Task)) → list_any bad (changed_slots change slots) ≡ false
unfolding changed_slots
none_after bad change none slots = none_from bad change none 0 slots

-- the requests that wait

pub waits_set : (id other : ℕ) (waiting : List Bool) (b : Bool) → (other ≡ id → ⊥) → 1 ≤ other → waits id (slice_set waiting (other - 1) b) ≡ waits id waiting
waits_set zero other waiting b apart above = refl
waits_set (suc place) other waiting b apart above =
    ap bit (get_or-set_other waiting (other - 1) place b false (λ e. apart (omega (arith, e, above))))

pub waits_same : (id : ℕ) (waiting : List Bool) (b : Bool) → 1 ≤ id → id ≤ length waiting → waits id (slice_set waiting (id - 1) b) ≡ bit b
waits_same zero waiting b above below = absurd (omega arith)
waits_same (suc place) waiting b above below =
    ap bit (ap (λ k. slice_index_or (slice_set waiting k b) place false) (omega arith) ∙ get_or-set_same waiting place b false (omega arith))

-- a recovery lets those of the held tasks wait

abbrev IsRoomy : ℕ → List Bool → List (Option Task) → Type 0
IsRoomy count waiting slots = (id : ℕ) → waits id waiting + tasks id slots ≤ room count id

room_below : (b : Bool) (place count : ℕ) → nat_lt place count ≡ b → 1 ≤ bit b → suc place ≤ count
room_below true place count e some = ltb-true place count e
room_below false place count e some = absurd (omega arith)

pub room_some : (count id : ℕ) → 1 ≤ room count id → (1 ≤ id) × (id ≤ count)
room_some count zero some = absurd (omega arith)
room_some count (suc place) some = (omega arith, room_below (nat_lt place count) place count refl some)

held_waits : (count : ℕ) (waiting : List Bool) (task : Task) (slots : List (Option Task)) → length waiting ≡ count → IsRoomy count waiting (Some task ∷ slots) → (id : ℕ)
    → waits id (slice_set waiting (task.id - 1) true) ≡ waits id waiting + bit (task.id == id)
held_waits count waiting task slots long fits id =
    let one : bit (task.id == task.id) ≡ 1 = ap bit (eq-eqb task.id task.id refl) in
    let own = room_some count task.id (omega (arith, one, fits task.id)) in
    elim (cases_eq task.id id) [
      | inl same ↦ subst (λ j. waits j (slice_set waiting (task.id - 1) true) ≡ waits j waiting + bit (task.id == j)) same
          (omega (arith, one, waits_same task.id waiting true own.0 (omega (arith, own.1, long)), fits task.id, room_le count task.id))
      | inr apart ↦ omega (arith, waits_set id task.id waiting true apart own.0, ap bit (ne_eqb task.id id apart))
    ]

pub length_set : {X : Type 0} (waiting : List X) (k : ℕ) (b : X) → length (slice_set waiting k b) ≡ length waiting
length_set [] k b = refl
length_set (x ∷ xs) zero b = refl
length_set (x ∷ xs) (suc k) b = ap suc (length_set xs k b)

waits_fold : (count : ℕ) (slots : List (Option Task)) (waiting : List Bool) → length waiting ≡ count → IsRoomy count waiting slots → (id : ℕ) → waits id (fold with_held waiting slots) ≡ waits id waiting + tasks id slots
waits_fold count [] waiting long fits id = omega arith
waits_fold count (None ∷ slots) waiting long fits id = omega (arith, waits_fold count slots waiting long (λ j. omega (arith, fits j)) id)
waits_fold count (Some task ∷ slots) waiting long fits id =
    let each = held_waits count waiting task slots long fits in
    omega (arith, each id, waits_fold count slots (slice_set waiting (task.id - 1) true) (length_set waiting (task.id - 1) true ∙ long) (λ j. omega (arith, each j, fits j)) id)

pub waits_held : (count : ℕ) (slots : List (Option Task)) (waiting : List Bool) → length waiting ≡ count → ((id : ℕ) → waits id waiting + tasks id slots ≤ room count id) → (id : ℕ)
    → waits id (waiting_with waiting slots) ≡ waits id waiting + tasks id slots
unfolding waiting_with
waits_held count slots waiting long fits id = waits_fold count slots waiting long fits id

length_fold : (slots : List (Option Task)) (waiting : List Bool) → length (fold with_held waiting slots) ≡ length waiting
length_fold [] waiting = refl
length_fold (None ∷ slots) waiting = length_fold slots waiting
length_fold (Some task ∷ slots) waiting = length_fold slots (slice_set waiting (task.id - 1) true) ∙ length_set waiting (task.id - 1) true

pub length_held : (slots : List (Option Task)) (waiting : List Bool) → length (waiting_with waiting slots) ≡ length waiting
unfolding waiting_with
length_held slots waiting = length_fold slots waiting

-- Which slots there are, and what a change of them leaves.
use Rattle.std.proofs.Common.{inl, inr, ◌≡◌, ℕ, zero, suc, ◌+◌, ◌==◌, Bool, true, false, cond, ◌&&◌, ◌||◌, not, find, Option, Some, None, List, [], ◌∷◌, slice_set, refl, ap, sym, length, ◌∙◌}
use Rattle.std.proofs.lemmas.Bool.{and_left, and_parts, both_ways, cases_lt, cond_both, eqb-true, false≢true, false_from_ne_true, or_cases, or_from, or_left, or_parts, or_right}
use Rattle.std.proofs.lemmas.List.{get_or_past}
use Rattle.std.proofs.lemmas.List.Folds.{list_any_at}
use Rattle.std.specs.Int.{bit_at}
use Rattle.std.specs.List.{list_any}
use Rattle.storage_machine.specs.Jobs.{is_in_range, job_of}
use Rattle.storage_machine.specs.Slots.{asks, asks_of, changed, changed_from, changed_slots, first, has, id_of, moved, no_tasks, slot_at}
use Rattle.storage_machine.specs.declared.slots.Change.{Change}
use Rattle.storage_machine.specs.declared.slots.Change.TheVariants.{MakeReady, Collect, Hold, Move, Answer}
use Rattle.storage_machine.specs.declared.slots.Question.{Question}
use Rattle.storage_machine.specs.declared.slots.Question.TheVariants.{Rung as IsRung, Named as IsNamed, Sent as IsSent, Ready as IsReady, Done as IsDone, Collected as IsCollected, Issued as IsIssued, Vacant as IsVacant}
use Rattle.storage_machine.specs.declared.state.Standing.{Standing}
use Rattle.storage_machine.specs.declared.state.Standing.TheVariants.{Rung, Named, Sent, Ready, Done, Collected, Held}
use Rattle.storage_machine.specs.declared.state.Task.{Task}
use Rattle.storage_model.specs.declared.plan.Job.{Job}

-- lists

pub any_if : {A : Type 0} (p q : A → Bool) → ((x : A) → p x ≡ true → q x ≡ true) → (xs : List A) → list_any p xs ≡ true → list_any q xs ≡ true
any_if p q so [] h = absurd (false≢true h)
any_if p q so (x ∷ xs) h =
    elim (or_cases (p x) (list_any p xs) h) [
      | inl here ↦ or_left (q x) (list_any q xs) (so x here)
      | inr later ↦ or_right (q x) (list_any q xs) (any_if p q so xs later)
    ]

find_none : (p : ℕ → Bool) (xs : List ℕ) → ((x : ℕ) → p x ≡ false) → find p xs ≡ None
find_none p [] fails = refl
find_none p (x ∷ xs) fails = rw (fails x) (find_none p xs fails)

pub none_at : (bad : Option Task → Bool) (slots : List (Option Task)) → bad None ≡ false → list_any bad slots ≡ false → (tag : ℕ) → bad (slot_at slots tag) ≡ false
none_at bad slots vacant none tag =
    elim (cases_lt tag (length slots)) [
      | inl below ↦ false_from_ne_true (bad (slot_at slots tag)) (λ h. both_ways (list_any bad slots) none (list_any_at bad slots tag None below h))
      | inr past ↦ rw (get_or_past slots tag None past) vacant
    ]

pub some_at : (good : Option Task → Bool) (slots : List (Option Task)) → good None ≡ false → (tag : ℕ) → good (slot_at slots tag) ≡ true → list_any good slots ≡ true
some_at good slots vacant tag h =
    elim (cases_lt tag (length slots)) [
      | inl below ↦ list_any_at good slots tag None below h
      | inr past ↦ absurd (both_ways (good (slot_at slots tag)) (rw (get_or_past slots tag None past) vacant) h)
    ]

pub none_set : (bad : Option Task → Bool) (slots : List (Option Task)) (tag : ℕ) (slot : Option Task) → bad slot ≡ false → list_any bad slots ≡ false → list_any bad (slice_set slots tag slot) ≡ false
none_set bad [] tag slot off none = none
none_set bad (x ∷ xs) zero slot off none = or_from (bad slot) (list_any bad xs) off ((or_parts (bad x) (list_any bad xs) none).1)
none_set bad (x ∷ xs) (suc tag) slot off none =
    let parts = or_parts (bad x) (list_any bad xs) none in
    or_from (bad x) (list_any bad (slice_set xs tag slot)) parts.0 (none_set bad xs tag slot off parts.1)

none_from : (bad : Option Task → Bool) (change : Change) → ((tag : ℕ) (slot : Option Task) → bad slot ≡ false → bad (changed change tag slot) ≡ false)
    → (tag : ℕ) (slots : List (Option Task)) → list_any bad slots ≡ false → list_any bad (changed_from change tag slots) ≡ false
none_from bad change so tag [] none = none
none_from bad change so tag (x ∷ xs) none =
    let parts = or_parts (bad x) (list_any bad xs) none in
    or_from (bad (changed change tag x)) (list_any bad (changed_from change (tag + 1) xs)) (so tag x parts.0) (none_from bad change so (tag + 1) xs parts.1)

pub none_changed : (bad : Option Task → Bool) (change : Change) → ((tag : ℕ) (slot : Option Task) → bad slot ≡ false → bad (changed change tag slot) ≡ false)
    → (slots : List (Option Task)) → list_any bad slots ≡ false → list_any bad (changed_slots change slots) ≡ false
unfolding changed_slots
none_changed bad change so slots none = none_from bad change so 0 slots none

some_from : (good : Option Task → Bool) (change : Change) → ((tag : ℕ) (slot : Option Task) → good slot ≡ true → good (changed change tag slot) ≡ true)
    → (tag : ℕ) (slots : List (Option Task)) → list_any good slots ≡ true → list_any good (changed_from change tag slots) ≡ true
some_from good change so tag [] some = absurd (false≢true some)
some_from good change so tag (x ∷ xs) some =
    elim (or_cases (good x) (list_any good xs) some) [
      | inl here ↦ or_left (good (changed change tag x)) (list_any good (changed_from change (tag + 1) xs)) (so tag x here)
      | inr later ↦ or_right (good (changed change tag x)) (list_any good (changed_from change (tag + 1) xs)) (some_from good change so (tag + 1) xs later)
    ]

pub some_changed : (good : Option Task → Bool) (change : Change) → ((tag : ℕ) (slot : Option Task) → good slot ≡ true → good (changed change tag slot) ≡ true)
    → (slots : List (Option Task)) → list_any good slots ≡ true → list_any good (changed_slots change slots) ≡ true
unfolding changed_slots
some_changed good change so slots some = some_from good change so 0 slots some

-- a task that the engine has, or that is done, is issued

abbrev pub is_live : Question → Bool
is_live IsCollected = false
is_live IsVacant = false
is_live question = true

collected_none : (question : Question) → is_live question ≡ true → asks_of question Collected ≡ false
collected_none IsRung live = refl
collected_none IsNamed live = refl
collected_none IsSent live = refl
collected_none IsReady live = refl
collected_none IsDone live = refl
collected_none IsCollected live = absurd (false≢true live)
collected_none IsIssued live = refl
collected_none IsVacant live = absurd (false≢true live)

vacant_none : (question : Question) → is_live question ≡ true → asks question None ≡ false
vacant_none IsRung live = refl
vacant_none IsNamed live = refl
vacant_none IsSent live = refl
vacant_none IsReady live = refl
vacant_none IsDone live = refl
vacant_none IsCollected live = refl
vacant_none IsIssued live = refl
vacant_none IsVacant live = absurd (false≢true live)

issued_of : (question : Question) (standing : Standing) → is_live question ≡ true → asks_of question standing ≡ true → asks_of IsIssued standing ≡ true
issued_of question Rung live h = refl
issued_of question Named live h = refl
issued_of question Sent live h = refl
issued_of question Ready live h = refl
issued_of question Done live h = refl
issued_of question Collected live h = absurd (both_ways (asks_of question Collected) (collected_none question live) h)
issued_of question Held live h = refl

issued_at : (question : Question) (slot : Option Task) → is_live question ≡ true → asks question slot ≡ true → asks IsIssued slot ≡ true
issued_at question None live h = absurd (both_ways (asks question None) (vacant_none question live) h)
issued_at question (Some task) live h = issued_of question task.standing live h

pub any_issued : (question : Question) (slots : List (Option Task)) → is_live question ≡ true → has question slots ≡ true → has IsIssued slots ≡ true
any_issued question slots live h = any_if (asks question) (asks IsIssued) (λ slot e. issued_at question slot live e) slots h

pub none_asked : (question : Question) (slots : List (Option Task)) → is_live question ≡ true → has IsIssued slots ≡ false → (tag : ℕ) → asks question (slot_at slots tag) ≡ false
none_asked question slots live none tag =
    false_from_ne_true (asks question (slot_at slots tag)) (λ h. both_ways (asks IsIssued (slot_at slots tag)) (none_at (asks IsIssued) slots refl none tag) (issued_at question (slot_at slots tag) live h))

pub first_none : (question : Question) (slots : List (Option Task)) (order : List ℕ) → is_live question ≡ true → has IsIssued slots ≡ false → first question slots order ≡ None
first_none question slots order live none = find_none (λ tag. asks question (slot_at slots tag)) order (none_asked question slots live none)

pub both_none : (question : Question) (other : ℕ → Bool) (slots : List (Option Task)) (order : List ℕ) → is_live question ≡ true → has IsIssued slots ≡ false
    → find (λ tag. asks question (slot_at slots tag) && other tag) order ≡ None
both_none question other slots order live none =
    find_none (λ tag. asks question (slot_at slots tag) && other tag) order (λ tag. and_left (asks question (slot_at slots tag)) (other tag) (none_asked question slots live none tag))

-- requests past the last sector: none is done, and one that is named stops the engine

abbrev pub is_past : List Job → ℕ → ℕ → Bool
is_past jobs sectors id = not (is_in_range (job_of jobs id) sectors)

abbrev pub done_past : List Job → ℕ → Option Task → Bool
done_past jobs sectors None = false
done_past jobs sectors (Some task) = (asks_of IsDone task.standing || asks_of IsCollected task.standing) && is_past jobs sectors task.id

abbrev pub named_past : List Job → ℕ → Option Task → Bool
named_past jobs sectors None = false
named_past jobs sectors (Some task) = asks_of IsNamed task.standing && is_past jobs sectors task.id

named_issued : (jobs : List Job) (sectors : ℕ) (slot : Option Task) → named_past jobs sectors slot ≡ true → asks IsIssued slot ≡ true
named_issued jobs sectors None e = absurd (false≢true e)
named_issued jobs sectors (Some task) e = issued_of IsNamed task.standing refl ((and_parts (asks_of IsNamed task.standing) (is_past jobs sectors task.id) e).0)

pub past_issued : (jobs : List Job) (sectors : ℕ) (slots : List (Option Task)) → list_any (named_past jobs sectors) slots ≡ true → has IsIssued slots ≡ true
past_issued jobs sectors slots h = any_if (named_past jobs sectors) (asks IsIssued) (named_issued jobs sectors) slots h

pub none_left : (jobs : List Job) (sectors : ℕ) → list_any (done_past jobs sectors) no_tasks ≡ false
unfolding no_tasks
none_left jobs sectors = refl

-- the changes

either : (bad : Option Task → Bool) (b : Bool) (x y : Option Task) (v : Bool) → (b ≡ true → bad x ≡ v) → bad y ≡ v → bad (cond b x y) ≡ v
either bad b x y v left right = cond_both b x y (λ z. bad z ≡ v) left (λ e. right)

ready_past : (jobs : List Job) (sectors word tag : ℕ) (slot : Option Task) → done_past jobs sectors slot ≡ false → done_past jobs sectors (changed (MakeReady word) tag slot) ≡ false
ready_past jobs sectors word tag None h = refl
ready_past jobs sectors word tag (Some task) h = either (done_past jobs sectors) (asks_of IsSent task.standing && (bit_at word tag == 1)) (moved Ready task) (Some task) false (λ e. refl) h

pub none_ready : (jobs : List Job) (sectors word : ℕ) (slots : List (Option Task)) → list_any (done_past jobs sectors) slots ≡ false → list_any (done_past jobs sectors) (changed_slots (MakeReady word) slots) ≡ false
none_ready jobs sectors word slots none = none_changed (done_past jobs sectors) (MakeReady word) (ready_past jobs sectors word) slots none

collect_past : (jobs : List Job) (sectors tag : ℕ) (slot : Option Task) → done_past jobs sectors slot ≡ false → done_past jobs sectors (changed Collect tag slot) ≡ false
collect_past jobs sectors tag None h = refl
collect_past jobs sectors tag (Some task) h =
    either (done_past jobs sectors) (asks_of IsDone task.standing) (moved Collected task) (Some task) false
    (λ done. sym (ap (λ b. (b || asks_of IsCollected task.standing) && is_past jobs sectors task.id) done) ∙ h) h

pub none_collected : (jobs : List Job) (sectors : ℕ) (slots : List (Option Task)) → list_any (done_past jobs sectors) slots ≡ false → list_any (done_past jobs sectors) (changed_slots Collect slots) ≡ false
none_collected jobs sectors slots none = none_changed (done_past jobs sectors) Collect (collect_past jobs sectors) slots none

hold_past : (jobs : List Job) (sectors tag : ℕ) (slot : Option Task) → done_past jobs sectors slot ≡ false → done_past jobs sectors (changed Hold tag slot) ≡ false
hold_past jobs sectors tag None h = refl
hold_past jobs sectors tag (Some task) h = refl

pub none_held : (jobs : List Job) (sectors : ℕ) (slots : List (Option Task)) → list_any (done_past jobs sectors) slots ≡ false → list_any (done_past jobs sectors) (changed_slots Hold slots) ≡ false
none_held jobs sectors slots none = none_changed (done_past jobs sectors) Hold (hold_past jobs sectors) slots none

answer_past : (jobs : List Job) (sectors id tag : ℕ) (slot : Option Task) → done_past jobs sectors slot ≡ false → done_past jobs sectors (changed (Answer id) tag slot) ≡ false
answer_past jobs sectors id tag None h = refl
answer_past jobs sectors id tag (Some task) h = either (done_past jobs sectors) (task.id == id) None (Some task) false (λ e. refl) h

pub none_answered : (jobs : List Job) (sectors id : ℕ) (slots : List (Option Task)) → list_any (done_past jobs sectors) slots ≡ false → list_any (done_past jobs sectors) (changed_slots (Answer id) slots) ≡ false
none_answered jobs sectors id slots none = none_changed (done_past jobs sectors) (Answer id) (answer_past jobs sectors id) slots none

-- a task that moves on to its phase's end is within the sectors

abbrev ends : Standing → Bool
ends standing = asks_of IsDone standing || asks_of IsCollected standing

move_past : (jobs : List Job) (sectors id : ℕ) (standing : Standing) (tag : ℕ) (slot : Option Task) → (ends standing && is_past jobs sectors id) ≡ false → done_past jobs sectors slot ≡ false
    → done_past jobs sectors (changed (Move id standing) tag slot) ≡ false
move_past jobs sectors id standing tag None off h = refl
move_past jobs sectors id standing tag (Some task) off h =
    either (done_past jobs sectors) (task.id == id) (moved standing task) (Some task) false
    (λ e. ap (λ j. ends standing && is_past jobs sectors j) (eqb-true task.id id e) ∙ off) h

pub none_moved : (jobs : List Job) (sectors id : ℕ) (standing : Standing) (slots : List (Option Task)) → (ends standing && is_past jobs sectors id) ≡ false → list_any (done_past jobs sectors) slots ≡ false
    → list_any (done_past jobs sectors) (changed_slots (Move id standing) slots) ≡ false
none_moved jobs sectors id standing slots off none = none_changed (done_past jobs sectors) (Move id standing) (λ tag slot h. move_past jobs sectors id standing tag slot off h) slots none

-- and the one past the last sector stays named

named_undone : (standing : Standing) → asks_of IsNamed standing ≡ true → asks_of IsDone standing ≡ false
named_undone Rung h = absurd (false≢true h)
named_undone Named h = refl
named_undone Sent h = absurd (false≢true h)
named_undone Ready h = absurd (false≢true h)
named_undone Done h = absurd (false≢true h)
named_undone Collected h = absurd (false≢true h)
named_undone Held h = absurd (false≢true h)

collect_named : (jobs : List Job) (sectors tag : ℕ) (slot : Option Task) → named_past jobs sectors slot ≡ true → named_past jobs sectors (changed Collect tag slot) ≡ true
collect_named jobs sectors tag None h = absurd (false≢true h)
collect_named jobs sectors tag (Some task) h =
    let named = (and_parts (asks_of IsNamed task.standing) (is_past jobs sectors task.id) h).0 in
    either (named_past jobs sectors) (asks_of IsDone task.standing) (moved Collected task) (Some task) true
    (λ done. absurd (both_ways (asks_of IsDone task.standing) (named_undone task.standing named) done)) h

pub named_collected : (jobs : List Job) (sectors : ℕ) (slots : List (Option Task)) → list_any (named_past jobs sectors) slots ≡ true → list_any (named_past jobs sectors) (changed_slots Collect slots) ≡ true
named_collected jobs sectors slots some = some_changed (named_past jobs sectors) Collect (collect_named jobs sectors) slots some

answer_named : (jobs : List Job) (sectors id tag : ℕ) (slot : Option Task) → is_past jobs sectors id ≡ false → named_past jobs sectors slot ≡ true → named_past jobs sectors (changed (Answer id) tag slot) ≡ true
answer_named jobs sectors id tag None inside h = absurd (false≢true h)
answer_named jobs sectors id tag (Some task) inside h =
    let past = (and_parts (asks_of IsNamed task.standing) (is_past jobs sectors task.id) h).1 in
    either (named_past jobs sectors) (task.id == id) None (Some task) true
    (λ e. absurd (both_ways (is_past jobs sectors id) inside (ap (is_past jobs sectors) (sym (eqb-true task.id id e)) ∙ past))) h

pub named_answered : (jobs : List Job) (sectors id : ℕ) (slots : List (Option Task)) → is_past jobs sectors id ≡ false → list_any (named_past jobs sectors) slots ≡ true
    → list_any (named_past jobs sectors) (changed_slots (Answer id) slots) ≡ true
named_answered jobs sectors id slots inside some = some_changed (named_past jobs sectors) (Answer id) (λ tag slot h. answer_named jobs sectors id tag slot inside h) slots some

-- the task of a collected tag is within the sectors
pub collected_inside : (jobs : List Job) (sectors : ℕ) (slot : Option Task) → asks IsCollected slot ≡ true → done_past jobs sectors slot ≡ false → is_past jobs sectors (id_of slot) ≡ false
collected_inside jobs sectors None asked off = absurd (false≢true asked)
collected_inside jobs sectors (Some task) asked off = sym (ap (λ b. b && is_past jobs sectors task.id) (or_right (asks_of IsDone task.standing) (asks_of IsCollected task.standing) asked)) ∙ off

pub named_at : (jobs : List Job) (sectors : ℕ) (slot : Option Task) → asks IsNamed slot ≡ true → is_past jobs sectors (id_of slot) ≡ true → named_past jobs sectors slot ≡ true
named_at jobs sectors None asked past = absurd (false≢true asked)
named_at jobs sectors (Some task) asked past = rw (asked, past) refl

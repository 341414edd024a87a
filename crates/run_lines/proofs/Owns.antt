-- Where a phase under way makes a cut due, the next command's own number has its line.
use Rattle.std.proofs.Common.{inl, inr, ◌+◌, ◌≡◌, ◌∙◌, ◌≤◌, ◌⊎◌, ℕ, Bool, true, false, Option, Some, cond, ◌&&◌, ◌||◌, ◌==◌, not, is_some, nat_le, List, [], ◌∷◌, zip, arith, refl, ap, sym}
use Rattle.std.specs.Prelude.{position}
use Rattle.std.specs.List.{list_any, position_from}
use Rattle.std.proofs.lemmas.Bool.{false≢true, and_cases, and_from, and_parts, eq-eqb, leb-false, leb-true, or_cases, or_left, or_parts, or_right}
use Rattle.std.proofs.lemmas.Iterator.Adapters.{position_from-zero}
use Rattle.storage_machine.specs.Commands.{next_number}
use Rattle.storage_machine.specs.Cuts.{due_line, has_own_line, is_due, sent_so_far}
use Rattle.storage_machine.specs.Host.{to_do}
use Rattle.storage_machine.specs.declared.state.State.{State}

found_at : (b : Bool) (i : ℕ) (later : Option ℕ) (rest : Bool) → is_some later ≡ rest → is_some (cond b (Some i) later) ≡ (b || rest)
found_at true i later rest e = refl
found_at false i later rest e = e

found_from : (test : ℕ × Bool → Bool) (i : ℕ) (lines : List (ℕ × Bool)) → is_some (position_from test i lines) ≡ list_any test lines
found_from test i [] = refl
found_from test i (line ∷ lines) = found_at (test line) i (position_from test (i + 1) lines) (list_any test lines) (found_from test (i + 1) lines)

found : (test : ℕ × Bool → Bool) (lines : List (ℕ × Bool)) → is_some (position test lines) ≡ list_any test lines
found test lines = ap is_some (position_from-zero test lines) ∙ found_from test 0 lines

own_by : (k next n : ℕ) (used : Bool) → next ≤ k + 1 → not used ≡ true → nat_le n next ≡ true → (not used ≡ false) ⊎ (nat_le n k ≡ false) → (not used && (n == next)) ≡ true
own_by k next n used most fresh here (inl stale) = absurd (false≢true (sym stale ∙ fresh))
own_by k next n used most fresh here (inr past) = and_from (not used) (n == next) fresh (eq-eqb n next (omega (arith, leb-true n next here, leb-false n k past, most)))

own_one : (k next : ℕ) (line : ℕ × Bool) → next ≤ k + 1 → (not line.1 && nat_le line.0 next) ≡ true → (not line.1 && nat_le line.0 k) ≡ false → (not line.1 && (line.0 == next)) ≡ true
own_one k next line most here before =
    let parts = and_parts (not line.1) (nat_le line.0 next) here in
    own_by k next line.0 line.1 most parts.0 parts.1 (and_cases (not line.1) (nat_le line.0 k) before)

abbrev Sent : ℕ → List (ℕ × Bool) → Bool
Sent k lines = list_any (λ line. not line.1 && nat_le line.0 k) lines

abbrev Own : ℕ → List (ℕ × Bool) → Bool
Own next lines = list_any (λ line. not line.1 && (line.0 == next)) lines

own_cases : (k next : ℕ) (line : ℕ × Bool) (lines : List (ℕ × Bool)) → next ≤ k + 1 → (not line.1 && nat_le line.0 k) ≡ false → (Sent next lines ≡ true → Own next lines ≡ true)
    → ((not line.1 && nat_le line.0 next) ≡ true) ⊎ (Sent next lines ≡ true) → Own next (line ∷ lines) ≡ true
own_cases k next line lines most past later (inl here) = or_left (not line.1 && (line.0 == next)) (Own next lines) (own_one k next line most here past)
own_cases k next line lines most past later (inr there) = or_right (not line.1 && (line.0 == next)) (Own next lines) (later there)

own_any : (k next : ℕ) (lines : List (ℕ × Bool)) → next ≤ k + 1 → Sent next lines ≡ true → Sent k lines ≡ false → Own next lines ≡ true
own_any k next [] most here before = absurd (cc)
own_any k next (line ∷ lines) most here before =
    let past = or_parts (not line.1 && nat_le line.0 k) (Sent k lines) before in
    own_cases k next line lines most past.0 (λ there. own_any k next lines most there past.1) (or_cases (not line.1 && nat_le line.0 next) (Sent next lines) here)

-- the lines of the fault text, and whether each was used
abbrev lines_of : State → List (ℕ × Bool)
lines_of s = zip s.faults.cuts s.cuts

next_most : (s : State) → next_number s ≤ s.n + 1
next_most s = omega arith

due_sent : (s : State) → is_some (due_line s) ≡ Sent (sent_so_far s) (lines_of s)
unfolding due_line
due_sent s = found (λ line. not line.1 && nat_le line.0 (sent_so_far s)) (lines_of s)

own_is : (s : State) → has_own_line s ≡ Own (next_number s) (lines_of s)
unfolding has_own_line
own_is s = refl

to_do_busy : (q : State) (spent : ℕ) → to_do (record q { busy = true; spent = spent }) ≡ to_do q
unfolding to_do
to_do_busy q spent = refl

-- a line that is due while the phase is under way, and wasn't before, is of its number; the phase wasn't under way
own_by_busy : (q : State) (busy : Bool) → q.busy ≡ busy → Sent (next_number q) (lines_of q) ≡ true → Sent (cond busy (next_number q) q.n) (lines_of q) ≡ false → (q.busy ≡ false) × (has_own_line q ≡ true)
own_by_busy q true at here before = absurd (false≢true (sym before ∙ here))
own_by_busy q false at here before = (at, own_is q ∙ own_any q.n (next_number q) (lines_of q) (next_most q) here before)

undone : (some late : Bool) → some ≡ true → (some && late) ≡ false → late ≡ false
undone true late a b = b
undone false late a b = absurd (cc)

pub own_line : (q : State) (spent : ℕ) → is_due (record q { busy = true; spent = spent }) ≡ true → is_due q ≡ false → (q.busy ≡ false) × (has_own_line q ≡ true)
own_line q spent late before =
    let s = record q { busy = true; spent = spent } in
    let parts = and_parts (to_do s) (is_some (due_line s)) late in
    let some = sym (to_do_busy q spent) ∙ parts.0 in
    own_by_busy q q.busy refl (sym (due_sent s) ∙ parts.1) (sym (due_sent q) ∙ undone (to_do q) (is_some (due_line q)) some before)

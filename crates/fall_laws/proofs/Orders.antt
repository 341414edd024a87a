-- A letter or a `cut` line that is used pays for what its event leads to.
use Rattle.std.proofs.Common.{◌≡◌, ◌<◌, ◌≤◌, ◌+◌, ◌*◌, ◌&&◌, ℕ, suc, refl, sym, subst, arith, Bool, true, false, List, [], ◌∷◌, length}
use Rattle.std.specs.Prelude.{cond, count_by, is_some, nat_le, nat_lt, not, set, zip, Option, Some, None}
use Rattle.std.specs.List.{position_or_len}
use Rattle.std.proofs.lemmas.Bool.{false≢true, ltb-true}
use Rattle.std.proofs.lemmas.List.Sums.{sum_by-cons}
use Rattle.trace_effects.specs.Cuts.{used as used_at}
use Rattle.cut_order.specs.Order.{OrderState, is_line_due, letters_left, line_at, lines_left, with_letter, with_line}
use Rattle.world_state.specs.Path.{PathState}
use Rattle.world_state.specs.Work.{left_on_path, left_to_do}
use Rattle.host_falls.proofs.Sums.{set_no_more}

letter_less : (o : OrderState) → o.letters < length o.turns → letters_left (with_letter o) + 1 ≤ letters_left o
letter_less o more = omega (arith, more)

-- the first line that is due is used, and was not
abbrev first_due : List ℕ → List Bool → ℕ → ℕ
first_due cuts used sent = position_or_len (λ line. not line.1 && nat_le line.0 sent) (zip cuts used)

abbrev unused : List Bool → ℕ
unused used = count_by not used

abbrev one_if_not : Bool → ℕ
one_if_not used = cond (not used) 1 0

later_used : (used : List Bool) (y : Bool) (m n : ℕ) → n ≡ suc m → unused (set used m true) + 1 ≤ unused used → unused (set (y ∷ used) n true) + 1 ≤ unused (y ∷ used)
later_used used y m n at less =
    let P : ℕ → Type 0 = λ k. unused (set (y ∷ used) k true) + 1 ≤ unused (y ∷ used) in
    let left = sum_by-cons one_if_not y (set used m true) in
    let right = sum_by-cons one_if_not y used in
    subst P (sym at) (omega (arith, left, right, less))

due_here : (now : Bool) (cuts : List ℕ) (used : List Bool) (sent : ℕ) → cond (not now) (1 + first_due cuts used sent) 0 < 1 + length (zip cuts used)
    → (first_due cuts used sent < length (zip cuts used) → unused (set used (first_due cuts used sent) true) + 1 ≤ unused used)
    → unused (set (false ∷ used) (cond (not now) (1 + first_due cuts used sent) 0) true) + 1 ≤ unused (false ∷ used)
due_here true cuts used sent low rest =
    let left = sum_by-cons one_if_not true used in
    let right = sum_by-cons one_if_not false used in
    omega (arith, left, right)
due_here false cuts used sent low rest =
    later_used used false (first_due cuts used sent) (1 + first_due cuts used sent) (omega arith) (rest (omega (arith, low)))

due_used : (cuts : List ℕ) (used : List Bool) (sent : ℕ) → first_due cuts used sent < length (zip cuts used)
    → unused (set used (first_due cuts used sent) true) + 1 ≤ unused used
due_used [] used sent low = absurd (omega (arith, low))
due_used (x ∷ cuts) [] sent low = absurd (omega (arith, low))
due_used (x ∷ cuts) (true ∷ used) sent low =
    later_used used true (first_due cuts used sent) (1 + first_due cuts used sent) (omega arith) (due_used cuts used sent (omega (arith, low)))
due_used (x ∷ cuts) (false ∷ used) sent low = due_here (nat_le x sent) cuts used sent (omega (arith, low)) (λ rest. due_used cuts used sent rest)

line_by : (used : List Bool) (first lines : ℕ) (low : Bool) → nat_lt first lines ≡ low → (first < lines → unused (set used first true) + 1 ≤ unused used)
    → is_some (cond low (Some first) None) ≡ true → unused (used_at used (cond low (Some first) None)) + 1 ≤ unused used
line_by used first lines true e less some = less (ltb-true first lines e)
line_by used first lines false e less some = absurd (false≢true some)

line_less : (o : OrderState) (sent : ℕ) → is_line_due o sent ≡ true → lines_left (with_line o sent) + 1 ≤ lines_left o
line_less o sent due =
    line_by o.used (first_due o.cuts o.used sent) (length (zip o.cuts o.used)) (nat_lt (first_due o.cuts o.used sent) (length (zip o.cuts o.used))) refl
    (due_used o.cuts o.used sent) due

pub same_order : (p p' : PathState) (o : OrderState) → left_on_path p' < left_on_path p → left_to_do p' o < left_to_do p o
unfolding left_to_do
same_order p p' o less = omega (arith, less)

letter_numbers : (a a' b n n' : ℕ) → a' + 1 ≤ a → n' < n + 12800200 → 12800200 * (a' + b) + n' < 12800200 * (a + b) + n
letter_numbers a a' b n n' used less = omega (arith, used, less)

line_numbers : (a b b' n n' : ℕ) → b' + 1 ≤ b → n' < n + 12800200 → 12800200 * (a + b') + n' < 12800200 * (a + b) + n
line_numbers a b b' n n' used less = omega (arith, used, less)

pub letter_pays : (p p' : PathState) (o : OrderState) → o.letters < length o.turns → left_on_path p' < left_on_path p + 12800200
    → left_to_do p' (with_letter o) < left_to_do p o
unfolding left_to_do
letter_pays p p' o more less =
    letter_numbers (letters_left o) (letters_left (with_letter o)) (lines_left o) (left_on_path p) (left_on_path p') (letter_less o more) less

pub line_pays : (p p' : PathState) (o : OrderState) (sent : ℕ) → is_line_due o sent ≡ true → left_on_path p' < left_on_path p + 12800200
    → left_to_do p' (with_line o sent) < left_to_do p o
unfolding left_to_do
line_pays p p' o sent due less =
    line_numbers (letters_left o) (lines_left o) (lines_left (with_line o sent)) (left_on_path p) (left_on_path p') (line_less o sent due) less

line_most : (used : List Bool) (line : Option ℕ) → unused (used_at used line) ≤ unused used
line_most used None = omega arith
line_most used (Some line) = set_no_more not used line true refl

both_numbers : (a a' b b' n n' : ℕ) → a' + 1 ≤ a → b' ≤ b → n' < n + 12800200 → 12800200 * (a' + b') + n' < 12800200 * (a + b) + n
both_numbers a a' b b' n n' used most less = omega (arith, used, most, less)

pub both_pay : (p p' : PathState) (o : OrderState) (sent : ℕ) → o.letters < length o.turns → left_on_path p' < left_on_path p + 12800200
    → left_to_do p' (with_line (with_letter o) sent) < left_to_do p o
unfolding left_to_do
both_pay p p' o sent more less =
    both_numbers (letters_left o) (letters_left (with_letter o)) (lines_left o) (lines_left (with_line o sent)) (left_on_path p) (left_on_path p') (letter_less o more)
    (line_most o.used (line_at o sent)) less

-- What is left: a use leaves one line or letter fewer, and the used lines stay the first ones.
use Rattle.std.proofs.Common.{◌≡◌, ◌∙◌, ℕ, zero, suc, ◌+◌, ◌<◌, ◌≤◌, Bool, true, false, cond, not, ◌&&◌, ◌==◌, List, [], ◌∷◌, Some, None, inl, inr, ◌⊎◌, length, set, get_or, arith, refl, ap, subst, sym}
use Rattle.std.specs.Prelude.{is_some, nat_le, zip}
use Rattle.std.specs.List.{count_by, list_any, position_or_len}
use Rattle.std.proofs.lemmas.Bool.{true≢false, and_from, and_parts, cases_lt, eqb-true, le-leb, lt-ltb, or_cases}
use Rattle.std.proofs.lemmas.List.Quantifiers.{position-Some}
use Rattle.std.proofs.lemmas.List.Sums.{sum_by-set}
use Rattle.std.proofs.lemmas.Option.{slice_get_within}
use Rattle.storage_machine.specs.Commands.{next_number}
use Rattle.storage_machine.specs.Cuts.{due_line, has_own_line, sent_so_far}
use Rattle.storage_machine.specs.declared.state.Event.{Event}
use Rattle.storage_machine.specs.declared.state.Event.TheVariants.{Due}
use Rattle.storage_machine.specs.declared.state.State.{State}
use Rattle.storage_model.specs.Faults.{AreRising}
use Rattle.storage_model.specs.declared.faults.Letter.{Letter}
use Rattle.storage_model.specs.declared.trace.Item.{Item}
use Rattle.storage_model.specs.declared.trace.Item.TheVariants.{Cut, Turn}
use Rattle.storage_order.specs.Events.{Happens}
use Rattle.trace_effects.specs.Cuts.{used}
use Rattle.trace_effects.specs.Effects.{after_cut, effect}
use Rattle.cut_order.specs.Order.{IsFront, OrderState, cut_in, due_at, front, is_dark, letters_left, line_at, lines_left, next_letter, order_of, uses_line, with_letter, with_line}
use Rattle.cut_order.proofs.FrontLaws.{due_come, due_none, used_front}
use Rattle.cut_order.proofs.EventLaws.{order_happens}
use Rattle.cut_order.proofs.StateLaws.{order_cut, order_dark, order_line, order_turn}

-- a letter fewer
pub letter_fewer : (order : OrderState) (letter : Letter) → next_letter order ≡ Some letter → letters_left (with_letter order) + 1 ≡ letters_left order
letter_fewer order letter next = omega (arith, slice_get_within order.turns order.letters letter next)

-- the flag beside a line
record HasFlag (flags : List Bool) (k : ℕ) (flag : Bool) : Type 0 where
  pub within : k < length flags
  pub is : get_or flags k true ≡ flag

flag_at : (cuts : List ℕ) (flags : List Bool) (k : ℕ) → k < length (zip cuts flags) → HasFlag flags k (get_or (zip cuts flags) k (0, true)).1
flag_at [] flags k below = absurd (omega arith)
flag_at (n ∷ cuts) [] k below = absurd (omega arith)
flag_at (n ∷ cuts) (flag ∷ flags) zero below = record { within = omega arith; is = refl }
flag_at (n ∷ cuts) (flag ∷ flags) (suc k) below =
    let rest = flag_at cuts flags k (omega arith) in
    record { within = omega (arith, rest.within); is = rest.is }

not_true : (flag : Bool) → not flag ≡ true → flag ≡ false
not_true true e = sym e
not_true false e = refl

flag_fewer : (flags : List Bool) (k : ℕ) → HasFlag flags k false → count_by not (set flags k true) + 1 ≡ count_by not flags
flag_fewer flags k x =
    let change = sum_by-set (λ flag. cond (not flag) 1 0) flags k true true x.within in
    let was = ap {B = ℕ} (λ flag. cond (not flag) 1 0) x.is in
    omega (arith, change, was)

-- a line fewer
pub line_fewer : (order : OrderState) (sent k : ℕ) → line_at order sent ≡ Some k → lines_left (with_line order sent) + 1 ≡ lines_left order
line_fewer order sent k at =
    let found = position-Some (λ line. not line.1 && nat_le line.0 sent) (zip order.cuts order.used) k (0, true) at in
    let flag = flag_at order.cuts order.used k found.0 in
    let fresh = not_true _ (and_parts _ _ found.1).0 in
    ap (λ line. count_by not (used order.used line) + 1) at ∙ flag_fewer order.used k (record { within = flag.within; is = flag.is ∙ fresh })

-- the used lines stay the first ones, at each use
pub front_used : (order : OrderState) (sent : ℕ) → AreRising order.cuts → IsFront order → IsFront (with_line order sent)
front_used order sent rising x = by (cases_lt x.first (length order.cuts)) (cases_lt sent (get_or order.cuts x.first 0))
  where
    none : (x.first < length order.cuts → sent < get_or order.cuts x.first 0) → IsFront (with_line order sent)
    none later = record {
      first = x.first;
      within = x.within;
      is = ap (λ line. used order.used line) (ap (λ flags. due_at order.cuts flags sent) x.is ∙ due_none order.cuts x.first sent 0 rising x.within later) ∙ x.is;
    }

    by : (x.first < length order.cuts) ⊎ (length order.cuts ≤ x.first) → (sent < get_or order.cuts x.first 0) ⊎ (get_or order.cuts x.first 0 ≤ sent) → IsFront (with_line order sent)
    by (inr past) come = none (λ below. absurd (omega arith))
    by (inl below) (inl later) = none (λ _. later)
    by (inl below) (inr come) = record {
      first = x.first + 1;
      within = omega arith;
      is = ap (λ flags. used flags (due_at order.cuts flags sent)) x.is
          ∙ (ap (λ line. used (front x.first (length order.cuts)) line) (due_come order.cuts x.first sent 0 below come) ∙ used_front x.first (length order.cuts) below);
    }

front_either : (b : Bool) (x y : OrderState) → IsFront x → IsFront y → IsFront (cond b x y)
front_either true x y left right = left
front_either false x y left right = right

-- and at each event, in whatever order the events come
pub front_happens : (s : State) (actor : Letter) (items : List Item) (t : State) → AreRising s.faults.cuts → IsFront (order_of s) → Happens s actor items t → IsFront (order_of t)
front_happens s actor items t rising x happens =
    subst IsFront (sym (order_happens s actor items t happens)) (front_either (uses_line s actor) _ _ (front_used (order_of s) (sent_so_far s) rising x) x)

-- and at each line, also of a trace that is only judged
front_cut : (event : Event) (order : OrderState) (sent : ℕ) → AreRising order.cuts → IsFront order → IsFront (cut_in event order sent)
front_cut Due order sent rising x = front_used order sent rising x
front_cut event order sent rising x = x

front_dark : (s : State) (dark : Bool) → is_dark s.owed ≡ dark → AreRising s.faults.cuts → IsFront (order_of s) → IsFront (order_of (after_cut s))
front_dark s true dark rising x = subst IsFront (sym (order_dark s dark)) x
front_dark s false dark rising x = subst IsFront (sym (order_cut s dark)) (front_cut s.event (order_of s) (sent_so_far s) rising x)

pub front_line : (s : State) (item : Item) → AreRising s.faults.cuts → IsFront (order_of s) → IsFront (order_of (effect s item))
unfolding effect
front_line s (Turn letter) rising x = subst IsFront (sym (order_turn s letter)) (record { first = x.first; within = x.within; is = x.is })
front_line s Cut rising x = front_dark s (is_dark s.owed) refl rising x
front_line s item rising x = subst IsFront (sym (order_line s item refl)) x

-- where the number of a phase under way has a line of its own, a line is due
module _ {X : Type 0} (p q : X → Bool) (weaker : (x : X) → p x ≡ true → q x ≡ true) where
  pub before_any : (xs : List X) → list_any p xs ≡ true → position_or_len q xs < length xs
  before_any [] any = absurd (true≢false (sym any))
  before_any (x ∷ xs) any = by (before_any xs) (q x) refl (or_cases (p x) (list_any p xs) any)
    where
      by : (list_any p xs ≡ true → position_or_len q xs < length xs) → (here : Bool) → q x ≡ here → (p x ≡ true) ⊎ (list_any p xs ≡ true) → position_or_len q (x ∷ xs) < length (x ∷ xs)
      by rest true is any = let none = ap {B = ℕ} (λ b. cond (not b) (1 + position_or_len q xs) 0) is in omega (arith, none)
      by rest false is (inl first) = absurd (true≢false (sym (weaker x first) ∙ is))
      by rest false is (inr later) = let more = ap {B = ℕ} (λ b. cond (not b) (1 + position_or_len q xs) 0) is in omega (arith, more, rest later)

come_own : (n : ℕ) (line : ℕ × Bool) → (not line.1 && (line.0 == n)) ≡ true → (not line.1 && nat_le line.0 n) ≡ true
come_own n line own =
    let parts = and_parts (not line.1) (line.0 == n) own in
    and_from (not line.1) (nat_le line.0 n) parts.0 (le-leb line.0 n (omega (arith, eqb-true line.0 n parts.1)))

own_by : (cuts : List ℕ) (flags : List Bool) (n : ℕ) → list_any (λ line. not line.1 && (line.0 == n)) (zip cuts flags) ≡ true → is_some (due_at cuts flags n) ≡ true
own_by cuts flags n own =
    let place = position_or_len (λ line. not line.1 && nat_le line.0 n) (zip cuts flags) in
    let below = before_any (λ line. not line.1 && (line.0 == n)) (λ line. not line.1 && nat_le line.0 n) (come_own n) (zip cuts flags) own in
    ap (λ b. is_some (cond b (Some place) None)) (lt-ltb place (length (zip cuts flags)) below)

pub own_due : (s : State) → has_own_line s ≡ true → s.busy ≡ true → is_some (due_line s) ≡ true
unfolding has_own_line due_line
own_due s own busy =
    ap (λ n. is_some (due_at s.faults.cuts s.cuts n)) (ap (λ b. cond b (next_number s) s.n) busy) ∙ own_by s.faults.cuts s.cuts (next_number s) own

-- Sums over numbers, one of which is less or more, and counts of a list that changed at one place.
use Rattle.std.proofs.Common.{◌≡◌, ◌⊎◌, ◌≢◌, ◌<◌, ◌≤◌, ◌+◌, ℕ, zero, suc, refl, sym, ◌∙◌, ap, subst, arith, Bool, true, false, List, [], ◌∷◌, inl, inr}
use Rattle.std.specs.Prelude.{cond, count_by, sum_by, set, get_or, Option, Some}
use Rattle.std.specs.List.{All, find, range_with_len}
use Rattle.std.proofs.lemmas.Bool.{false≢true}
use Rattle.std.proofs.lemmas.Bool.Decides.{eqb_tells}
use Rattle.std.proofs.lemmas.List.Elements.{All-head, All-tail}
use Rattle.std.proofs.lemmas.List.Sums.{sum_by-cons}
use Rattle.cq_schedule.specs.Held.{slots}

range_le : (f g : ℕ → ℕ) (a n : ℕ) → ((s : ℕ) → a ≤ s → s < a + n → f s ≤ g s)
    → sum_by f (range_with_len a n) ≤ sum_by g (range_with_len a n)
range_le f g a zero h = omega arith
range_le f g a (suc n) h =
    let here : f a ≤ g a = h a (omega arith) (omega arith) in
    let rest = range_le f g (a + 1) n (λ s low high. h s (omega (arith, low)) (omega (arith, high))) in
    let left = sum_by-cons f a (range_with_len (a + 1) n) in
    let right = sum_by-cons g a (range_with_len (a + 1) n) in
    omega (arith, here, rest, left, right)

-- one is less by d
range_less : (f g : ℕ → ℕ) (a n k d : ℕ) → ((s : ℕ) → a ≤ s → s < a + n → f s ≤ g s) → a ≤ k → k < a + n → f k + d ≤ g k
    → sum_by f (range_with_len a n) + d ≤ sum_by g (range_with_len a n)
range_less f g a zero k d h from to less = absurd (omega (arith, from, to))
range_less f g a (suc n) k d h from to less =
    let left = sum_by-cons f a (range_with_len (a + 1) n) in
    let right = sum_by-cons g a (range_with_len (a + 1) n) in
    elim (eqb_tells a k) [
      | inl t ↦
          let P : ℕ → Type 0 = λ s. f s + d ≤ g s in
          let here : f a + d ≤ g a = subst P (sym t.1) less in
          let rest = range_le f g (a + 1) n (λ s low high. h s (omega (arith, low)) (omega (arith, high))) in
          omega (arith, here, rest, left, right)
      | inr t ↦
          let apart : a ≢ k = t.1 in
          let here : f a ≤ g a = h a (omega arith) (omega arith) in
          let rest = range_less f g (a + 1) n k d (λ s low high. h s (omega (arith, low)) (omega (arith, high))) (omega (arith, apart, from)) (omega (arith, to)) less in
          omega (arith, here, rest, left, right)
    ]

-- one is more by d at most
range_more : (f g : ℕ → ℕ) (a n k d : ℕ) → ((s : ℕ) → s < a + n → s ≢ k → f s ≤ g s) → f k ≤ g k + d
    → sum_by f (range_with_len a n) ≤ sum_by g (range_with_len a n) + d
range_more f g a zero k d h more = omega arith
range_more f g a (suc n) k d h more =
    let left = sum_by-cons f a (range_with_len (a + 1) n) in
    let right = sum_by-cons g a (range_with_len (a + 1) n) in
    elim (eqb_tells a k) [
      | inl t ↦
          let P : ℕ → Type 0 = λ s. f s ≤ g s + d in
          let here : f a ≤ g a + d = subst P (sym t.1) more in
          let same : a ≡ k = t.1 in
          let rest = range_le f g (a + 1) n (λ s low high. h s (omega (arith, high)) (λ e. omega (arith, e, same, low))) in
          omega (arith, here, rest, left, right)
      | inr t ↦
          let apart : a ≢ k = t.1 in
          let here : f a ≤ g a = h a (omega arith) apart in
          let rest = range_more f g (a + 1) n k d (λ s high. h s (omega (arith, high))) more in
          omega (arith, here, rest, left, right)
    ]

-- over the 32 slots
pub slots_le : (f g : ℕ → ℕ) → ((s : ℕ) → s < 32 → f s ≤ g s) → sum_by f slots ≤ sum_by g slots
unfolding slots
slots_le f g h = range_le f g 0 32 (λ s low high. h s high)

pub slots_less : (f g : ℕ → ℕ) (k d : ℕ) → ((s : ℕ) → s < 32 → f s ≤ g s) → k < 32 → f k + d ≤ g k → sum_by f slots + d ≤ sum_by g slots
unfolding slots
slots_less f g k d h below less = range_less f g 0 32 k d (λ s low high. h s high) (omega arith) below less

pub slots_more : (f g : ℕ → ℕ) (k d : ℕ) → ((s : ℕ) → s < 32 → s ≢ k → f s ≤ g s) → f k ≤ g k + d → sum_by f slots ≤ sum_by g slots + d
unfolding slots
slots_more f g k d h more = range_more f g 0 32 k d h more

pub slots_none : sum_by (λ s. 0) slots ≡ 0
unfolding slots
slots_none = refl

-- counts
one_most : (b : Bool) → cond b 1 0 ≤ 1
one_most true = omega arith
one_most false = omega arith

pub set_more : {X : Type 0} (p : X → Bool) (xs : List X) (i : ℕ) (x : X) → count_by p (set xs i x) ≤ count_by p xs + 1
set_more p [] i x = omega arith
set_more p (y ∷ ys) zero x =
    let left = sum_by-cons (λ x. cond (p x) 1 0) x ys in
    let right = sum_by-cons (λ x. cond (p x) 1 0) y ys in
    let most = one_most (p x) in
    omega (arith, left, right, most)
set_more p (y ∷ ys) (suc i) x =
    let left = sum_by-cons (λ x. cond (p x) 1 0) y (set ys i x) in
    let right = sum_by-cons (λ x. cond (p x) 1 0) y ys in
    let rest = set_more p ys i x in
    omega (arith, left, right, rest)

pub set_no_more : {X : Type 0} (p : X → Bool) (xs : List X) (i : ℕ) (x : X) → p x ≡ false → count_by p (set xs i x) ≤ count_by p xs
set_no_more p [] i x e = omega arith
set_no_more p (y ∷ ys) zero x e =
    let left = sum_by-cons (λ x. cond (p x) 1 0) x ys in
    let right = sum_by-cons (λ x. cond (p x) 1 0) y ys in
    let fails : ◌≡◌ {A = ℕ} (cond (p x) 1 0) 0 = ap (λ b. cond b 1 0) e in
    omega (arith, left, right, fails)
set_no_more p (y ∷ ys) (suc i) x e =
    let left = sum_by-cons (λ x. cond (p x) 1 0) y (set ys i x) in
    let right = sum_by-cons (λ x. cond (p x) 1 0) y ys in
    let rest = set_no_more p ys i x e in
    omega (arith, left, right, rest)

pub set_less : {X : Type 0} (p : X → Bool) (xs : List X) (i : ℕ) (x d : X) → p x ≡ false → p d ≡ false → p (get_or xs i d) ≡ true
    → count_by p (set xs i x) + 1 ≤ count_by p xs
set_less p [] i x d fails none e = absurd (false≢true (sym none ∙ e))
set_less p (y ∷ ys) zero x d fails none e =
    let left = sum_by-cons (λ x. cond (p x) 1 0) x ys in
    let right = sum_by-cons (λ x. cond (p x) 1 0) y ys in
    let now : ◌≡◌ {A = ℕ} (cond (p x) 1 0) 0 = ap (λ b. cond b 1 0) fails in
    let was : ◌≡◌ {A = ℕ} (cond (p y) 1 0) 1 = ap (λ b. cond b 1 0) e in
    omega (arith, left, right, now, was)
set_less p (y ∷ ys) (suc i) x d fails none e =
    let left = sum_by-cons (λ x. cond (p x) 1 0) y (set ys i x) in
    let right = sum_by-cons (λ x. cond (p x) 1 0) y ys in
    let rest = set_less p ys i x d fails none e in
    omega (arith, left, right, rest)

one_le : (b c : Bool) → (b ≡ true → c ≡ true) → cond b 1 0 ≤ cond c 1 0
one_le false c h = omega arith
one_le true c h = let one : ◌≡◌ {A = ℕ} (cond c 1 0) 1 = ap (λ b. cond b 1 0) (h refl) in omega (arith, one)

-- what passes the one test passes the other
pub fewer : {X : Type 0} (p q : X → Bool) (xs : List X) → ((x : X) → p x ≡ true → q x ≡ true) → count_by p xs ≤ count_by q xs
fewer p q [] h = omega arith
fewer p q (x ∷ xs) h =
    let left = sum_by-cons (λ x. cond (p x) 1 0) x xs in
    let right = sum_by-cons (λ x. cond (q x) 1 0) x xs in
    let here = one_le (p x) (q x) (h x) in
    let rest = fewer p q xs h in
    omega (arith, left, right, here, rest)

found_or : {X : Type 0} (b : Bool) (x h : X) (rest : Option X) → cond b (Some x) rest ≡ Some h → (x ≡ h) ⊎ (rest ≡ Some h)
found_or true x h rest e = inl (cc e)
found_or false x h rest e = inr e

-- and one that is found passes the other alone
pub fewer_by_one : {X : Type 0} (p q r : X → Bool) (xs : List X) (h : X) → ((x : X) → p x ≡ true → q x ≡ true) → find r xs ≡ Some h
    → p h ≡ false → q h ≡ true → count_by p xs + 1 ≤ count_by q xs
fewer_by_one p q r [] h most found fails passes = absurd (cc found)
fewer_by_one p q r (x ∷ xs) h most found fails passes =
    let left = sum_by-cons (λ x. cond (p x) 1 0) x xs in
    let right = sum_by-cons (λ x. cond (q x) 1 0) x xs in
    elim (found_or (r x) x h (find r xs) found) [
      | inl e ↦
          let now : ◌≡◌ {A = ℕ} (cond (p x) 1 0) 0 = ap (λ x. cond (p x) 1 0) e ∙ ap (λ b. cond b 1 0) fails in
          let was : ◌≡◌ {A = ℕ} (cond (q x) 1 0) 1 = ap (λ x. cond (q x) 1 0) e ∙ ap (λ b. cond b 1 0) passes in
          let rest = fewer p q xs most in
          omega (arith, left, right, now, was, rest)
      | inr e ↦
          let here = one_le (p x) (q x) (most x) in
          let rest = fewer_by_one p q r xs h most e fails passes in
          omega (arith, left, right, here, rest)
    ]

found_at : {X : Type 0} (P : X → Type 0) (r : X → Bool) (b : Bool) (x h : X) (rest : Option X) → P x → r x ≡ b → (rest ≡ Some h → P h × (r h ≡ true))
    → cond b (Some x) rest ≡ Some h → P h × (r h ≡ true)
found_at {X = X} P r true x h rest here is go e =
    let same : x ≡ h = cc e in
    let Q : X → Type 0 = λ y. P y × (r y ≡ true) in
    subst Q same (here, is)
found_at P r false x h rest here is go e = go e

pub found_all : {X : Type 0} (P : X → Type 0) (r : X → Bool) (xs : List X) (h : X) → All P xs → find r xs ≡ Some h → P h × (r h ≡ true)
found_all P r [] h all e = absurd (cc e)
found_all P r (x ∷ xs) h all e =
    found_at P r (r x) x h (find r xs) (All-head P x xs all) refl (λ e. found_all P r xs h (All-tail P x xs all) e) e

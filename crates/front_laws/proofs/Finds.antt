-- The first number of a list that passes a test.
use Rattle.std.proofs.Common.{◌≡◌, ◌∙◌, ℕ, Bool, true, false, cond, List, [], ◌∷◌, Option, None, Some, refl, ap, sym, subst}
use Rattle.std.specs.List.{find}
use Rattle.std.proofs.lemmas.Bool.{false≢true}
use Rattle.std.proofs.lemmas.Option.{none-some, same_Some}

found_if : (p : ℕ → Bool) (y x : ℕ) (b : Bool) (rest : Option ℕ) → p y ≡ b → (rest ≡ Some x → p x ≡ true) → cond b (Some y) rest ≡ Some x → p x ≡ true
found_if p y x true rest e later h = subst (λ n. p n ≡ true) (same_Some y x h) e
found_if p y x false rest e later h = later h

pub found_passes : (p : ℕ → Bool) (xs : List ℕ) (x : ℕ) → find p xs ≡ Some x → p x ≡ true
found_passes p [] x h = absurd (none-some x h)
found_passes p (y ∷ ys) x h = found_if p y x (p y) (find p ys) refl (found_passes p ys x) h

-- Where fewer pass, but the found one still does, it is still the first.
kept_if : (p q : ℕ → Bool) (y x : ℕ) (b c : Bool) (rest rest' : Option ℕ) → p y ≡ b → q y ≡ c → (q y ≡ true → p y ≡ true) → q x ≡ true → (rest ≡ Some x → rest' ≡ Some x)
    → cond b (Some y) rest ≡ Some x → cond c (Some y) rest' ≡ Some x
kept_if p q y x true true rest rest' e f fewer passes later h = h
kept_if p q y x true false rest rest' e f fewer passes later h =
    absurd (false≢true (sym f ∙ subst (λ n. q n ≡ true) (sym (same_Some y x h)) passes))
kept_if p q y x false true rest rest' e f fewer passes later h = absurd (false≢true (sym e ∙ fewer f))
kept_if p q y x false false rest rest' e f fewer passes later h = later h

pub found_kept : (p q : ℕ → Bool) (xs : List ℕ) (x : ℕ) → ((y : ℕ) → q y ≡ true → p y ≡ true) → q x ≡ true → find p xs ≡ Some x → find q xs ≡ Some x
found_kept p q [] x fewer passes h = absurd (none-some x h)
found_kept p q (y ∷ ys) x fewer passes h = kept_if p q y x (p y) (q y) (find p ys) (find q ys) refl refl (fewer y) passes (found_kept p q ys x fewer passes) h

-- and where none is found, none is found among fewer
none_if : (p q : ℕ → Bool) (y : ℕ) (b c : Bool) (rest rest' : Option ℕ) → p y ≡ b → q y ≡ c → (q y ≡ true → p y ≡ true) → (rest ≡ None → rest' ≡ None)
    → cond b (Some y) rest ≡ None → cond c (Some y) rest' ≡ None
none_if p q y true c rest rest' e f fewer later h = absurd (none-some y (sym h))
none_if p q y false true rest rest' e f fewer later h = absurd (false≢true (sym e ∙ fewer f))
none_if p q y false false rest rest' e f fewer later h = later h

pub none_kept : (p q : ℕ → Bool) (xs : List ℕ) → ((y : ℕ) → q y ≡ true → p y ≡ true) → find p xs ≡ None → find q xs ≡ None
none_kept p q [] fewer h = refl
none_kept p q (y ∷ ys) fewer h = none_if p q y (p y) (q y) (find p ys) (find q ys) refl refl (fewer y) (none_kept p q ys fewer) h

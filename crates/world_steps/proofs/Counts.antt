-- A list has some that pass a test where their number isn't 0.
use Rattle.std.proofs.Common.{◌≡◌, ◌+◌, ◌==◌, ℕ, refl, sym, ◌∙◌, ap, arith, zero-add, Bool, true, false, List, [], ◌∷◌}
use Rattle.std.specs.Prelude.{cond, count_by, not, ◌||◌}
use Rattle.std.specs.List.{list_any}
use Rattle.std.proofs.lemmas.Bool.{ne_eqb}
use Rattle.std.proofs.lemmas.List.Sums.{sum_by-cons}

more_than : (n m : ℕ) → n ≡ 1 + m → not (n == 0) ≡ true
more_than n m e = ap not (ne_eqb n 0 (λ zero. absurd (omega (arith, e, zero))))

counts_first : {A : Type 0} (test : A → Bool) (x : A) (xs : List A) (first : Bool) → test x ≡ first → list_any test xs ≡ not (count_by test xs == 0)
    → (first || list_any test xs) ≡ not (count_by test (x ∷ xs) == 0)
counts_first test x xs true e rest =
    let sum = sum_by-cons (λ x. cond (test x) 1 0) x xs in
    sym (more_than (count_by test (x ∷ xs)) (count_by test xs) (sum ∙ ap (λ b. cond b 1 0 + count_by test xs) e))
counts_first test x xs false e rest =
    let sum = sum_by-cons (λ x. cond (test x) 1 0) x xs in
    let same : count_by test (x ∷ xs) ≡ count_by test xs = sum ∙ ap (λ b. cond b 1 0 + count_by test xs) e ∙ zero-add (count_by test xs) in
    rest ∙ sym (ap (λ n. not (n == 0)) same)

pub any_counts : {A : Type 0} (test : A → Bool) (xs : List A) → list_any test xs ≡ not (count_by test xs == 0)
any_counts test [] = refl
any_counts test (x ∷ xs) = counts_first test x xs (test x) refl (any_counts test xs)

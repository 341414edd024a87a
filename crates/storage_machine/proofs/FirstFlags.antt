-- The first flag that is up, when one goes up or down.
use Rattle.std.proofs.Common.{◌≡◌, ◌≢◌, ℕ, zero, suc, ◌+◌, ◌<◌, ◌≤◌, Bool, true, false, List, [], ◌∷◌, length, refl, sym, ◌∙◌, arith, subst}
use Rattle.std.specs.Prelude.{◌==◌, min, nat_lt, get_or, set}
use Rattle.std.specs.List.{list_any, position_or_len}
use Rattle.std.proofs.lemmas.Bool.{eqb-true, eqb-false, false≢true}
use Rattle.std.proofs.lemmas.List.{get_or-set_other}

abbrev pub first : List Bool → ℕ
first flags = position_or_len (λ flag. flag) flags

pub first-here : (xs : List Bool) (i : ℕ) → i < length xs → ((k : ℕ) → k < i → get_or xs k false ≡ false) → get_or xs i false ≡ true
    → i ≡ first xs
first-here [] i low below here = absurd (omega (arith, low))
first-here (true ∷ xs) zero low below here = refl
first-here (false ∷ xs) zero low below here = absurd (false≢true here)
first-here (true ∷ xs) (suc i) low below here = absurd (false≢true (sym (below 0 (omega arith))))
first-here (false ∷ xs) (suc i) low below here =
    let rest = first-here xs i (omega (arith, low)) (λ k l. below (suc k) (omega (arith, l))) here in omega (arith, rest)

pub first-none : (xs : List Bool) → ((k : ℕ) → k < length xs → get_or xs k false ≡ false) → length xs ≡ first xs
first-none [] below = refl
first-none (true ∷ xs) below = absurd (false≢true (sym (below 0 (omega arith))))
first-none (false ∷ xs) below =
    let rest = first-none xs (λ k l. below (suc k) (omega (arith, l))) in omega (arith, rest)

pub first-before : (xs : List Bool) (k : ℕ) → k < first xs → get_or xs k false ≡ false
first-before [] k low = absurd (omega (arith, low))
first-before (true ∷ xs) k low = absurd (omega (arith, low))
first-before (false ∷ xs) zero low = refl
first-before (false ∷ xs) (suc k) low = first-before xs k (omega (arith, low))

pub first-within : (xs : List Bool) → first xs ≤ length xs
first-within [] = omega arith
first-within (true ∷ xs) = omega arith
first-within (false ∷ xs) = let rest = first-within xs in omega (arith, rest)

-- one is up exactly where the first is a place
pub first_any : (xs : List Bool) → nat_lt (first xs) (length xs) ≡ list_any (λ flag. flag) xs
first_any [] = refl
first_any (true ∷ xs) =
    let less : nat_lt (first (true ∷ xs)) (length (true ∷ xs)) ≡ true = grind arith in
    less
first_any (false ∷ xs) =
    let rest = first_any xs in
    let less : nat_lt (first (false ∷ xs)) (length (false ∷ xs)) ≡ nat_lt (first xs) (length xs) = grind arith in
    less ∙ rest

-- one goes up
pub first-raised : (xs : List Bool) (i : ℕ) → i < length xs → first (set xs i true) ≡ min i (first xs)
first-raised [] i low = absurd (omega (arith, low))
first-raised (x ∷ xs) zero low = omega arith
first-raised (true ∷ xs) (suc i) low = omega arith
first-raised (false ∷ xs) (suc i) low = let rest = first-raised xs i (omega (arith, low)) in omega (arith, rest)

cleared : (xs : List Bool) (place : ℕ) → get_or (set xs place false) place false ≡ false
cleared [] place = refl
cleared (x ∷ xs) zero = refl
cleared (x ∷ xs) (suc place) = cleared xs place

before_at : (b : Bool) (xs : List Bool) (place k : ℕ) → (k == place) ≡ b → k < place + 1 → ((k : ℕ) → k < place → get_or xs k false ≡ false)
    → get_or (set xs place false) k false ≡ false
before_at true xs place k h low before =
    let same : k ≡ place = eqb-true k place h in
    subst (λ n. get_or (set xs place false) n false ≡ false) (sym same) (cleared xs place)
before_at false xs place k h low before =
    let apart = eqb-false k place h in
    get_or-set_other xs place k false false apart ∙ before k (omega (arith, apart, low))

-- where the first goes down, none is up as far as there
pub lowered-before : (xs : List Bool) (place : ℕ) → place ≡ first xs → (k : ℕ) → k < place + 1 → get_or (set xs place false) k false ≡ false
lowered-before xs place at k low =
    before_at (k == place) xs place k refl low (λ k l. first-before xs k (omega (arith, at, l)))

-- where another goes down, the first stays
pub lowered-other : (xs : List Bool) (place : ℕ) → place ≢ first xs → first (set xs place false) ≡ first xs
lowered-other [] place apart = refl
lowered-other (true ∷ xs) zero apart = absurd (apart refl)
lowered-other (false ∷ xs) zero apart = refl
lowered-other (true ∷ xs) (suc place) apart = refl
lowered-other (false ∷ xs) (suc place) apart =
    let rest = lowered-other xs place (λ e. apart (omega (arith, e))) in omega (arith, rest)

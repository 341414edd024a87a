-- The lowest waiting request, and how many wait, when one more or one less waits.
use Rattle.std.proofs.Common.{◌≡◌, ℕ, zero, suc, ◌+◌, ◌<◌, ◌≤◌, Bool, true, false, List, [], ◌∷◌, length, refl, sym, ap, ◌∙◌, arith, subst}
use Rattle.std.specs.Prelude.{◌==◌, cond, min, count_by, get_or, set, replicate}
use Rattle.std.specs.List.{position_or_len}
use Rattle.std.proofs.lemmas.Bool.{eqb-true, eqb-false, false≢true}
use Rattle.std.proofs.lemmas.List.{get_or-set_other}
use Rattle.std.proofs.lemmas.List.Sums.{count_by-le-length, sum_by-cons, sum_by-set}

-- the lowest place that waits
abbrev pub lowest : List Bool → ℕ
lowest waiting = position_or_len (λ waits. waits) waiting

-- how many wait
abbrev pub number : List Bool → ℕ
number waiting = count_by (λ waits. waits) waiting

pub lowest-here : (xs : List Bool) (i : ℕ) → i < length xs → ((k : ℕ) → k < i → get_or xs k false ≡ false) → get_or xs i false ≡ true
    → i ≡ lowest xs
lowest-here [] i low below here = absurd (omega (arith, low))
lowest-here (true ∷ xs) zero low below here = refl
lowest-here (false ∷ xs) zero low below here = absurd (false≢true here)
lowest-here (true ∷ xs) (suc i) low below here = absurd (false≢true (sym (below 0 (omega arith))))
lowest-here (false ∷ xs) (suc i) low below here =
    let rest = lowest-here xs i (omega (arith, low)) (λ k l. below (suc k) (omega (arith, l))) here in omega (arith, rest)

pub lowest-none : (xs : List Bool) → ((k : ℕ) → k < length xs → get_or xs k false ≡ false) → length xs ≡ lowest xs
lowest-none [] below = refl
lowest-none (true ∷ xs) below = absurd (false≢true (sym (below 0 (omega arith))))
lowest-none (false ∷ xs) below =
    let rest = lowest-none xs (λ k l. below (suc k) (omega (arith, l))) in omega (arith, rest)

pub lowest-waits : (xs : List Bool) → lowest xs < length xs → get_or xs (lowest xs) false ≡ true
lowest-waits [] low = absurd (omega (arith, low))
lowest-waits (true ∷ xs) low = refl
lowest-waits (false ∷ xs) low =
    let step : lowest (false ∷ xs) ≡ suc (lowest xs) = omega arith in
    subst (λ n. get_or (false ∷ xs) n false ≡ true) (sym step) (lowest-waits xs (omega (arith, low)))

pub lowest-before : (xs : List Bool) (k : ℕ) → k < lowest xs → get_or xs k false ≡ false
lowest-before [] k low = absurd (omega (arith, low))
lowest-before (true ∷ xs) k low = absurd (omega (arith, low))
lowest-before (false ∷ xs) zero low = refl
lowest-before (false ∷ xs) (suc k) low = lowest-before xs k (omega (arith, low))

pub lowest-within : (xs : List Bool) → lowest xs ≤ length xs
lowest-within [] = omega arith
lowest-within (true ∷ xs) = omega arith
lowest-within (false ∷ xs) = let rest = lowest-within xs in omega (arith, rest)

-- one more waits
pub lowest-set : (xs : List Bool) (i : ℕ) → i < length xs → lowest (set xs i true) ≡ min i (lowest xs)
lowest-set [] i low = absurd (omega (arith, low))
lowest-set (x ∷ xs) zero low = omega arith
lowest-set (true ∷ xs) (suc i) low = omega arith
lowest-set (false ∷ xs) (suc i) low = let rest = lowest-set xs i (omega (arith, low)) in omega (arith, rest)

pub number-more : (xs : List Bool) (i : ℕ) → i < length xs → get_or xs i false ≡ false → number (set xs i true) ≡ number xs + 1
number-more xs i low here =
    let both = sum_by-set (λ waits. cond waits 1 0) xs i true false low in
    let was : ◌≡◌ {A = ℕ} (cond (get_or xs i false) 1 0) 0 = ap (λ waits. cond waits 1 0) here in
    omega (arith, both, was)

pub number-less : (xs : List Bool) (i : ℕ) → i < length xs → get_or xs i false ≡ true → number (set xs i false) + 1 ≡ number xs
number-less xs i low here =
    let both = sum_by-set (λ waits. cond waits 1 0) xs i false false low in
    let was : ◌≡◌ {A = ℕ} (cond (get_or xs i false) 1 0) 1 = ap (λ waits. cond waits 1 0) here in
    omega (arith, both, was)

pub number-within : (xs : List Bool) → number xs ≤ length xs
number-within xs = count_by-le-length (λ waits. waits) xs

cleared : (xs : List Bool) (place : ℕ) → get_or (set xs place false) place false ≡ false
cleared [] place = refl
cleared (x ∷ xs) zero = refl
cleared (x ∷ xs) (suc place) = cleared xs place

before_at : (b : Bool) (xs : List Bool) (place k : ℕ) → (k == place) ≡ b → k < place + 1 → ((k : ℕ) → k < place → get_or xs k false ≡ false)
    → get_or (set xs place false) k false ≡ false
before_at true xs place k h low before =
    let same : k ≡ place = eqb-true k place h in
    subst (λ n. get_or (set xs place false) n false ≡ false) (sym same) (cleared xs place)
before_at false xs place k h low before =
    let apart = eqb-false k place h in
    get_or-set_other xs place k false false apart ∙ before k (omega (arith, apart, low))

-- where the lowest one waits no more, none waits up to it
pub set-before : (xs : List Bool) (k : ℕ) → k < lowest xs + 1 → get_or (set xs (lowest xs) false) k false ≡ false
set-before xs k low = before_at (k == lowest xs) xs (lowest xs) k refl low (λ k l. lowest-before xs k l)

pub lowest-all : (n : ℕ) → 0 ≡ lowest (replicate n true)
lowest-all zero = refl
lowest-all (suc n) = refl

pub number-all : (n : ℕ) → n ≡ number (replicate n true)
number-all zero = refl
number-all (suc n) =
    let rest = number-all n in
    let more = sum_by-cons (λ waits. cond waits 1 0) true (replicate n true) in
    omega (arith, rest, more)

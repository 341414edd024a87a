-- Numbers that rise, and one more.
use Rattle.std.proofs.Common.{◌≡◌, ℕ, zero, suc, ◌+◌, ◌<◌, ◌≤◌, max, List, [], ◌∷◌, ◌++◌, length, get_or, map, sym, ap, ◌∙◌, subst, arith}
use Rattle.std.specs.Prelude.{All, AllPairs, flat_map}
use Rattle.std.proofs.Math.ListN.{get_or-append}
use Rattle.std.proofs.Math.Seq.{get_or-append_seam}
use Rattle.std.proofs.lemmas.Grind.{flat_map-append}
use Rattle.std.proofs.lemmas.List.{append-nil, get_or-map, length-append, length-map}
use Rattle.std.proofs.lemmas.List.Quantifiers.{all_pairs_push}
use Rattle.storage_model.specs.Faults.{AreRising}
use Rattle.fault_text.specs.declared.line.FaultLine.{FaultLine}

-- the least number above all of these
abbrev pub past_of : List ℕ → ℕ
past_of [] = 0
past_of (n ∷ numbers) = max (n + 1) (past_of numbers)

below_past : (numbers : List ℕ) (k d : ℕ) → k < length numbers → get_or numbers k d < past_of numbers
below_past [] k d below = absurd (omega arith)
below_past (n ∷ numbers) zero d below = omega arith
below_past (n ∷ numbers) (suc k) d below = omega (arith, below_past numbers k d (omega arith))

past_least : (numbers : List ℕ) (m : ℕ) → ((k : ℕ) → k < length numbers → get_or numbers k 0 < m) → past_of numbers ≤ m
past_least [] m each = omega arith
past_least (n ∷ numbers) m each = omega (arith, each 0 (omega arith), past_least numbers m (λ k below. each (suc k) (omega arith)))

past-push : (numbers : List ℕ) (m : ℕ) → past_of (numbers ++ m ∷ []) ≡ max (past_of numbers) (m + 1)
past-push [] m = omega arith
past-push (n ∷ numbers) m = omega (arith, past-push numbers m)

rises_push : (numbers : List ℕ) (m : ℕ) → AreRising numbers → past_of numbers ≤ m → AreRising (numbers ++ m ∷ [])
rises_push numbers m rising past =
    all_pairs_push (λ n later. n < later) numbers m rising (λ k d below. omega (arith, below_past numbers k d below))

pub rises_front : (numbers more : List ℕ) → AreRising (numbers ++ more) → AreRising numbers
rises_front numbers more rising = λ i j d before below.
    omega (arith, rising i j d before (omega (arith, length-append numbers more)), get_or-append numbers more d i (omega arith), get_or-append numbers more d j below)

rises_last : (numbers : List ℕ) (m : ℕ) → AreRising (numbers ++ m ∷ []) → past_of numbers ≤ m
rises_last numbers m rising = past_least numbers m (λ k below.
    omega (arith, rising k (length numbers) 0 below (omega (arith, length-append numbers (m ∷ []))), get_or-append numbers (m ∷ []) 0 k below, get_or-append_seam numbers m [] 0))

pub rises_head : (n : ℕ) (numbers : List ℕ) → AreRising (n ∷ numbers) → All (λ later. n < later) numbers
rises_head n numbers rising = λ k d below. rising 0 (suc k) d (omega arith) (omega arith)

pub rises_tail : (n : ℕ) (numbers : List ℕ) → AreRising (n ∷ numbers) → AreRising numbers
rises_tail n numbers rising = λ i j d before below. rising (suc i) (suc j) d (omega arith) (omega arith)

-- elements whose numbers rise
pub rises_map : {X : Type 0} (number : X → ℕ) (xs : List X) → AreRising (map number xs) → AllPairs (λ x later. number x < number later) xs
rises_map number xs rising = λ i j d before below.
    omega (arith, rising i j (number d) before (omega (arith, length-map xs number)), get_or-map number xs i d (number d) (omega arith), get_or-map number xs j d (number d) below)

-- the numbers of lines, and of one line more
module _ (number : FaultLine → List ℕ) (lines : List FaultLine) (line : FaultLine) where
  pub numbers-push : flat_map number (lines ++ line ∷ []) ≡ flat_map number lines ++ number line
  numbers-push = flat_map-append number lines (line ∷ []) ∙ ap (λ more. flat_map number lines ++ more) (append-nil (number line))

  pub numbers_kept : number line ≡ [] → flat_map number (lines ++ line ∷ []) ≡ flat_map number lines
  numbers_kept none = numbers-push ∙ ap (λ more. flat_map number lines ++ more) none ∙ append-nil (flat_map number lines)

  pub numbers_more : (n : ℕ) → number line ≡ n ∷ [] → flat_map number (lines ++ line ∷ []) ≡ flat_map number lines ++ n ∷ []
  numbers_more n one = numbers-push ∙ ap (λ more. flat_map number lines ++ more) one

  pub rising_kept : number line ≡ [] → AreRising (flat_map number lines) → AreRising (flat_map number (lines ++ line ∷ []))
  rising_kept none rising = let P : List ℕ → Type 0 = λ numbers. AreRising numbers in subst P (sym (numbers_kept none)) rising

  pub rising_more : (n : ℕ) → number line ≡ n ∷ [] → AreRising (flat_map number lines) → past_of (flat_map number lines) ≤ n → AreRising (flat_map number (lines ++ line ∷ []))
  rising_more n one rising past = let P : List ℕ → Type 0 = λ numbers. AreRising numbers in subst P (sym (numbers_more n one)) (rises_push (flat_map number lines) n rising past)

  pub rising_past : (n : ℕ) → number line ≡ n ∷ [] → AreRising (flat_map number (lines ++ line ∷ [])) → past_of (flat_map number lines) ≤ n
  rising_past n one rising = let P : List ℕ → Type 0 = λ numbers. AreRising numbers in rises_last (flat_map number lines) n (subst P (numbers_more n one) rising)

  pub past_kept : number line ≡ [] → past_of (flat_map number (lines ++ line ∷ [])) ≡ past_of (flat_map number lines)
  past_kept none = ap past_of (numbers_kept none)

  pub past_more : (n : ℕ) → number line ≡ n ∷ [] → past_of (flat_map number lines) ≤ n → past_of (flat_map number (lines ++ line ∷ [])) ≡ n + 1
  past_more n one past = ap past_of (numbers_more n one) ∙ (past-push (flat_map number lines) n ∙ omega arith)

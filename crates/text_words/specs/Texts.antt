-- Texts of lines, and where a text is bad, whatever its lines mean.
use Rattle.std.specs.Prelude.{◌≡◌, ◌≢◌, ◌==◌, ℕ, ◌+◌, List, [], ◌∷◌, ◌++◌, All, count_by}

-- how many lines end in a text
abbrev pub lines_in : List ℕ → ℕ
lines_in bytes = count_by (λ b. b == 10) bytes

-- a text up to its first bad line: it means something, and with the next line it means nothing, if there is a whole next line
pub record IsBadAfter {M : Type 0} (Means : List ℕ → M → Type 0) (bytes good rest : List ℕ) : Type 0 where
  pub text : bytes ≡ good ++ rest
  pub meaning : M
  pub means : Means good meaning
  pub more : rest ≢ []
  pub bad : (next after : List ℕ) (other : M) → rest ≡ next ++ 10 ∷ after → All (λ b. b ≢ 10) next → ¬ Means (good ++ next ++ 10 ∷ []) other

-- the number of a text's first bad line, counted from 1
abbrev pub IsBadAt : {M : Type 0} (Means : List ℕ → M → Type 0) → List ℕ → ℕ → Type 0
IsBadAt Means bytes number = (good : List ℕ) × (rest : List ℕ) × IsBadAfter Means bytes good rest × (number ≡ lines_in good + 1)

-- What a call of a source moves.
use Rattle.std.specs.Prelude.{◌≡◌, ℕ, ◌<◌, List, [], ◌++◌, length, take, drop, Option, Some, None, option_map, Result, Ok, Err}
use Rattle.io_edge.specs.declared.Failed.{Failed}

-- the next n bytes stand at the front of the buffer and are gone from what is left; none of a buffer that isn't empty
-- means that nothing is left; after a failure nothing was moved
abbrev pub Fills : Option (List ℕ) → List ℕ → Result ℕ Failed → Option (List ℕ) → Type 0
Fills None buffer result later = later ≡ None
Fills (Some bytes) buffer (Ok n) later = (take n buffer ≡ take n bytes) × (later ≡ Some (drop n bytes)) × (0 < length buffer → n ≡ 0 → bytes ≡ [])
Fills (Some bytes) buffer (Err failed) later = later ≡ Some bytes

-- the bytes up to the end or the first `most`; the rest is left
abbrev pub TakesUpTo : Option (List ℕ) → ℕ → List ℕ → Option (List ℕ) → Type 0
TakesUpTo None most bytes later = later ≡ None
TakesUpTo (Some left) most bytes later = (bytes ≡ take most left) × (later ≡ Some (drop most left))

-- the bytes, and then those that are left, where they are told
abbrev pub joined : List ℕ → Option (List ℕ) → Option (List ℕ)
joined bytes left = option_map (λ rest. bytes ++ rest) left

-- some first bytes are gone from what is left
pub record LosesFront (old later : Option (List ℕ)) : Type 0 where
  pub gone : List ℕ
  pub rest : joined gone later ≡ old

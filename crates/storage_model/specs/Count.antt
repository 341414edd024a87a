-- Counts of faults. A counter in a machine word stays at its last value.
use Rattle.std.specs.Prelude.{◌≡◌, ◌⊎◌, ◌+◌, ◌-◌, ◌^◌, ◌==◌, ◌<◌, ◌≤◌, ℕ, Bool, true}

-- how often it happened, and whether the counter stands at its end, so that more isn't counted
pub record Count : Type 0 where
  pub value : ℕ
  pub stands : Bool

-- what a counter of 64 bits tells, which stays at its last value
abbrev pub count_of : ℕ → Count
count_of n = record { value = n; stands = n == 2 ^ 64 - 1 }

-- it didn't fall
pub record Later (old new : Count) : Type 0 where
  pub value : old.value ≤ new.value
  pub stands : old.stands ≡ true → new.stands ≡ true

-- it rose, or stands at its end
abbrev pub Rose : Count → Count → Type 0
Rose old new = (old.value < new.value) ⊎ (new.stands ≡ true)

-- it was raised by one, or stands at its end
abbrev pub RaisedByOne : Count → Count → Type 0
RaisedByOne old new = (new.value ≡ old.value + 1) ⊎ ((new.stands ≡ true) × (new.value ≡ old.value))

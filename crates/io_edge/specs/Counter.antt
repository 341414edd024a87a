-- A counter of faults in a u64 that stays at its last value.
use Rattle.std.specs.Prelude.{ℕ, ◌-◌, ◌^◌, ◌==◌}
use Rattle.storage_model.specs.Count.{Count}

-- what the counter tells
abbrev pub counted : ℕ → Count
counted n = record { value = n; stands = n == 2 ^ 64 - 1 }

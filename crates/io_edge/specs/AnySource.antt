-- One of three sources.
use Rattle.std.specs.Prelude.{ℕ, List, [], Option, Some, None}
use Rattle.storage_model.specs.Count.{Count}
use Rattle.io_edge.specs.Counter.{counted}
use Rattle.io_edge.specs.declared.any_source.AnySource.{AnySource}
use Rattle.io_edge.specs.declared.any_source.AnySource.TheVariants.{Empty, No, Std}

-- only the empty one tells what is left
abbrev pub any_left : {R : Type 0} → AnySource R → Option (List ℕ)
any_left (Empty source) = Some []
any_left (No source) = None
any_left (Std source) = None

-- how often the one failed
abbrev pub any_faults : {R : Type 0} → AnySource R → Count
any_faults (Empty source) = counted 0
any_faults (No faults) = counted faults
any_faults (Std source) = counted source.faults

-- the one whose every call fails
abbrev pub IsUnopened : {R : Type 0} → AnySource R → Type 0
IsUnopened (No faults) = Unit {0}
IsUnopened source = ⊥

-- A source in memory, some of whose calls fail.
use Rattle.std.specs.Prelude.{ℕ, List}

-- the bytes that are left, the numbers of the calls that fail, and how many calls and faults came, in counters that stay
-- at their last value
pub record SourceState : Type 0 where
  pub left : List ℕ
  pub fails : List ℕ
  pub calls : ℕ
  pub faults : ℕ

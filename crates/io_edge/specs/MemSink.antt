-- A sink in memory, some of whose calls fail.
use Rattle.std.specs.Prelude.{◌≡◌, ℕ, ◌<◌, List, [], ◌++◌, length}

-- the bytes that were taken, how many it has room for and how many a call takes at most, the numbers of the calls that
-- fail, and how many calls and faults came, in counters that stay at their last value
pub record SinkState : Type 0 where
  pub bytes : List ℕ
  pub room : ℕ
  pub step : ℕ
  pub fails : List ℕ
  pub calls : ℕ
  pub faults : ℕ

-- its bytes grew by the list; where no call is to fail and there is room left, no fault came
pub record Grew (old : SinkState) (more : List ℕ) (new : SinkState) : Type 0 where
  pub bytes : new.bytes ≡ old.bytes ++ more
  pub room : new.room ≡ old.room
  pub step : new.step ≡ old.step
  pub fails : new.fails ≡ old.fails
  pub quiet : new.fails ≡ [] → length new.bytes < new.room → new.faults ≡ old.faults

-- A reader or a writer of std, and how often it failed, in a counter that stays at its last value.
use Rattle.std.specs.Prelude.{ℕ}

pub record Reads (R : Type 0) : Type 0 where
  pub reader : R
  pub faults : ℕ

pub record Writes (W : Type 0) : Type 0 where
  pub writer : W
  pub faults : ℕ

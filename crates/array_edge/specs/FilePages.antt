-- An array over a file. What the file holds is not said: the pages aren't told.
use Rattle.std.specs.Prelude.{ℕ, Bool, None, Result, Ok, Err}
use Rattle.storage_model.specs.Count.{count_of}
use Rattle.array_edge.specs.Array.{ArrayState}
use Rattle.array_edge.specs.Hits.{raised}
use Rattle.array_edge.specs.declared.array.ArrayEnd.{ArrayEnd}

-- `missing`: there is no file, so that each call fails
pub record FilePages : Type 0 where
  pub pages : ℕ
  pub missing : Bool
  pub powered : Bool
  pub faults : ℕ
  pub programs : ℕ
  pub fetches : ℕ
  pub settled : Bool

-- what it is as an array: it is never cut
abbrev pub array_over : FilePages → ArrayState
array_over f = record { told = None; count = f.pages; powered = f.powered; faults = count_of f.faults; cuts = count_of 0; programs = count_of f.programs; fetches = count_of f.fetches; settled = f.settled }

-- each error is counted
abbrev pub after_end : Result (Unit {0}) ArrayEnd → FilePages → FilePages
after_end (Ok _) f = f
after_end (Err _) f = record f { faults = raised f.faults }

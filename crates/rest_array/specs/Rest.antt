-- What is so of a run's array behind some moment of it.
use Rattle.std.specs.Prelude.{◌≡◌, ℕ, List}
use Rattle.storage_model.specs.Count.{Later}
use Rattle.storage_model.specs.declared.faults.ArrayHit.{ArrayHit}
use Rattle.array_edge.specs.Array.{ArrayState}
use Rattle.array_edge.specs.Script.{HasRun}

-- the counts of faults and of cuts didn't fall
pub record CountsOn (old new : ArrayState) : Type 0 where
  pub faults : Later old.faults new.faults
  pub cuts : Later old.cuts new.cuts

-- how far the calls came since the start of the run, and that no count fell since the moment; the faults are those that were scripted
pub record IsRest (start moment now : ArrayState) (scripted hits : List ArrayHit) (programs fetches : ℕ) : Type 0 where
  pub run : HasRun start now hits programs fetches
  pub on : CountsOn moment now
  pub same : hits ≡ scripted

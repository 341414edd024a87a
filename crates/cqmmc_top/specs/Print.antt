-- The status of a run, and what has to have happened for it to end so.
use Rattle.std.specs.Prelude.{ℕ, Result, Ok, Err, IsErrOf}
use Rattle.storage_model.specs.Count.{Count, Later, Rose}
use Rattle.storage_model.specs.declared.ends.Halt.{Halt}
use Rattle.storage_model.specs.declared.ends.Halt.TheVariants.{SinkFailed, OpenFault, PowerGone, BadImage}
use Rattle.array_edge.specs.Array.{ArrayState}

-- the status of a run, by how it ended
abbrev pub run_status : Result (Unit {0}) Halt → ℕ
run_status (Ok done) = 0
run_status (Err SinkFailed) = 5
run_status (Err BadImage) = 6
run_status (Err OpenFault) = 7
run_status (Err PowerGone) = 8

-- counts don't fall, and each end comes only where its count rose
pub record HasCause (sink_old sink_new : Count) (old new : ArrayState) (result : Result (Unit {0}) Halt) : Type 0 where
  pub sink : Later sink_old sink_new
  pub faults : Later old.faults new.faults
  pub cuts : Later old.cuts new.cuts
  pub sink_failed : IsErrOf result SinkFailed → Rose sink_old sink_new
  pub open_fault : IsErrOf result OpenFault → Rose old.faults new.faults
  pub power_gone : IsErrOf result PowerGone → Rose old.cuts new.cuts
  pub image : IsErrOf result BadImage → ⊥

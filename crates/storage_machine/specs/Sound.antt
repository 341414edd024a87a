-- What is true of each state: the contents are no longer than their numbers reach, and the requests are those of a valid plan.
use Rattle.std.specs.Prelude.{◌<◌, ◌^◌, All, length}
use Rattle.storage_machine.specs.declared.state.State.{State}
use Rattle.storage_model.specs.Plan.{IsValidJob}

pub record IsSound (s : State) : Type 0 where
  pub base : length s.base < 2 ^ 32
  pub jobs : All (IsValidJob s.plan.blocks) s.plan.jobs

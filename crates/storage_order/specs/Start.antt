-- With what a machine starts: contents that a sector's number reaches, and a valid plan.
use Rattle.std.specs.Prelude.{◌<◌, ◌^◌, List, length}
use Rattle.storage_model.specs.Plan.{IsValidPlan}
use Rattle.storage_model.specs.declared.block.Block.{Block}
use Rattle.storage_model.specs.declared.plan.Plan.{Plan}

pub record IsStart (base : List Block) (plan : Plan) : Type 0 where
  pub sectors : length base < 2 ^ 32
  pub valid : IsValidPlan plan

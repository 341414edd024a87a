-- A table of the granules that a list of values has of a block, as a pass over marks keeps it.
use Rattle.std.specs.Prelude.{◌≡◌, ℕ, ◌<◌, Bool, false, List, slice_index_or}
use Rattle.storage_model.specs.Left.{has_granule}
use Rattle.storage_model.specs.declared.block.Block.{Block}
use Rattle.storage_model.specs.declared.block.TheConstants.{GRANULES}

-- for each granule of w, `cover` says whether one of the values has it
pub record Covers (cover : List Bool) (values : List Block) (w : Block) : Type 0 where
  pub each : (g : ℕ) → g < GRANULES → slice_index_or cover g false ≡ has_granule values w g

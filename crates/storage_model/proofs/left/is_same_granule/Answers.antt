use Rattle.storage_model.specs.Left.{same_granule}
use Rattle.storage_model.specs.Granule.{granule}
use Rattle.storage_model.proofs.left.is_same_granule.Goals as goal

pub returns : goal.returns
unfolding same_granule granule
returns c = c.eq.ensures

use Rattle.left_laws.proofs.Rests.{rest_kept}
use Rattle.left_laws.proofs.laws.other_sectors_are_kept.Goals as goal

pub returns : goal.returns
returns c = λ base after pend. rest_kept base pend after

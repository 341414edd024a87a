use Rattle.left_laws.proofs.Backs.{left_shown}
use Rattle.left_laws.proofs.Kept.{are_kept}
use Rattle.left_laws.proofs.laws.shown_is_left.Goals as goal

pub returns : goal.returns
returns c = record { left = left_shown; kept = are_kept }

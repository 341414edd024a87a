use Rattle.cut_laws.proofs.Lose.{lost_shown}
use Rattle.cut_laws.proofs.laws.lost_are_shown.Goals as goal

pub returns : goal.returns
returns c = lost_shown

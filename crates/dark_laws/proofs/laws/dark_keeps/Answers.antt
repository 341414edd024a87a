use Rattle.dark_laws.proofs.Kept.{left_so}
use Rattle.dark_laws.proofs.laws.dark_keeps.Goals as goal

pub returns : goal.returns
returns c = left_so

use Rattle.dark_laws.proofs.Ends.{ends_dark}
use Rattle.dark_laws.proofs.laws.dark_ends.Goals as goal

pub returns : goal.returns
returns c = ends_dark

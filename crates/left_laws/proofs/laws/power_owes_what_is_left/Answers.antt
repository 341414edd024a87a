use Rattle.left_laws.proofs.Ons.{turns_on}
use Rattle.left_laws.proofs.laws.power_owes_what_is_left.Goals as goal

pub returns : goal.returns
returns c = turns_on

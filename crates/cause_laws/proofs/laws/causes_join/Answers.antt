use Rattle.cause_laws.proofs.Joining.{are_joined}
use Rattle.cause_laws.proofs.laws.causes_join.Goals as goal

pub returns : goal.returns
returns c = are_joined

use Rattle.cause_laws.proofs.Explaining.{events_explained}
use Rattle.cause_laws.proofs.laws.events_have_causes.Goals as goal

pub returns : goal.returns
returns c = events_explained c.host_has_less_to_do.ensures.lit

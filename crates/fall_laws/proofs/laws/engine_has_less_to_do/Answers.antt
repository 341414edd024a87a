use Rattle.fall_laws.proofs.Going.{engine_goes_on}
use Rattle.fall_laws.proofs.Mosts.{engine_most}
use Rattle.fall_laws.proofs.Running.{engine_falls}
use Rattle.fall_laws.proofs.laws.engine_has_less_to_do.Goals as goal

pub returns : goal.returns
returns c = record { falls = engine_falls; most = engine_most; script = engine_goes_on }

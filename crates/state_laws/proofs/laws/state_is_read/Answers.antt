use Rattle.state_laws.proofs.EngineLaws.{engine_laws}
use Rattle.state_laws.proofs.HostWork.{host_laws}
use Rattle.state_laws.proofs.laws.state_is_read.Goals as goal

pub returns : goal.returns
returns c = record { laws = record { engine = engine_laws; host = host_laws } }

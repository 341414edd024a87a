use Rattle.host_falls.proofs.Hosting.{host_falls}
use Rattle.host_falls.proofs.Resting.{host_rests, same_left}
use Rattle.host_falls.proofs.Scripts.{host_lit}
use Rattle.host_falls.proofs.laws.host_has_less_to_do.Goals as goal

pub returns : goal.returns
returns c = record { falls = host_falls; rests = host_rests; lit = host_lit; read_off = same_left }

use Rattle.front_laws.proofs.Cards.{card_near, power_near}
use Rattle.front_laws.proofs.Engines.{engine_near}
use Rattle.front_laws.proofs.Hosts.{host_near}
use Rattle.front_laws.proofs.Nears.{keeps_near}
use Rattle.front_laws.proofs.laws.events_stay_near.Goals as goal

pub returns : goal.returns
returns c = record { keeps = keeps_near; engine = engine_near; host = host_near; card = card_near; power = power_near }

use Rattle.host_laws.proofs.AllTold.{host_steps}
use Rattle.host_laws.proofs.laws.host_events_are_the_machines.Goals as goal

pub returns : goal.returns
returns c = record { steps = host_steps }

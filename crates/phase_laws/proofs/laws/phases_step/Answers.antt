use Rattle.phase_laws.proofs.Ties.{phase_steps, phases_keep}
use Rattle.phase_laws.proofs.laws.phases_step.Goals as goal

pub returns : goal.returns
returns c = record { ties = phases_keep; steps = phase_steps }

use Rattle.command_laws.proofs.AllTells.{all_steps}
use Rattle.command_laws.proofs.laws.commands_step.Goals as goal

pub returns : goal.returns
returns c = record { steps = all_steps }

use Rattle.command_laws.proofs.AllTies.{all_power, all_ties}
use Rattle.command_laws.proofs.laws.commands_keep_ties.Goals as goal

pub returns : goal.returns
returns c = record { ties = all_ties; power = all_power }

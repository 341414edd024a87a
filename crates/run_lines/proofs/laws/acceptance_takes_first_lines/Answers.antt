use Rattle.run_lines.proofs.Untold.{first_taken}
use Rattle.run_lines.proofs.laws.acceptance_takes_first_lines.Goals as goal

pub returns : goal.returns
returns c = first_taken

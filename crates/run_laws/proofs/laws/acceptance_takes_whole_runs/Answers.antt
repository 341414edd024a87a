use Rattle.run_laws.proofs.Whole.{whole_front_taken, whole_taken}
use Rattle.run_laws.proofs.laws.acceptance_takes_whole_runs.Goals as goal

pub returns : goal.returns
returns c = record { whole = whole_taken; written = whole_front_taken }

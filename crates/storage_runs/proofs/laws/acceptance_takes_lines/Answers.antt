use Rattle.storage_runs.proofs.Mores.{more_taken}
use Rattle.storage_runs.proofs.Turns.{turn_taken}
use Rattle.storage_runs.proofs.laws.acceptance_takes_lines.Goals as goal

pub returns : goal.returns
returns c = record { letter = turn_taken; further = more_taken }

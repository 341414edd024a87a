use Rattle.run_events.proofs.Events.{front_taken, is_taken}
use Rattle.run_events.proofs.Finals.{end_taken}
use Rattle.run_events.proofs.Joined.{run_taken}
use Rattle.run_events.proofs.laws.acceptance_takes_events.Goals as goal

pub returns : goal.returns
returns c = record { event = is_taken; front = front_taken; run = run_taken; end = end_taken }

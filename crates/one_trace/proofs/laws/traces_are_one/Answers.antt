use Rattle.one_trace.proofs.Runs.{one_run}
use Rattle.one_trace.proofs.Traces.{one_front, one_next, one_trace}
use Rattle.one_trace.proofs.laws.traces_are_one.Goals as goal

pub returns : goal.returns
returns c = record { next = one_next; whole = one_trace; front = one_front; run = one_run }

use Rattle.std.proofs.Common.{length}
use Rattle.fault_text.proofs.Meanings.{IsTaken}
use Rattle.fault_text.proofs.read.read_faults.Given as goal

-- what is left stands after the lines so far
abbrev pub invariant-loop-rest : goal.invariant-loop-rest
invariant-loop-rest l = IsTaken l.bytes l.rest l.faults l.tally

abbrev pub decreases-loop-rest : goal.decreases-loop-rest
decreases-loop-rest l = length l.rest

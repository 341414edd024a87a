use Rattle.std.proofs.Common.{◌-◌, length}
use Rattle.std.specs.Prelude.{◌==◌}
use Rattle.storage_machine.proofs.UnusedLines.{IsPast}
use Rattle.storage_machine.proofs.used.has_line.Given as goal

abbrev pub invariant-loop-place : goal.invariant-loop-place
invariant-loop-place l = IsPast (λ number. number == l.number) l.lines l.unused l.place

abbrev pub decreases-loop-place : goal.decreases-loop-place
decreases-loop-place l = length l.lines - l.place

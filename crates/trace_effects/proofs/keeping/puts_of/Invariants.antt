use Rattle.std.proofs.Common.{◌≡◌}
use Rattle.trace_effects.specs.Phases.{puts_of}
use Rattle.trace_effects.proofs.keeping.puts_of.Given as goal

abbrev pub invariant-loop-k : goal.invariant-loop-k
invariant-loop-k l = l.marks ≡ puts_of l.plan.blocks l.sector l.fill l.reliable l.k

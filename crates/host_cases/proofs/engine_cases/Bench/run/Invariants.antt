use Rattle.cq_engine.specs.Holds.{Holds, LieIn}
use Rattle.host_cases.proofs.engine_cases.Bench.run.Given as goal

abbrev pub invariant-loop-k : goal.invariant-loop-k
invariant-loop-k g l = Holds l.self.engine l.self.regs × LieIn l.self.mem l.self.engine.held

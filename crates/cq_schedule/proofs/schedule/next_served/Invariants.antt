use Rattle.cq_schedule.proofs.Serving.{AreServed}
use Rattle.cq_schedule.proofs.schedule.next_served.Given as goal

abbrev pub invariant-loop-k : goal.invariant-loop-k
invariant-loop-k l = AreServed l.held l.regs l.k

use Rattle.std.proofs.Common.{sym, subst}
use Rattle.std.specs.Prelude.{None}
use Rattle.cq_schedule.specs.Held.{Places}
use Rattle.cq_engine.specs.Holds.{AreCounted, Holds, LieIn}
use Rattle.cq_engine.specs.Outcome.{Holding}
use Rattle.cq_engine.proofs.Lying.{lie_none}
use Rattle.cq_engine.proofs.Counting.{counted_none}
use Rattle.cq_engine.proofs.Fresh.{holds_fresh}
use Rattle.cq_engine.proofs.engine.Engine.start.Goals as goal

pub returns-clause-lie : goal.returns-clause-lie
returns-clause-lie c memory =
    let P : Places → Type 0 = λ held. LieIn memory held in subst P (sym c.in_ok-held.ensures) (lie_none memory)

pub returns-clause-fresh : goal.returns-clause-fresh
returns-clause-fresh c regs runs empty = holds_fresh c.in_ok-held.held None regs runs empty

pub returns-clause-counts : goal.returns-clause-counts
returns-clause-counts c = let P : Places → Type 0 = λ held. AreCounted held in subst P (sym c.in_ok-held.ensures) counted_none

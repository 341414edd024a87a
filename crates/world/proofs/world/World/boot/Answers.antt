use Rattle.std.proofs.Common.{subst, sym}
use Rattle.end_laws.specs.Ends.{IsFresh}
use Rattle.world.proofs.world.World.boot.Goals as goal

pub returns-clause-boots : goal.returns-clause-boots
returns-clause-boots g c plan faults valid coming fresh =
    c.begin_run.ensures.boots c.self.inside.order plan faults valid coming (subst (λ w. IsFresh plan faults w) (sym c.self.view_is) fresh)

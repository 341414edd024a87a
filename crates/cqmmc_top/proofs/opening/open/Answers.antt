use Rattle.std.proofs.Common.{◌∙◌}
use Rattle.cqmmc_top.proofs.Reading.{has_sectors}
use Rattle.cqmmc_top.proofs.opening.open.Goals as goal

pub returns-in-Ok-clause-sectors : goal.returns-in-Ok-clause-sectors
returns-in-Ok-clause-sectors g c =
    has_sectors c.in-Ok.intent (g.A.Array.state c.args.array.now) (g.A.Array.state c.start.new.array) c.in-Ok.ensures.stands (c.start.ensures.shown ∙ c.loop-opening.invariant.shown)

use Rattle.std.proofs.Common.{ap, ◌∙◌, nat_lt, arith}
use Rattle.epoch_cache.specs.declared.line.Line.{Line}
use Rattle.epoch_cache.proofs.CacheSteps.{older_first}
use Rattle.epoch_cache.proofs.cache.EpochCache.older.Goals as goal

pub returns-then-len-gt0 : goal.returns-then-len-gt0
returns-then-len-gt0 c =
    rw (← c.self.view_is)
    (ap (λ (line : Line). nat_lt line.epoch c.self.inside.last) c.at.ensures ∙ older_first c.self.inside.last c.self.inside.table.lines c.at.result.now c.self.invariant.0.order (omega arith))

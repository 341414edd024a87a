use Rattle.std.proofs.Common.{◌<◌, arith, length}
use Rattle.epoch_cache.proofs.CacheSteps.{cache_less}
use Rattle.epoch_cache.proofs.Marks.{marked_less, marked_shift}
use Rattle.epoch_cache.proofs.cache.EpochCache.drop_oldest_at.Goals as goal

pub invariant_of-self : goal.invariant_of-self
invariant_of-self c =
    let inside = rw (← c.self.view_is) at c.requires in
    let some : 0 < length c.self.inside.table.lines = omega arith in
    rw (c.remove.ensures, c.shift.ensures, c.if-k-eq0.true) (
      cache_less c.self.inside.table.lines c.self.inside.last c.self.inside.table.room 0 c.self.invariant.0,
      marked_shift c.self.inside.table.lines c.self.inside.table.room c.self.inside.recent.places c.self.inside.recent.first c.self.inside.stale some c.self.invariant.1,
      c.self.invariant.2,
    )

pub invariant_of-self-else-k-eq0 : goal.invariant_of-self-else-k-eq0
invariant_of-self-else-k-eq0 c = (
  rw c.remove.ensures (cache_less c.self.inside.table.lines c.self.inside.last c.self.inside.table.room c.args.k c.self.invariant.0),
  rw c.remove.ensures (marked_less c.self.inside.table.lines c.self.inside.table.room c.self.inside.recent.places c.self.inside.recent.first c.args.k c.self.inside.stale c.self.invariant.1),
  rw c.remove.ensures c.self.invariant.2,
)

pub returns-else-k-eq0-clause-is_cache : goal.returns-else-k-eq0-clause-is_cache
returns-else-k-eq0-clause-is_cache c = rw c.remove.ensures (cache_less c.self.inside.table.lines c.self.inside.last c.self.inside.table.room c.args.k c.self.invariant.0)

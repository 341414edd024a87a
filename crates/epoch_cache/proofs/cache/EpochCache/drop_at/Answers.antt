use Rattle.std.proofs.Common.{[], false, refl}
use Rattle.epoch_cache.specs.declared.line.Line.{Line}
use Rattle.epoch_cache.proofs.CacheSteps.{one_out}
use Rattle.epoch_cache.proofs.cache.EpochCache.drop_at.Goals as goal

pub returns-in-Some-clause-dropped : goal.returns-in-Some-clause-dropped
returns-in-Some-clause-dropped c =
    let place = c.in-Some.ensures.some in
    let blank : Line = record { sector = 0; value = record { 0 = [] }; whole = false; epoch = 0 } in
    let out = one_out c.args.self.now.last c.args.sector c.args.self.now.lines c.in-Some.k blank c.in-Some.ensures.is_cache.order place.within (place.passes blank) in
    rw (c.drop_oldest_at.ensures.dropped, out) refl

use Rattle.std.proofs.Common.{ap, arith, refl, ◌∙◌}
use Rattle.epoch_cache.specs.declared.line.Line.{Line}
use Rattle.epoch_cache.specs.Cache.{renewed}
use Rattle.epoch_cache.proofs.CacheSteps.{cache_set, cache_more, lines_with-renewed, lines_with-new}
use Rattle.epoch_cache.proofs.Marks.{marked_set, front}
use Rattle.epoch_cache.proofs.cache.EpochCache.put.Goals as goal

pub invariant_of-self : goal.invariant_of-self
invariant_of-self c =
    let place = rw (← c.self.view_is) at c.in-Some.ensures.some in
    let line = c.renew-line.ensures in
    let read = c.at.ensures in
    let sector = ap (λ (l : Line). l.sector) (line ∙ ap (renewed c.args.put.now) read) in
    rw c.set.ensures (
      cache_set c.self.inside.table.lines c.self.inside.last c.self.inside.table.room c.in-Some.k c.args.put.now.sector c.renew-line.result c.at.result.now c.self.invariant.0 place (ap (λ (l : Line). l.epoch) (line ∙ ap (renewed c.args.put.now) read)) (ap (λ (l : Line). l.sector) (line ∙ ap (renewed c.args.put.now) read)),
      marked_set c.self.inside.table.lines c.self.inside.table.room c.self.inside.recent.places c.self.inside.recent.first c.in-Some.k c.self.inside.stale c.renew-line.result c.at.result.now place.within sector c.self.invariant.1,
      c.self.invariant.2,
    )

pub returns-in-Some-clause-ok : goal.returns-in-Some-clause-ok
returns-in-Some-clause-ok c =
    let place = rw (← c.self.view_is) at c.in-Some.ensures.some in
    let line = c.renew-line.ensures in
    let read = c.at.ensures in
    let renewed = lines_with-renewed c.self.inside.last c.args.put.now c.self.inside.table.lines c.in-Some.k c.at.result.now c.self.invariant.0.order place.within (place.passes c.at.result.now) in
    rw (c.set.ensures, ← c.self.view_is, renewed, ← read, ← line) refl

pub returns-in-Some-clause-is_cache : goal.returns-in-Some-clause-is_cache
returns-in-Some-clause-is_cache c =
    let place = rw (← c.self.view_is) at c.in-Some.ensures.some in
    let line = c.renew-line.ensures in
    let read = c.at.ensures in
    rw c.set.ensures (cache_set c.self.inside.table.lines c.self.inside.last c.self.inside.table.room c.in-Some.k c.args.put.now.sector c.renew-line.result c.at.result.now c.self.invariant.0 place (ap (λ (l : Line). l.epoch) (line ∙ ap (renewed c.args.put.now) read)) (ap (λ (l : Line). l.sector) (line ∙ ap (renewed c.args.put.now) read)))

pub mark_last-requires-clause-before : goal.mark_last-requires-clause-before
mark_last-requires-clause-before c = rw (c.push.ensures, front c.self.inside.table.lines) c.self.invariant.1

pub invariant_of-self-2 : goal.invariant_of-self-2
invariant_of-self-2 c =
    let none = rw (← c.self.view_is) at (c.in_default.ensures.none refl) in
    let fits = c.self.invariant.0.fits in
    (rw c.push.ensures (cache_more c.self.inside.table.lines c.self.inside.last c.self.inside.table.room _ c.self.invariant.0 (omega arith) none refl), c.mark_last.ensures, rw c.push.ensures c.self.invariant.2)

pub returns-clause-ok : goal.returns-clause-ok
returns-clause-ok c =
    let none = rw (← c.self.view_is) at (c.in_default.ensures.none refl) in
    let new = lines_with-new c.self.inside.last c.args.put.now c.self.inside.table.lines none in
    rw (c.push.ensures, ← c.self.view_is, new) refl

pub returns-clause-is_cache : goal.returns-clause-is_cache
returns-clause-is_cache c =
    let none = rw (← c.self.view_is) at (c.in_default.ensures.none refl) in
    let fits = c.self.invariant.0.fits in
    rw c.push.ensures (cache_more c.self.inside.table.lines c.self.inside.last c.self.inside.table.room _ c.self.invariant.0 (omega arith) none refl)

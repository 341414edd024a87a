use Rattle.std.proofs.Common.{Some, ap, sym, ◌∙◌, refl}
use Rattle.epoch_cache.specs.Cache.{is_of}
use Rattle.epoch_cache.proofs.CacheSteps.{none_found, one_found}
use Rattle.epoch_cache.proofs.cache.EpochCache.line_at.Goals as goal

pub returns-in_err-k-clause-line : goal.returns-in_err-k-clause-line
returns-in_err-k-clause-line c = c.from_residual.ensures ∙ sym (none_found (is_of c.args.self.now.last c.args.sector) c.args.self.now.lines (c.in_err-k.ensures.none refl))

pub returns-clause-line : goal.returns-clause-line
returns-clause-line c =
    let place = rw (← c.self.view_is) at c.in_ok-k.ensures.some in
    rw (← c.self.view_is)
    (ap Some c.at.ensures ∙ sym (one_found c.self.inside.last c.args.sector c.self.inside.table.lines c.in_ok-k.k c.at.result.now c.self.invariant.0.order place.within (place.passes c.at.result.now)))

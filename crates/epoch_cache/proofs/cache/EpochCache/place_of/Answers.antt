use Rattle.std.proofs.Common.{ap, ◌∙◌}
use Rattle.epoch_cache.specs.declared.line.Line.{Line}
use Rattle.epoch_cache.proofs.Marks.{none_now, older_now}
use Rattle.epoch_cache.proofs.cache.EpochCache.place_of.Goals as goal

pub returns-in_err-k-clause-none : goal.returns-in_err-k-clause-none
returns-in_err-k-clause-none c =
    let newest = c.last_place.ensures.newest in
    λ _. none_now c.args.self.now.lines c.args.self.now.last c.args.sector (newest.none c.in_err-k.was)

pub returns-else-at-self-clause-none : goal.returns-else-at-self-clause-none
returns-else-at-self-clause-none c =
    let is = rw (← c.self.view_is) at (c.last_place.ensures.newest.some c.in_ok-k.k c.in_ok-k.was) in
    rw (← c.self.view_is)
    (λ _. older_now c.self.inside.table.lines c.self.inside.last c.self.inside.table.room c.args.sector c.in_ok-k.k c.at.result.now c.self.invariant.0 is
    (λ now. c.if-at-self.false (ap (λ (line : Line). line.epoch) c.at.ensures ∙ now)))

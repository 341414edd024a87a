use Rattle.std.proofs.Common.{Some, ap, sym, ◌∙◌, eq-eqb, get_or}
use Rattle.std.specs.Option.{option_copied}
use Rattle.std.proofs.lemmas.Bool.{eqb-true, false_from_ne_true}
use Rattle.std.specs.Prelude.{◌==◌}
use Rattle.epoch_cache.specs.declared.line.Line.{Line}
use Rattle.epoch_cache.proofs.CacheSteps.{newest_of-none, newest_of-some}
use Rattle.epoch_cache.proofs.cache.EpochCache.newest.Goals as goal

pub returns-in_err-k : goal.returns-in_err-k
returns-in_err-k c =
    let newest = c.last_place.ensures.newest in
    let none = newest.none c.in_err-k.was in
    ap option_copied c.from_residual.ensures
    ∙ sym (newest_of-none c.args.sector c.args.self.now.lines
    (λ k d below. false_from_ne_true ((get_or c.args.self.now.lines k d).sector == c.args.sector) (λ it. none k d below (eqb-true _ _ it))))

pub returns : goal.returns
returns c =
    let is = rw (← c.self.view_is) at (c.last_place.ensures.newest.some c.in_ok-k.k c.in_ok-k.was) in
    rw (← c.self.view_is)
    (ap (λ (line : Line). Some line.value) c.at.ensures
    ∙ sym (newest_of-some c.args.sector c.self.inside.table.lines c.in_ok-k.k c.at.result.now is.within (eq-eqb _ _ (is.here c.at.result.now))
    (λ k d after below. false_from_ne_true ((get_or c.self.inside.table.lines k d).sector == c.args.sector) (λ it. is.behind k d after below (eqb-true _ _ it)))))

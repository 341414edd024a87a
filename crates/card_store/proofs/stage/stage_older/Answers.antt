use Rattle.std.proofs.Common.{◌≡◌, ◌==◌, List, drop, filter, refl, sym, ap, ◌∙◌}
use Rattle.epoch_cache.specs.declared.line.Line.{Line}
use Rattle.card_store.proofs.Stagings.{are_staged_more, are_staged_none, filter-now, filter-older, none_older}
use Rattle.card_store.proofs.stage.stage_older.Goals as goal

pub loop-cache-init : goal.loop-cache-init
loop-cache-init g c = record { staged = are_staged_none _ c.requires.fit; left = refl }

pub loop-cache-preserved : goal.loop-cache-preserved
loop-cache-preserved g c =
    let last = c.loop-cache.invariant.staged.staged.last in
    let now : List Line → List Line = filter (λ line. line.epoch == c.args.cache.now.last) in
    let dropped : c.stage_oldest.new.cache.lines ≡ drop 1 c.loop-cache.cache.lines = ap (λ cache. cache.lines) c.in_ok-stage_oldest.ensures.ok in
    let some = sym c.older.ensures ∙ c.loop-cache-test.true in
    record {
      staged = are_staged_more _ _ _ c.loop-cache.invariant.staged c.in_ok-stage_oldest.ensures.staged c.in_ok-stage_oldest.ensures.ends;
      left =
          ap now dropped ∙ filter-older c.args.cache.now.last c.loop-cache.cache.lines c.loop-cache.invariant.staged.staged.fit.is_cache.order (rw last at some)
          ∙ c.loop-cache.invariant.left;
    }

pub returns-clause-ok : goal.returns-clause-ok
returns-clause-ok g c = none_older c.loop-cache.cache.last c.loop-cache.cache.lines c.loop-cache.invariant.staged.staged.fit.is_cache.past (sym c.older.ensures ∙ c.loop-cache-test.false)

pub returns-clause-left : goal.returns-clause-left
returns-clause-left g c =
    let last = c.loop-cache.invariant.staged.staged.last in
    let now = none_older c.loop-cache.cache.last c.loop-cache.cache.lines c.loop-cache.invariant.staged.staged.fit.is_cache.past (sym c.older.ensures ∙ c.loop-cache-test.false) in
    sym (filter-now c.args.cache.now.last c.loop-cache.cache.lines (rw last at now)) ∙ c.loop-cache.invariant.left

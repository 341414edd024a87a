use Rattle.std.proofs.Common.{◌≡◌, ◌≤◌, length, sym, ◌∙◌, arith, rules}
use Rattle.std.proofs.lemmas.Option.{slice_get_within}
use Rattle.storage_model.specs.Keep.{is_named}
use Rattle.epoch_cache.specs.declared.line.Line.{Line}
use Rattle.epoch_cache.proofs.CacheSteps.{all_less}
use Rattle.card_store.proofs.Named.{long_less, more_spared, take_less}
use Rattle.card_store.proofs.Stagings.{are_staged_more, filter-named, filter-spared_front}
use Rattle.card_store.proofs.stage.stage_named.Goals as goal

pub loop-line-preserved-in-Continue-1 : goal.loop-line-preserved-in-Continue-1
loop-line-preserved-in-Continue-1 g c =
    let is = sym c.oldest_at.ensures.line ∙ c.in-Some.is in
    let inside = slice_get_within c.loop-line.cache.lines c.loop-line.k c.in-Some.line is in
    let done = c.in_ok-stage_at.ensures.ok in
    let within = c.loop-line.invariant.3 in (
      are_staged_more _ _ _ c.loop-line.invariant.0 c.in_ok-stage_at.ensures.staged c.in_ok-stage_at.ensures.ends,
      rw done (all_less (λ (line : Line). line.epoch ≡ c.loop-line.cache.last) c.loop-line.cache.lines c.loop-line.k c.loop-line.invariant.1),
      rw (done, take_less c.loop-line.cache.lines c.loop-line.k within) c.loop-line.invariant.2,
      rw done (long_less c.loop-line.cache.lines c.loop-line.k inside),
      rw done (filter-named (is_named c.args.first c.args.blocks) c.loop-line.cache.lines c.loop-line.k c.in-Some.line is (sym c.is_in.ensures ∙ c.if-is_in.true)) ∙ c.loop-line.invariant.4,
    )

pub loop-line-preserved : goal.loop-line-preserved
loop-line-preserved g c =
    let is = sym c.oldest_at.ensures.line ∙ c.in-Some.is in
    let inside = slice_get_within c.loop-line.cache.lines c.loop-line.k c.in-Some.line is in (
      c.loop-line.invariant.0,
      c.loop-line.invariant.1,
      more_spared (is_named c.args.first c.args.blocks) c.loop-line.cache.lines c.loop-line.k c.in-Some.line is (sym c.is_in.ensures ∙ c.if-is_in.false) c.loop-line.invariant.2,
      omega arith,
      c.loop-line.invariant.4,
    )

pub returns-clause-left : goal.returns-clause-left
returns-clause-left g c =
    let past : length c.loop-line.cache.lines ≤ c.loop-line.k = search rules in
    rw c.mark_lines.ensures.same
    (sym (filter-spared_front (is_named c.args.first c.args.blocks) c.loop-line.cache.lines c.loop-line.k past c.loop-line.invariant.2) ∙ c.loop-line.invariant.4)

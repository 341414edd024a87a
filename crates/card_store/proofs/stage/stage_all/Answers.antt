use Rattle.std.proofs.Common.{refl}
use Rattle.card_store.proofs.Stagings.{are_staged_more, are_staged_none, nothing_held, none_held}
use Rattle.card_store.proofs.stage.stage_all.Goals as goal

pub loop-cache-init : goal.loop-cache-init
loop-cache-init g c = record { staged = are_staged_none _ c.requires.fit; bare = λ empty. (empty, refl) }

pub loop-cache-preserved : goal.loop-cache-preserved
loop-cache-preserved g c = record {
  staged = are_staged_more _ _ _ c.loop-cache.invariant.staged c.in_ok-stage_oldest.ensures.staged c.in_ok-stage_oldest.ensures.ends;
  bare =
      λ empty.
      let none = c.loop-cache.invariant.bare empty in
      absurd (nothing_held c.loop-cache.cache.lines none.0 (c.has_lines.ensures.0 c.loop-cache-test.true));
}

pub returns-clause-ok : goal.returns-clause-ok
returns-clause-ok g c =
    none_held c.loop-cache.cache.lines (λ some. let has = c.has_lines.ensures.1 some in let gone = c.loop-cache-test.false in cc)

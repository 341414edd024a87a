use Rattle.std.proofs.Common.{subst, sym}
use Rattle.epoch_cache.specs.Cache.{Cache}
use Rattle.intent_store.specs.Intent.{shown_by}
use Rattle.card_store.specs.Stands.{LinesStand}
use Rattle.card_store.proofs.Placing.{placed, within_put}
use Rattle.card_store.proofs.stage.place.Goals as goal

pub returns-in-Ok-clause-fit : goal.returns-in-Ok-clause-fit
returns-in-Ok-clause-fit g c = record {
  is_cache = c.put.ensures.is_cache;
  within = within_put c.args.cache.now c.put.new.self c.args.put.now c.args.intent.now.sectors c.in-Ok.ensures.ok c.requires.fit.within c.requires.sector;
  stands = c.requires.fit.stands;
}

pub returns-in-Ok-clause-ok : goal.returns-in-Ok-clause-ok
returns-in-Ok-clause-ok g c = λ base pend inside stands. placed c.args.cache.now c.put.new.self c.args.put.now _ base pend c.in-Ok.ensures.ok inside stands

pub returns-clause-fit : goal.returns-clause-fit
returns-clause-fit g c = record {
  is_cache = c.put-2.ensures.is_cache;
  within = within_put c.stage_oldest.new.cache c.put-2.new.self c.args.put.now c.stage_oldest.new.intent.sectors c.in-Ok-put.ensures.ok c.in_ok-stage_oldest.ensures.staged.fit.within (rw c.in_ok-stage_oldest.ensures.staged.sectors c.requires.sector);
  stands = c.in_ok-stage_oldest.ensures.staged.fit.stands;
}

pub returns-clause-ok : goal.returns-clause-ok
returns-clause-ok g c = λ base pend inside stands. placed c.stage_oldest.new.cache c.put-2.new.self c.args.put.now _ base pend c.in-Ok-put.ensures.ok inside (c.in_ok-stage_oldest.ensures.staged.lines base pend (subst (λ (cache : Cache). LinesStand cache (shown_by (g.A.Array.state c.args.array.now)) base pend) (sym c.in_default.ensures.err) stands))

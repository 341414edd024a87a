use Rattle.std.proofs.Common.{refl, inl, inr, subst, ap, Err}
use Rattle.card_core.specs.Card.{sectors}
use Rattle.epoch_cache.specs.Cache.{Cache}
use Rattle.cqmmc_top.specs.Refusal.{Says}
use Rattle.cqmmc_top.specs.declared.refusal.Refusal.TheVariants.{BadImage, ArrayFault, NoPower}
use Rattle.raw_face.proofs.Standing.{open_image}
use Rattle.cqmmc_top.proofs.Beginning.{begun, has_count}
use Rattle.cqmmc_top.proofs.ScriptTold.{script_told}
use Rattle.cqmmc_top.proofs.Playing.{cause_then, booted}
use Rattle.cqmmc_top.proofs.RawFaults.{plays_rose}
use Rattle.cqmmc_top.specs.Raw.{by_opening}
use Rattle.cqmmc_top.proofs.raw.begin.Goals as goal

pub returns-in-Ok : goal.returns-in-Ok
returns-in-Ok g c = λ text before after means. inr (inr (record {
  ops = c.args.script.now.ops;
  means = means;
  begin = _;
  begun = begun c.args.script.now.raw c.boot.new.self _ _ c.requires.off (c.in-Ok.ensures.on (inl refl)) (c.in-Ok.ensures.contents (inl refl)) c.in-Ok.ensures.shown (open_image c.boot.new.self.card.store (g.A.Array.state c.boot.new.array) (c.in-Ok.ensures.stands (inl refl)).is_open) c.in-Ok.ensures.was_image c.in-Ok.ensures.ends.faults c.in-Ok.ensures.ends.cuts;
  middle = c.boot.new.out;
  card = c.in-Ok.ensures.printed;
  end = c.play.new.raw;
  result = c.play.result;
  plays = record { plays = c.play.ensures.plays; faults = plays_rose g.K.Sink.took c.play.ensures.plays };
  kept = c.play.ensures.image;
  told = script_told g.K.Sink.took c.args.script.now.raw c.boot.new.self (g.A.Array.state c.args.array.now) (g.A.Array.state c.boot.new.array) c.args.script.now.ops _ _ _ _ c.requires.off (c.in-Ok.ensures.on (inl refl)) (c.in-Ok.ensures.contents (inl refl))
      (ap (λ (cache : Cache). cache.last) (c.in-Ok.ensures.empty (inl refl))) c.in-Ok.ensures.shown c.play.ensures.plays;
  is = c.status_of.ensures;
  cause = cause_then _ _ _ _ _ _ _ (booted _ _ _ _ c.in-Ok.ensures.ends.faults c.in-Ok.ensures.ends.cuts c.in-Ok.ensures.sink.later) c.play.ensures.cause;
}))

pub returns-in-Err-SinkFailed : goal.returns-in-Err-SinkFailed
returns-in-Err-SinkFailed g c = λ text before after means. inr (inl (record {
  ops = c.args.script.now.ops;
  means = means;
  is = refl;
  sectors = sectors c.boot.new.self.card;
  has = has_count _ _ c.boot.new.self.card.store _ c.in-Err-SinkFailed.ensures.shown (c.in-Err-SinkFailed.ensures.contents (inr (ap Err c.in-Err-SinkFailed.field-0-is)));
  part = rw c.in-Err-SinkFailed.field-0-is at c.in-Err-SinkFailed.ensures.printed;
  rose = c.in-Err-SinkFailed.ensures.sink.failed (ap Err c.in-Err-SinkFailed.field-0-is);
  shown = c.in-Err-SinkFailed.ensures.shown;
  image = c.in-Err-SinkFailed.ensures.was_image (open_image c.boot.new.self.card.store (g.A.Array.state c.boot.new.array) (c.in-Err-SinkFailed.ensures.stands (inr (ap Err c.in-Err-SinkFailed.field-0-is))).is_open);
  kept = open_image c.boot.new.self.card.store (g.A.Array.state c.boot.new.array) (c.in-Err-SinkFailed.ensures.stands (inr (ap Err c.in-Err-SinkFailed.field-0-is))).is_open;
}))

pub returns-in-Err-BadImage : goal.returns-in-Err-BadImage
returns-in-Err-BadImage g c = λ text before after means. inl (record {
  refusal = BadImage;
  cause = by_opening means (c.in-Err-BadImage.ensures.ends.image (ap Err c.in-Err-BadImage.field-0-is));
  says = subst (λ out. Says g.K.Sink.took g.K.Sink.faults BadImage out c.refuse.result c.refuse.new.out) (rw c.in-Err-BadImage.field-0-is at c.in-Err-BadImage.ensures.printed) (record { later = c.refuse.ensures.later; said = c.refuse.ensures.said });
  shown = c.in-Err-BadImage.ensures.shown;
  kept = c.in-Err-BadImage.ensures.image;
  was_image = c.in-Err-BadImage.ensures.was_image;
})

pub returns-in-Err-OpenFault : goal.returns-in-Err-OpenFault
returns-in-Err-OpenFault g c = λ text before after means. inl (record {
  refusal = ArrayFault;
  cause = by_opening means (c.in-Err-OpenFault.ensures.ends.fault (ap Err c.in-Err-OpenFault.field-0-is));
  says = subst (λ out. Says g.K.Sink.took g.K.Sink.faults ArrayFault out c.refuse-in-Err-OpenFault.result c.refuse-in-Err-OpenFault.new.out) (rw c.in-Err-OpenFault.field-0-is at c.in-Err-OpenFault.ensures.printed) (record { later = c.refuse-in-Err-OpenFault.ensures.later; said = c.refuse-in-Err-OpenFault.ensures.said });
  shown = c.in-Err-OpenFault.ensures.shown;
  kept = c.in-Err-OpenFault.ensures.image;
  was_image = c.in-Err-OpenFault.ensures.was_image;
})

pub returns-in-Err-PowerGone : goal.returns-in-Err-PowerGone
returns-in-Err-PowerGone g c = λ text before after means. inl (record {
  refusal = NoPower;
  cause = by_opening means (c.in-Err-PowerGone.ensures.ends.dead (ap Err c.in-Err-PowerGone.field-0-is));
  says = subst (λ out. Says g.K.Sink.took g.K.Sink.faults NoPower out c.refuse-in-Err-PowerGone.result c.refuse-in-Err-PowerGone.new.out) (rw c.in-Err-PowerGone.field-0-is at c.in-Err-PowerGone.ensures.printed) (record { later = c.refuse-in-Err-PowerGone.ensures.later; said = c.refuse-in-Err-PowerGone.ensures.said });
  shown = c.in-Err-PowerGone.ensures.shown;
  kept = c.in-Err-PowerGone.ensures.image;
  was_image = c.in-Err-PowerGone.ensures.was_image;
})

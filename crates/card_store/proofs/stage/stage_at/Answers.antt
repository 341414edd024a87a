use Rattle.std.proofs.Common.{◌≡◌, ◌<◌, refl, remove}
use Rattle.std.proofs.lemmas.Option.{slice_get_within}
use Rattle.epoch_cache.specs.declared.line.Line.{Line}
use Rattle.epoch_cache.proofs.CacheSteps.{all_less}
use Rattle.card_store.proofs.Named.{last_in_front}
use Rattle.card_store.proofs.Steps.{programmed_badly, programmed_well}
use Rattle.card_store.proofs.stage.stage_at.Goals as goal

pub returns-in_err-program-clause-staged : goal.returns-in_err-program-clause-staged
returns-in_err-program-clause-staged g c = record {
  fit = record { is_cache = c.requires.fit.is_cache; within = rw c.in_err-program.ensures.sectors c.requires.fit.within; stands = c.in_err-program.ensures.stands };
  sectors = c.in_err-program.ensures.sectors;
  last = refl;
  room = refl;
  lines = λ base pend stands.
      programmed_badly c.args.cache.now c.args.k c.args.line.now _ _ base pend (last_in_front c.args.cache.now.lines c.args.cache.now.last c.args.k c.args.line.now c.requires.fit.is_cache.order c.requires.line c.requires.now)
      (λ ordinary. c.in_err-program.ensures.torn ordinary) (λ whole. c.in_err-program.ensures.whole whole) stands;
}

pub drop_oldest_at-requires : goal.drop_oldest_at-requires
drop_oldest_at-requires g c = slice_get_within c.args.cache.now.lines c.args.k c.args.line.now c.requires.line

pub returns-clause-staged : goal.returns-clause-staged
returns-clause-staged g c =
    let dropped : c.drop_oldest_at.new.self ≡ record c.args.cache.now { lines = remove c.args.cache.now.lines c.args.k } = c.drop_oldest_at.ensures.dropped in
    let is_cache = rw dropped at c.drop_oldest_at.ensures.is_cache in
    rw dropped (record {
      fit = record {
        is_cache = is_cache;
        within = rw c.in_ok-program.ensures.sectors (all_less (λ (line : Line). line.sector < c.args.intent.now.sectors) c.args.cache.now.lines c.args.k c.requires.fit.within);
        stands = c.in_ok-program.ensures.stands;
      };
      sectors = c.in_ok-program.ensures.sectors;
      last = refl;
      room = refl;
      lines = λ base pend stands.
          programmed_well c.args.cache.now c.args.k c.args.line.now _ _ base pend (last_in_front c.args.cache.now.lines c.args.cache.now.last c.args.k c.args.line.now c.requires.fit.is_cache.order c.requires.line c.requires.now) c.in_ok-program.ensures.ok stands;
    })

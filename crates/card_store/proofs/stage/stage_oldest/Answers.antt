use Rattle.std.proofs.Common.{◌≡◌, ◌<◌, drop, refl, sym, ◌∙◌}
use Rattle.epoch_cache.specs.declared.line.Line.{Line}
use Rattle.epoch_cache.proofs.CacheSteps.{all_less}
use Rattle.card_store.proofs.Steps.{first_in_front, programmed_badly, programmed_well}
use Rattle.card_store.proofs.stage.stage_oldest.Goals as goal

pub returns-in_err-program-clause-staged : goal.returns-in_err-program-clause-staged
returns-in_err-program-clause-staged g c = record {
  fit = record { is_cache = c.requires.fit.is_cache; within = rw c.in_err-program.ensures.sectors c.requires.fit.within; stands = c.in_err-program.ensures.stands };
  sectors = c.in_err-program.ensures.sectors;
  last = refl;
  room = refl;
  lines = λ base pend stands.
      programmed_badly c.args.cache.now 0 c.in-Some.line _ _ base pend (first_in_front c.args.cache.now.lines c.in-Some.line c.requires.fit.is_cache.order (sym c.oldest_line.ensures ∙ c.in-Some.is))
      (λ ordinary. c.in_err-program.ensures.torn ordinary) (λ whole. c.in_err-program.ensures.whole whole) stands;
}

pub returns-clause-staged : goal.returns-clause-staged
returns-clause-staged g c =
    let dropped : c.drop_line.new.self ≡ record c.args.cache.now { lines = drop 1 c.args.cache.now.lines } = c.drop_line.ensures.dropped in
    let is_cache = rw dropped at c.drop_line.ensures.is_cache in
    rw dropped (record {
      fit = record {
        is_cache = is_cache;
        within = rw c.in_ok-program.ensures.sectors (all_less (λ (line : Line). line.sector < c.args.intent.now.sectors) c.args.cache.now.lines 0 c.requires.fit.within);
        stands = c.in_ok-program.ensures.stands;
      };
      sectors = c.in_ok-program.ensures.sectors;
      last = refl;
      room = refl;
      lines = λ base pend stands.
          programmed_well c.args.cache.now 0 c.in-Some.line _ _ base pend (first_in_front c.args.cache.now.lines c.in-Some.line c.requires.fit.is_cache.order (sym c.oldest_line.ensures ∙ c.in-Some.is)) c.in_ok-program.ensures.ok stands;
    })

use Rattle.std.proofs.Common.{inl, refl}
use Rattle.cqmmc_top.specs.Answers.{unready}
use Rattle.cqmmc_top.proofs.command.run.Goals as goal

pub returns-in-Err : goal.returns-in-Err
returns-in-Err g c = inl (record {
  refusal = c.in-Err.refusal;
  cause = unready c.in-Err.ensures.refused refl;
  says = record { later = c.refuse.ensures.later; said = c.refuse.ensures.said };
  shown = refl;
  kept = λ is. is;
  none = refl;
})

use Rattle.std.proofs.Common.{refl, inl}
use Rattle.cqmmc_top.specs.Raw.{by_script}
use Rattle.cqmmc_top.proofs.raw.run_script.Goals as goal

pub returns-in-Err : goal.returns-in-Err
returns-in-Err g c = inl (record {
  refusal = c.in-Err.refusal;
  cause = by_script c.in-Err.ensures.refused refl;
  says = record { later = c.refuse.ensures.later; said = c.refuse.ensures.said };
  shown = refl;
  kept = λ is. is;
  was_image = λ is. is;
})

pub returns-in-Ok : goal.returns-in-Ok
returns-in-Ok g c =
    c.begin.ensures (g.S.Source.left c.args.first.now) (g.S.Source.faults c.args.first.now) (g.S.Source.faults c.take_machine.new.first) c.in-Ok.ensures.ops

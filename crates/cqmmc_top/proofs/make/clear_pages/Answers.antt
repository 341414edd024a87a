use Rattle.std.proofs.Common.{arith}
use Rattle.std.proofs.lemmas.Grind.{common_steps}
use Rattle.cqmmc_top.proofs.Making.{blank_more, fits}
use Rattle.cqmmc_top.proofs.make.clear_pages.Goals as goal

pub loop-page-preserved : goal.loop-page-preserved
loop-page-preserved g c = record {
  blank = blank_more c.args.first c.loop-page.page _ _ _ (omega arith) (fits _ _ c.loop-page.page (g.met.A.Array.told_count c.loop-page.array) (omega (arith, c.loop-page.invariant.count))) c.loop-page.invariant.blank c.in_ok-program_page.ensures.written;
  cleared = λ first. c.in_ok-program_page.ensures.cleared (omega (arith, c.requires.behind)) (c.loop-page.invariant.cleared first);
  count = grind (arith, common_steps);
  powered = grind (arith, common_steps);
  faults = grind (arith, common_steps);
  cuts = grind (arith, common_steps);
}

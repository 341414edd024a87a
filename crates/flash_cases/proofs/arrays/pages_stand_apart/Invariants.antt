use Rattle.std.proofs.Common.{◌≡◌}
use Rattle.flash_cases.proofs.arrays.pages_stand_apart.Given as goal

abbrev pub invariant-loop-page : goal.invariant-loop-page
invariant-loop-page g l = (g.A.Array.state l.array).count ≡ 3

abbrev pub invariant-loop-page-2 : goal.invariant-loop-page-2
invariant-loop-page-2 g l = (g.A.Array.state l.array).count ≡ 3

use Rattle.std.proofs.Common.{◌≡◌, true}
use Rattle.storage_model.specs.Count.{Later}
use Rattle.cqmmc_top.specs.Made.{Blanked, IsCleared}
use Rattle.cqmmc_top.proofs.make.clear_pages.Given as goal

abbrev pub invariant-loop-page : goal.invariant-loop-page
invariant-loop-page g l = record {
  blank : Blanked l.first l.page (g.A.Array.state l.initial.array).told (g.A.Array.state l.array).told;
  cleared : IsCleared (g.A.Array.state l.initial.array).told → IsCleared (g.A.Array.state l.array).told;
  count : (g.A.Array.state l.array).count ≡ (g.A.Array.state l.initial.array).count;
  powered : (g.A.Array.state l.array).powered ≡ true;
  faults : Later (g.A.Array.state l.initial.array).faults (g.A.Array.state l.array).faults;
  cuts : Later (g.A.Array.state l.initial.array).cuts (g.A.Array.state l.array).cuts;
}

use Rattle.std.proofs.Common.{◌≤◌, ◌-◌}
use Rattle.intent_store.specs.Calls.{AreCut}
use Rattle.intent_store.specs.Intent.{ShowsImage}
use Rattle.power_step.specs.Cut.{IsKept, IsLike}
use Rattle.world.proofs.boot.open_first.Given as goal

abbrev pub invariant-loop-cuts : goal.invariant-loop-cuts
invariant-loop-cuts g l = record {
  few : l.cuts ≤ 8;
  cut : AreCut l.cuts (g.A.Array.state l.initial.array) (g.A.Array.state l.array);
  kept : IsKept l.cuts 0 (g.A.Array.state l.initial.array) (g.A.Array.state l.array);
  card : IsLike l.initial.card l.card;
  image : ShowsImage (g.A.Array.state l.initial.array) → ShowsImage (g.A.Array.state l.array);
  was_image : ShowsImage (g.A.Array.state l.array) → ShowsImage (g.A.Array.state l.initial.array);
}

abbrev pub decreases-loop-cuts : goal.decreases-loop-cuts
decreases-loop-cuts g l = 8 - l.cuts

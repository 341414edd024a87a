use Rattle.std.proofs.Common.{◌≡◌, ◌<◌, ◌≤◌, ◌||◌, ℕ, false, get_or}
use Rattle.storage_model.specs.Left.{same_granule}
use Rattle.storage_model.proofs.left.add_cover.Given as goal

abbrev pub invariant-loop-granule : goal.invariant-loop-granule
invariant-loop-granule l = record {
  done : (g : ℕ) → g < l.granule → get_or l.cover g false ≡ (get_or l.initial.cover g false || same_granule g l.value l.left);
  rest : (g : ℕ) → l.granule ≤ g → get_or l.cover g false ≡ get_or l.initial.cover g false;
}

use Rattle.std.proofs.Common.{◌≡◌, ◌*◌}
use Rattle.load_generator.specs.Draws.{number}
use Rattle.load_generator.specs.Load.{jobs}
use Rattle.load_generator.proofs.plan.load_plan.Given as goal

-- three draws were taken for each request so far
abbrev pub invariant-loop-place : goal.invariant-loop-place
invariant-loop-place l = record {
  drawn : l.draws.x ≡ number l.n (3 * l.place);
  made : l.jobs ≡ jobs l.n l.sectors l.place;
}

use Rattle.array_edge.proofs.Reaching.{met_fetch}
use Rattle.std.proofs.Common.{◌∙◌}
use Rattle.array_edge.proofs.Runs.{run_fetch}
use Rattle.array_edge.proofs.run_array.RunArrayArray.fetch.Goals as goal

pub invariant_of-self : goal.invariant_of-self
invariant_of-self g c = (
  run_fetch g.A.Array.state g.S.RunStart.start c.self.inside.script c.fetch.new.self c.args.page c.fetch.new.block c.fetch.result
      c.fetch.ensures.counter c.fetch.ensures.power c.fetch.ensures.met c.fetch.ensures.kept c.self.invariant.0,
  met_fetch g.A.Array.state g.S.RunStart.start c.self.inside.script c.fetch.new.self c.args.page c.fetch.new.block c.fetch.result
      c.fetch.ensures.counter c.fetch.ensures.met c.fetch.ensures.kept c.self.invariant.1,
  c.fetch.ensures.hits ∙ c.self.invariant.2,
)

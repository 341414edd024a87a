use Rattle.std.proofs.Common.{◌∙◌}
use Rattle.array_edge.proofs.Runs.{run_fetch}
use Rattle.rest_array.proofs.On.{on_fetch}
use Rattle.rest_array.proofs.rest.RestArrayArray.fetch.Goals as goal

pub invariant_of-self : goal.invariant_of-self
invariant_of-self g c = record {
  run =
      run_fetch g.A.Array.state g.S.RestStart.start c.self.inside.script c.fetch.new.self c.args.page c.fetch.new.block c.fetch.result
      c.fetch.ensures.counter c.fetch.ensures.power c.fetch.ensures.met c.fetch.ensures.kept c.self.invariant.run;
  on = on_fetch g.A.Array.state c.self.inside.script c.fetch.new.self g.S.RestStart.moment c.self.invariant.on c.args.page c.fetch.new.block c.fetch.result c.fetch.ensures.met c.fetch.ensures.kept;
  same = c.fetch.ensures.hits ∙ c.self.invariant.same;
}

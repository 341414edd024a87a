use Rattle.std.proofs.Common.{◌∙◌}
use Rattle.array_edge.proofs.Runs.{run_program}
use Rattle.rest_array.proofs.On.{on_program}
use Rattle.rest_array.proofs.rest.RestArrayArray.program.Goals as goal

pub invariant_of-self : goal.invariant_of-self
invariant_of-self g c = record {
  run =
      run_program g.A.Array.state g.S.RestStart.start c.self.inside.script c.program.new.self c.args.page c.args.block.now c.program.result
      c.program.ensures.power c.program.ensures.met c.program.ensures.kept c.self.invariant.run;
  on = on_program g.A.Array.state c.self.inside.script c.program.new.self g.S.RestStart.moment c.self.invariant.on c.args.page c.args.block.now c.program.result c.program.ensures.met c.program.ensures.kept;
  same = c.program.ensures.hits ∙ c.self.invariant.same;
}

use Rattle.array_edge.proofs.Reaching.{met_program}
use Rattle.std.proofs.Common.{◌∙◌}
use Rattle.array_edge.proofs.Runs.{run_program}
use Rattle.array_edge.proofs.run_array.RunArrayArray.program.Goals as goal

pub invariant_of-self : goal.invariant_of-self
invariant_of-self g c = (
  run_program g.A.Array.state g.S.RunStart.start c.self.inside.script c.program.new.self c.args.page c.args.block.now c.program.result
      c.program.ensures.power c.program.ensures.met c.program.ensures.kept c.self.invariant.0,
  met_program g.A.Array.state g.S.RunStart.start c.self.inside.script c.program.new.self c.args.page c.args.block.now c.program.result
      c.program.ensures.counter c.program.ensures.power c.program.ensures.met c.program.ensures.kept c.self.invariant.1,
  c.program.ensures.hits ∙ c.self.invariant.2,
)

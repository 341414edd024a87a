use Rattle.std.proofs.Common.{◌∙◌, ap}
use Rattle.array_edge.proofs.Reaching.{met_settle, run_settle}
use Rattle.array_edge.proofs.run_array.RunArrayArray.settle.Goals as goal

pub invariant_of-self : goal.invariant_of-self
invariant_of-self g c = (
  run_settle g.A.Array.state g.S.RunStart.start c.self.inside.script c.settle.new.self c.settle.result c.settle.ensures.passed c.settle.ensures.after c.settle.ensures.kept c.self.invariant.0,
  met_settle g.A.Array.state g.S.RunStart.start c.self.inside.script c.settle.new.self c.settle.result c.settle.ensures.passed c.settle.ensures.after c.settle.ensures.kept c.self.invariant.1,
  ap (λ s. s.hits) c.settle.ensures.after ∙ c.self.invariant.2,
)

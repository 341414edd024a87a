use Rattle.std.proofs.Common.{◌∙◌, ap}
use Rattle.array_edge.proofs.Reaching.{run_settle}
use Rattle.rest_array.proofs.On.{on_settle}
use Rattle.rest_array.proofs.rest.RestArrayArray.settle.Goals as goal

pub invariant_of-self : goal.invariant_of-self
invariant_of-self g c = record {
  run = run_settle g.A.Array.state g.S.RestStart.start c.self.inside.script c.settle.new.self c.settle.result c.settle.ensures.passed c.settle.ensures.after c.settle.ensures.kept c.self.invariant.run;
  on = on_settle g.A.Array.state c.self.inside.script c.settle.new.self g.S.RestStart.moment c.self.invariant.on c.settle.result c.settle.ensures.passed c.settle.ensures.kept;
  same = ap (λ s. s.hits) c.settle.ensures.after ∙ c.self.invariant.same;
}

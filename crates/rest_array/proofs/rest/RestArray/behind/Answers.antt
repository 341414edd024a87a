use Rattle.std.proofs.Common.{subst}
use Rattle.rest_array.specs.Rest.{CountsOn}
use Rattle.rest_array.proofs.On.{on_same}
use Rattle.rest_array.proofs.rest.RestArray.behind.Goals as goal

pub invariant_of-result : goal.invariant_of-result
invariant_of-result g c = record {
  run = c.requires.run;
  on = subst (λ moment. CountsOn moment (g.A.Array.state c.args.script.inner)) c.requires.moment (on_same (g.A.Array.state c.args.script.inner));
  same = c.requires.hits;
}

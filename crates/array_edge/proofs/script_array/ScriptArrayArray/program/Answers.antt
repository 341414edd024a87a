use Rattle.std.proofs.Common.{rules, false}
use Rattle.array_edge.proofs.Ended.{ends_script}
use Rattle.array_edge.proofs.Torn.{torn_script, untouched}
use Rattle.array_edge.specs.Hits.{hit_of, raised}
use Rattle.array_edge.proofs.script_array.ScriptArrayArray.program.Goals as goal

pub returns-then-not-self-clause-torn : goal.returns-then-not-self-clause-torn
returns-then-not-self-clause-torn g c = untouched (g.A.Array.state c.args.self.now.inner).told c.args.page c.args.block.now

pub returns-clause-torn : goal.returns-clause-torn
returns-clause-torn g c = torn_script g.A.Array.state (hit_of c.args.self.now.hits false (raised c.args.self.now.programs)) c.args.self.now c.program_on.new.self c.args.page c.args.block.now c.program_on.result c.program_on.ensures.is

pub returns-clause-ends : goal.returns-clause-ends
returns-clause-ends g c =
    ends_script g.A.Array.state (hit_of c.args.self.now.hits false (raised c.args.self.now.programs)) c.args.self.now c.program_on.new.self c.args.page c.args.block.now c.program_on.result
    (search rules) (search rules) (search rules) (search rules) (search rules) (search rules) c.program_on.ensures.is

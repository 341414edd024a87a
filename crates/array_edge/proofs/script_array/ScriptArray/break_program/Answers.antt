use Rattle.std.proofs.Common.{inr}
use Rattle.array_edge.proofs.Scripted.{broken}
use Rattle.array_edge.proofs.script_array.ScriptArray.break_program.Goals as goal

pub returns-in-Ok-clause-is : goal.returns-in-Ok-clause-is
returns-in-Ok-clause-is g c = inr (broken g.A.Array.state c.args.hit c.args.self.now c.read_page.new.self c.pass_program.new.self c.count_hit.new.self c.args.page c.args.block.now c.read_page.new.seen c.masked-left.result
    c.read_page.result c.pass_program.result _ c.read_page.ensures.fetched c.in_default.is c.read_page.ensures.after c.masked-left.ensures
    c.pass_program.ensures.programmed c.in-Ok.is c.pass_program.ensures.after c.count_hit.ensures.end c.count_hit.ensures.after)

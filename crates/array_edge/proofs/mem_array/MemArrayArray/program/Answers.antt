use Rattle.std.proofs.Common.{Some}
use Rattle.array_edge.proofs.Torn.{untouched}
use Rattle.array_edge.proofs.mem_array.MemArrayArray.program.Goals as goal

pub returns-then-not-self-clause-torn : goal.returns-then-not-self-clause-torn
returns-then-not-self-clause-torn c = untouched (Some c.args.self.now.pages) c.args.page c.args.block.now

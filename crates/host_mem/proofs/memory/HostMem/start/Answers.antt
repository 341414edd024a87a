use Rattle.std.proofs.Common.{arith}
use Rattle.host_mem.proofs.Copies.{zeros_in}
use Rattle.host_mem.proofs.memory.HostMem.start.Goals as goal

pub returns : goal.returns
returns c = zeros_in c.args.base c.args.len c.div_ceil.result c.in_ok-pages.pages c.in_ok-pages.ensures (omega (arith, c.div_ceil.ensures))

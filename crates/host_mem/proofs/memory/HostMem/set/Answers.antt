use Rattle.std.proofs.Common.{arith}
use Rattle.host_mem.proofs.Copies.{set_in}
use Rattle.host_mem.proofs.memory.HostMem.set.Goals as goal

pub returns-clause-ok : goal.returns-clause-ok
returns-clause-ok c =
    set_in c.args.self.now c.self.inside.base c.self.inside.len c.args.at c.in_ok-place.place c.args.value c.self.inside.pages c.set.new.self
    c.self.view_is c.set.ensures (omega (arith, c.in_ok-place.ensures.within)) (c.in_ok-place.ensures.place (omega arith))

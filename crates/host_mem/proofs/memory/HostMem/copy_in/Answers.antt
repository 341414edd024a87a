use Rattle.host_mem.proofs.Copies.{copied_in}
use Rattle.host_mem.proofs.memory.HostMem.copy_in.Goals as goal

pub returns-clause-ok : goal.returns-clause-ok
returns-clause-ok c =
    copied_in c.args.self.now c.self.inside.base c.self.inside.len c.args.at c.in_ok-place.place c.self.inside.pages c.copy_in.new.self c.args.from.now
    c.self.view_is c.copy_in.ensures c.in_ok-place.ensures.within c.in_ok-place.ensures.place

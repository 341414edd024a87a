use Rattle.std.proofs.Common.{◌∙◌, length}
use Rattle.host_mem.proofs.Copies.{copied_out}
use Rattle.host_mem.proofs.memory.HostMem.copy_out.Goals as goal

pub returns-clause-ok : goal.returns-clause-ok
returns-clause-ok c =
    c.copy_out.ensures
    ∙ copied_out c.args.self.now c.self.inside.base c.self.inside.len c.args.at c.in_ok-place.place (length c.args.to.now) c.self.inside.pages
    c.self.view_is c.in_ok-place.ensures.within c.in_ok-place.ensures.place

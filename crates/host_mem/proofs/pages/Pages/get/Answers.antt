use Rattle.std.proofs.Common.{◌/◌, ◌%◌, arith}
use Rattle.host_mem.proofs.PageLaws.{byte_read, page_within}
use Rattle.host_mem.proofs.pages.Pages.get.Goals as goal

pub index-requires : goal.index-requires
index-requires c =
    let within = page_within c.self.inside.pages.items c.args.self.now (c.args.at / 4096) (c.args.at % 4096) c.args.at c.self.invariant c.self.view_is (omega arith) c.requires in
    omega (arith, c.self.inside.pages.ok.0)

pub returns : goal.returns
returns c =
    let within = page_within c.self.inside.pages.items c.args.self.now (c.args.at / 4096) (c.args.at % 4096) c.args.at c.self.invariant c.self.view_is (omega arith) c.requires in
    rw c.deref.ensures
    (byte_read c.self.inside.pages.items c.args.self.now c.index.result.now (c.args.at / 4096) c.args.at (c.args.at % 4096) c.self.invariant c.self.view_is within c.index.ensures (omega arith) (omega arith))

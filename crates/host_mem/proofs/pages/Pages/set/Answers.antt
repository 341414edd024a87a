use Rattle.std.proofs.Common.{◌/◌, ◌%◌, arith, ap}
use Rattle.std.proofs.Math.ListN.{set}
use Rattle.host_mem.proofs.PageLaws.{byte_set, page_within}
use Rattle.host_mem.proofs.pages.Pages.set.Goals as goal

pub index_mut-requires : goal.index_mut-requires
index_mut-requires c =
    let within = page_within c.self.inside.pages.items c.args.self.now (c.args.at / 4096) (c.args.at % 4096) c.args.at c.self.invariant c.self.view_is (omega arith) c.requires in
    omega (arith, c.self.inside.pages.ok.0)

pub returns : goal.returns
returns c =
    let within = page_within c.self.inside.pages.items c.args.self.now (c.args.at / 4096) (c.args.at % 4096) c.args.at c.self.invariant c.self.view_is (omega arith) c.requires in
    byte_set c.self.inside.pages.items c.args.self.now c.index_mut.result.now _ (c.args.at / 4096) c.args.at (c.args.at % 4096) c.args.value c.self.invariant c.self.view_is within c.index_mut.ensures.value (omega arith) (omega arith)
    (ap (λ bytes. set bytes (c.args.at % 4096) c.args.value) c.deref_mut.ensures.value)

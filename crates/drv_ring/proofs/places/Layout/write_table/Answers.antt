use Rattle.std.proofs.Common.{sym, subst, arith, Ok}
use Rattle.cq_desc.specs.declared.xfer.Xfer.{Xfer}
use Rattle.cq_desc.specs.Transfer.{IsXferInRange}
use Rattle.cq_chain.specs.Descriptors.{Reads}
use Rattle.drv_ring.proofs.Changed.{space-more}
use Rattle.drv_ring.proofs.Inside.{layout-same_space}
use Rattle.drv_ring.proofs.Filled.{rows-none, row-inside, rows-linked, rows-more}
use Rattle.drv_ring.proofs.Scattered.{transfer-fits}
use Rattle.drv_ring.proofs.places.Layout.write_table.Goals as goal

pub loop-k-init : goal.loop-k-init
loop-k-init c = rows-none c.args.self.now c.args.tag c.args.blocks c.args.mem.now

pub write_link-requires-clause-layout : goal.write_link-requires-clause-layout
write_link-requires-clause-layout c = layout-same_space c.args.mem.now c.loop-k.mem c.args.self.now c.loop-k.invariant.within.space c.requires.layout

pub write_descriptor-requires-clause-inside : goal.write_descriptor-requires-clause-inside
write_descriptor-requires-clause-inside c =
    let a = c.args in
    let space = space-more a.mem.now c.loop-k.mem c.write_link.new.mem c.loop-k.invariant.within.space c.write_link.ensures.within.space in
    row-inside a.self.now a.tag c.loop-k.k c.row_at.result a.mem.now c.write_link.new.mem c.requires.layout c.requires.tag space
    (omega (arith, c.requires.blocks)) c.row_at.ensures

pub write_descriptor-requires-clause-fits : goal.write_descriptor-requires-clause-fits
write_descriptor-requires-clause-fits c =
    let a = c.args in
    let Fits : Xfer → Type 0 = IsXferInRange a.self.now.wide in
    subst Fits (sym c.transfer_at-xfer.ensures)
    (transfer-fits a.mem.now a.self.now a.tag a.blocks c.loop-k.k c.requires.layout c.requires.tag c.requires.blocks (omega arith))

pub loop-k-preserved : goal.loop-k-preserved
loop-k-preserved c =
    let a = c.args in
    let few = c.requires.blocks in
    let P : Xfer → Type 0 = λ xfer. Reads c.write_descriptor.new.mem a.self.now.wide c.row_at.result (Ok xfer) in
    let linked = rows-linked a.self.now a.tag a.blocks c.loop-k.k a.mem.now c.loop-k.mem c.write_link.new.mem c.requires.layout c.requires.tag
    (omega arith) c.loop-k.invariant c.write_link.ensures.within in
    rows-more a.self.now a.tag a.blocks c.loop-k.k c.row_at.result a.mem.now c.write_link.new.mem c.write_descriptor.new.mem
    c.requires.layout c.requires.tag (omega arith) linked c.write_link.ensures.links c.row_at.ensures
    (subst P c.transfer_at-xfer.ensures c.write_descriptor.ensures.written) c.write_descriptor.ensures.within

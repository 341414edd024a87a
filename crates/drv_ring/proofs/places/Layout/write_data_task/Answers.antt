use Rattle.std.proofs.Common.{ap, ◌∙◌}
use Rattle.cq_desc.specs.Task.{task_read}
use Rattle.drv_ring.proofs.Inside.{layout-same_space}
use Rattle.drv_ring.proofs.Placed.{placed-word, placed-chain, placed-outside}
use Rattle.drv_ring.proofs.places.Layout.write_data_task.Goals as goal

pub returns-clause-word : goal.returns-clause-word
returns-clause-word c =
    let slot = c.write_data_slot in
    let held = layout-same_space c.args.mem.now slot.new.mem c.args.self.now slot.ensures.within.space c.requires.layout in
    ap task_read (placed-word c.args.self.now c.args.tag slot.new.mem c.write_table.new.mem held c.requires.tag c.write_table.ensures.within)
    ∙ slot.ensures.word

pub returns-clause-chain : goal.returns-clause-chain
returns-clause-chain c =
    let slot = c.write_data_slot in
    let held = layout-same_space c.args.mem.now slot.new.mem c.args.self.now slot.ensures.within.space c.requires.layout in
    placed-chain c.args.self.now c.args.tag c.args.desc.now.blocks slot.new.mem c.write_table.new.mem held c.requires.tag
    slot.ensures.link c.write_table.ensures.written c.write_table.ensures.links c.write_table.ensures.within

pub returns-clause-outside : goal.returns-clause-outside
returns-clause-outside c =
    placed-outside c.args.self.now c.args.tag c.args.mem.now c.write_data_slot.new.mem c.write_table.new.mem
    c.write_data_slot.ensures.within c.write_table.ensures.within

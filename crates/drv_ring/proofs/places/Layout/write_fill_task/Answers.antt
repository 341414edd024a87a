use Rattle.drv_ring.proofs.Inside.{layout-same_space}
use Rattle.drv_ring.proofs.Placed.{placed-data, filled-outside}
use Rattle.drv_ring.proofs.places.Layout.write_fill_task.Goals as goal

pub returns-clause-data : goal.returns-clause-data
returns-clause-data c = λ k lt.
    let blocks = c.write_blocks in
    let task = c.write_data_task in
    let held = layout-same_space c.args.mem.now blocks.new.mem c.args.self.now blocks.ensures.within.space c.requires.layout in
    placed-data c.args.self.now c.args.tag c.args.desc.now.blocks k c.args.plan.now.blocks c.args.fill blocks.new.mem task.new.mem held
    c.requires.tag c.requires.blocks lt (blocks.ensures.written k lt) task.ensures.space task.ensures.outside

pub returns-clause-outside : goal.returns-clause-outside
returns-clause-outside c =
    filled-outside c.args.self.now c.args.tag c.args.desc.now.blocks c.args.mem.now c.write_blocks.new.mem c.write_data_task.new.mem
    c.write_blocks.ensures.within c.write_data_task.ensures.outside

use Rattle.std.proofs.Common.{ℕ, ◌∷◌, ap, subst}
use Rattle.cq_desc.specs.declared.task.TaskDesc.{TaskDesc}
use Rattle.piece_data.specs.Laws.{KeepsOthers}
use Rattle.drv_ring.specs.Pieces.{tag_pieces}
use Rattle.drv_ring.specs.Changes.{slot_area, table_area}
use Rattle.storage_model.specs.declared.plan.Job.TheVariants.{Read, Write, Flush, Barrier, Status}
use Rattle.drv_ring.proofs.Inside.{layout-same_space}
use Rattle.drv_ring.proofs.Jobs.{read-asks, write-asks, outside-is, others-by}
use Rattle.drv_ring.proofs.places.Layout.write_job.Goals as goal

pub returns-in-Read-clause-asks : goal.returns-in-Read-clause-asks
returns-in-Read-clause-asks c =
    let a = c.args in
    let job = c.in-Read in
    let task = c.write_data_task in
    read-asks a.self.now a.tag job.sector job.blocks job.high a.int a.job.now _ c.read_desc.result task.new.mem job.is c.read_desc.ensures
    (layout-same_space a.mem.now task.new.mem a.self.now task.ensures.space c.requires.layout) c.requires.tag c.requires.valid
    (record { word = task.ensures.word; chain = task.ensures.chain })

pub returns-in-Read-clause-outside : goal.returns-in-Read-clause-outside
returns-in-Read-clause-outside c =
    let job = c.in-Read in
    outside-is c.args.self.now c.args.tag c.args.job.now (Read job.sector job.blocks job.high) c.args.mem.now c.write_data_task.new.mem
    job.is c.write_data_task.ensures.outside

pub returns-in-Read-clause-others : goal.returns-in-Read-clause-others
returns-in-Read-clause-others c =
    let job = c.in-Read in
    others-by c.args.self.now c.args.tag c.args.job.now (Read job.sector job.blocks job.high) c.args.mem.now c.write_data_task.new.mem
    job.is c.requires.layout c.requires.tag c.write_data_task.ensures.space c.write_data_task.ensures.outside

pub returns-in-Write-clause-asks : goal.returns-in-Write-clause-asks
returns-in-Write-clause-asks c =
    let a = c.args in
    let job = c.in-Write in
    let task = c.write_fill_task in
    write-asks a.self.now a.tag job.sector job.blocks job.fill job.forced job.reliable job.high a.int a.job.now _ c.write_desc-desc.result task.new.mem
    job.is c.write_desc-desc.ensures
    (layout-same_space a.mem.now task.new.mem a.self.now task.ensures.space c.requires.layout) c.requires.tag c.requires.valid
    (record { word = task.ensures.word; chain = task.ensures.chain })

pub returns-in-Write-clause-outside : goal.returns-in-Write-clause-outside
returns-in-Write-clause-outside c =
    let job = c.in-Write in
    let a = c.args in
    let Among : ℕ → Type 0 = λ n. KeepsOthers (slot_area a.self.now a.tag ∷ table_area a.self.now a.tag ∷ tag_pieces a.self.now a.tag n) a.mem.now c.write_fill_task.new.mem in
    let blocks = ap (λ (desc : TaskDesc). desc.blocks) c.write_desc-desc.ensures in
    outside-is a.self.now a.tag a.job.now (Write job.sector job.blocks job.fill job.forced job.reliable job.high)
    a.mem.now c.write_fill_task.new.mem job.is (subst Among blocks c.write_fill_task.ensures.outside)

pub returns-in-Write-clause-others : goal.returns-in-Write-clause-others
returns-in-Write-clause-others c =
    let job = c.in-Write in
    let a = c.args in
    let Among : ℕ → Type 0 = λ n. KeepsOthers (slot_area a.self.now a.tag ∷ table_area a.self.now a.tag ∷ tag_pieces a.self.now a.tag n) a.mem.now c.write_fill_task.new.mem in
    let blocks = ap (λ (desc : TaskDesc). desc.blocks) c.write_desc-desc.ensures in
    others-by a.self.now a.tag a.job.now (Write job.sector job.blocks job.fill job.forced job.reliable job.high)
    a.mem.now c.write_fill_task.new.mem job.is c.requires.layout c.requires.tag c.write_fill_task.ensures.space
    (subst Among blocks c.write_fill_task.ensures.outside)

pub returns-in-Flush-clause-outside : goal.returns-in-Flush-clause-outside
returns-in-Flush-clause-outside c =
    outside-is c.args.self.now c.args.tag c.args.job.now Flush c.args.mem.now c.write_direct_task.new.mem c.in-Flush.is
    c.write_direct_task.ensures.within.others

pub returns-in-Flush-clause-others : goal.returns-in-Flush-clause-others
returns-in-Flush-clause-others c =
    others-by c.args.self.now c.args.tag c.args.job.now Flush c.args.mem.now c.write_direct_task.new.mem c.in-Flush.is c.requires.layout c.requires.tag
    c.write_direct_task.ensures.within.space c.write_direct_task.ensures.within.others

pub returns-in-Barrier-clause-outside : goal.returns-in-Barrier-clause-outside
returns-in-Barrier-clause-outside c =
    outside-is c.args.self.now c.args.tag c.args.job.now Barrier c.args.mem.now c.write_direct_task-in-Barrier.new.mem c.in-Barrier.is
    c.write_direct_task-in-Barrier.ensures.within.others

pub returns-in-Barrier-clause-others : goal.returns-in-Barrier-clause-others
returns-in-Barrier-clause-others c =
    others-by c.args.self.now c.args.tag c.args.job.now Barrier c.args.mem.now c.write_direct_task-in-Barrier.new.mem c.in-Barrier.is c.requires.layout
    c.requires.tag c.write_direct_task-in-Barrier.ensures.within.space c.write_direct_task-in-Barrier.ensures.within.others

pub returns-in-Status-clause-outside : goal.returns-in-Status-clause-outside
returns-in-Status-clause-outside c =
    outside-is c.args.self.now c.args.tag c.args.job.now Status c.args.mem.now c.write_direct_task-in-Status.new.mem c.in-Status.is
    c.write_direct_task-in-Status.ensures.within.others

pub returns-in-Status-clause-others : goal.returns-in-Status-clause-others
returns-in-Status-clause-others c =
    others-by c.args.self.now c.args.tag c.args.job.now Status c.args.mem.now c.write_direct_task-in-Status.new.mem c.in-Status.is c.requires.layout
    c.requires.tag c.write_direct_task-in-Status.ensures.within.space c.write_direct_task-in-Status.ensures.within.others

-- What the task of a job asks for.
use Rattle.std.proofs.Common.{◌≡◌, ◌<◌, ◌≤◌, ℕ, Bool, false, refl, sym, subst}
use Rattle.storage_model.specs.Plan.{blocks_of}
use Rattle.storage_model.specs.declared.plan.Job.{Job}
use Rattle.storage_machine.specs.Jobs.{is_direct, is_high, is_read, phase_blocks, sector_of}
use Rattle.cq_desc.specs.declared.task.TaskDesc.{TaskDesc}
use Rattle.cq_task.specs.declared.slot.DataTask.{DataTask}
use Rattle.cq_task.specs.declared.slot.SlotTask.{SlotTask}
use Rattle.cq_task.specs.declared.slot.SlotTask.TheVariants.{Data}
use Rattle.drv_ring.specs.Asks.{HasBlocks}
use Rattle.drv_ring.specs.Layout.{IsTagOf}
use Rattle.drv_ring.specs.Task.{read_desc, task_of, write_desc}
use Rattle.drv_ring.specs.declared.places.Layout.{Layout}
use Rattle.storage_model.specs.declared.plan.Job.TheVariants.{Read, Write, Flush, Barrier, Status}

-- a data task is that of a read or a write
pub record IsOf (layout : Layout) (tag : ℕ) (job : Job) (desc : TaskDesc) : Type 0 where
  pub direct : is_direct job ≡ false
  pub blocks : desc.blocks ≡ blocks_of job
  pub phase : phase_blocks job ≡ desc.blocks
  pub start : desc.start ≡ sector_of job
  pub read : desc.read ≡ is_read job
  pub high : desc.high ≡ is_high job
  pub some : HasBlocks job → 1 ≤ desc.blocks
  pub below : IsTagOf layout tag job → tag < layout.depth

along : (layout : Layout) (tag : ℕ) (job : Job) (desc desc' : TaskDesc) → desc ≡ desc' → IsOf layout tag job desc → IsOf layout tag job desc'
along layout tag job desc desc' e h = let P : TaskDesc → Type 0 = λ d. IsOf layout tag job d in subst P e h

pub is_of : (layout : Layout) (tag : ℕ) (job : Job) (int : Bool) (task : DataTask) → task_of layout tag job int ≡ Data task → IsOf layout tag job task.desc
is_of layout tag (Read sector blocks high) int task e =
    let same : read_desc sector blocks high int ≡ task.desc = cc e in
    along layout tag (Read sector blocks high) (read_desc sector blocks high int) task.desc same
    (record { direct = refl; blocks = refl; phase = refl; start = refl; read = refl; high = refl; some = λ h. h.0; below = λ h. h })
is_of layout tag (Write sector blocks fill forced reliable high) int task e =
    let same : write_desc sector blocks forced reliable high int ≡ task.desc = cc e in
    along layout tag (Write sector blocks fill forced reliable high) (write_desc sector blocks forced reliable high int) task.desc same
    (record { direct = refl; blocks = refl; phase = refl; start = refl; read = refl; high = refl; some = λ h. h.0; below = λ h. h })
is_of layout tag Flush int task e = absurd (cc e)
is_of layout tag Barrier int task e = absurd (cc e)
is_of layout tag Status int task e = absurd (cc e)

-- that of a direct job is none
pub direct_of : (layout : Layout) (tag : ℕ) (job : Job) (int : Bool) (task : SlotTask) → task_of layout tag job int ≡ task → is_direct job ≡ false
    → (found : DataTask) × (task ≡ Data found)
direct_of layout tag (Read sector blocks high) int task e d = (_, sym e)
direct_of layout tag (Write sector blocks fill forced reliable high) int task e d = (_, sym e)
direct_of layout tag Flush int task e d = absurd (cc d)
direct_of layout tag Barrier int task e d = absurd (cc d)
direct_of layout tag Status int task e d = absurd (cc d)

-- The job of a task in its data phase, and what a block that is read leaves of what the slots ask for.
use Rattle.std.proofs.Common.{◌≡◌, ◌<◌, ℕ, refl, sym, ◌∙◌, ap, subst, inl, inr}
use Rattle.std.specs.Prelude.{Bool, Some}
use Rattle.std.proofs.lemmas.Bool.Decides.{eqb_tells}
use Rattle.std.proofs.lemmas.Option.{same_Some}
use Rattle.host_mem.specs.Memory.{Memory}
use Rattle.storage_model.specs.declared.plan.Fill.{Fill}
use Rattle.storage_model.specs.declared.plan.Job.{Job}
use Rattle.storage_model.specs.declared.plan.Job.TheVariants.{Read, Write, Flush, Barrier, Status}
use Rattle.cq_task.specs.declared.slot.DataTask.{DataTask}
use Rattle.cq_task.specs.declared.slot.SlotTask.{SlotTask}
use Rattle.cq_task.specs.declared.slot.SlotTask.TheVariants.{Direct, Data}
use Rattle.drv_core.specs.State.{asks_notice}
use Rattle.drv_ring.specs.Asks.{HoldsData}
use Rattle.drv_ring.specs.Changes.{ChangesAmong}
use Rattle.drv_ring.specs.Layout.{HasLayout}
use Rattle.drv_ring.specs.Pieces.{tag_pieces}
use Rattle.drv_ring.specs.Task.{read_desc, task_of, write_desc}
use Rattle.drv_ring.specs.declared.places.Layout.{Layout}
use Rattle.drv_ring.proofs.RingLaws.{data-kept, moved-asks, moved-keeps}
use Rattle.world_state.specs.Path.{PathState, holder, job, layout, plan_of}
use Rattle.phase_laws.proofs.Tags.{KeepsAsked}

-- a read's task, or a write's
pub data DataJob (layout : Layout) (slot : ℕ) (j : Job) (int : Bool) (task : DataTask) : Type 0 where
  reads : (sector blocks : ℕ) (high : Bool) → j ≡ Read sector blocks high
      → task ≡ record { desc = read_desc sector blocks high int; pieces = tag_pieces layout slot blocks } → DataJob layout slot j int task
  writes : (sector blocks : ℕ) (fill : Fill) (forced reliable high : Bool) → j ≡ Write sector blocks fill forced reliable high
      → task ≡ record { desc = write_desc sector blocks forced reliable high int; pieces = tag_pieces layout slot blocks } → DataJob layout slot j int task

abbrev data_in : DataTask → SlotTask → DataTask
data_in other (Data task) = task
data_in other (Direct desc) = other

pub data_job : (layout : Layout) (slot : ℕ) (j : Job) (int : Bool) (task : DataTask) → task_of layout slot j int ≡ Data task
    → DataJob layout slot j int task
data_job layout slot (Read sector blocks high) int task e = reads sector blocks high refl (sym (ap (data_in task) e))
data_job layout slot (Write sector blocks fill forced reliable high) int task e =
    writes sector blocks fill forced reliable high refl (sym (ap (data_in task) e))
data_job layout slot Flush int task e = absurd (cc e)
data_job layout slot Barrier int task e = absurd (cc e)
data_job layout slot Status int task e = absurd (cc e)

-- a change within the pieces of a read's slot leaves what every slot asks for, and what the other slots hold
pub read_keeps : (p : PathState) (m : Memory) (slot id : ℕ) (sector blocks : ℕ) (high : Bool) → HasLayout p.memory (layout p) → holder p slot ≡ Some id
    → job p id ≡ Read sector blocks high → slot < (layout p).depth → ChangesAmong (tag_pieces (layout p) slot blocks) p.memory m → (tag : ℕ) → tag < 32
    → KeepsAsked p m tag
read_keeps p m slot id sector blocks high laid is job_read below change tag within other is_other asks held = (
  moved-asks (layout p) slot tag blocks (job p other) (asks_notice (plan_of p) (job p other)) p.memory m laid within change asks,
  elim (eqb_tells tag slot) [
    | inl e ↦
        let same : other ≡ id = same_Some other id (sym is_other ∙ ap (holder p) e.1 ∙ is) in
        let D : Job → Type 0 = λ j. HoldsData m (layout p) tag j (plan_of p).blocks in
        subst D (sym (ap (job p) same ∙ job_read)) tt
    | inr e ↦
        data-kept (layout p) tag (job p other) (plan_of p).blocks p.memory m (moved-keeps (layout p) slot tag blocks p.memory m laid below within e.1 change)
        asks.tag_fits asks.blocks_fit held
  ],
)

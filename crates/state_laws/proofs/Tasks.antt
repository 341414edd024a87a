-- The task that the engine holds of a begun slot is that of its request's job.
use Rattle.std.proofs.Common.{◌≡◌, ℕ, ◌<◌, Bool, true, false, cond, refl, sym, ap, ◌∙◌, arith}
use Rattle.std.specs.Prelude.{Option, Some, None}
use Rattle.std.specs.Option.{IsSomeAnd, option_map_or}
use Rattle.std.proofs.lemmas.List.FromFn.{get_or-map-range_with_len}
use Rattle.storage_model.specs.declared.plan.Job.{Job}
use Rattle.storage_model.specs.declared.plan.Job.TheVariants.{Read, Write, Flush, Barrier, Status}
use Rattle.storage_machine.specs.Jobs.{is_direct, is_high, phase_blocks}
use Rattle.cq_regs.specs.declared.slots.Progress.{Progress}
use Rattle.cq_regs.specs.Slots.{is_begun, progress_of}
use Rattle.cq_regs.specs.State.{Registers}
use Rattle.cq_schedule.specs.Held.{Places, held_at, kept, remembered, same, slots}
use Rattle.cq_schedule.specs.Order.{has_flag, is_high as has_high}
use Rattle.cq_schedule.specs.declared.held.HeldTask.{HeldTask}
use Rattle.cq_schedule.proofs.Progresses.{same-refl}
use Rattle.cq_task.specs.declared.slot.DataTask.{DataTask}
use Rattle.cq_task.specs.declared.slot.SlotTask.TheVariants.{Data}
use Rattle.drv_core.specs.State.{asks_notice}
use Rattle.drv_ring.specs.declared.places.Layout.{Layout}
use Rattle.drv_ring.specs.Pieces.{tag_pieces}
use Rattle.drv_ring.specs.Task.{read_desc, task_of, write_desc}
use Rattle.world_state.specs.Path.{PathState, holder, job, layout, plan_of, runs}
use Rattle.world_state.specs.Ties.{AreTied, HoldsJob}

-- what a job's task has of the job
pub record IsTaskOf (j : Job) (task : DataTask) : Type 0 where
  pub high : task.desc.high ≡ is_high j
  pub barrier : task.desc.barrier ≡ false
  pub blocks : task.desc.blocks ≡ phase_blocks j
  pub moves : is_direct j ≡ false

pub job_task : (l : Layout) (tag : ℕ) (j : Job) (int : Bool) (task : DataTask) → task_of l tag j int ≡ Data task → IsTaskOf j task
job_task l tag (Read sector blocks high) int task e =
    let is : record { desc = read_desc sector blocks high int; pieces = tag_pieces l tag blocks } ≡ task = cc (e) in
    record {
      high = ap (λ (t : DataTask). t.desc.high) (sym is);
      barrier = ap (λ (t : DataTask). t.desc.barrier) (sym is);
      blocks = ap (λ (t : DataTask). t.desc.blocks) (sym is);
      moves = refl;
    }
job_task l tag (Write sector blocks fill forced reliable high) int task e =
    let is : record { desc = write_desc sector blocks forced reliable high int; pieces = tag_pieces l tag blocks } ≡ task = cc (e) in
    record {
      high = ap (λ (t : DataTask). t.desc.high) (sym is);
      barrier = ap (λ (t : DataTask). t.desc.barrier) (sym is);
      blocks = ap (λ (t : DataTask). t.desc.blocks) (sym is);
      moves = refl;
    }
job_task l tag Flush int task e = absurd (cc (e))
job_task l tag Barrier int task e = absurd (cc (e))
job_task l tag Status int task e = absurd (cc (e))

pub the_one : {A : Type 0} (o : Option A) (P : A → Type 0) → IsSomeAnd o P → (x : A) × (o ≡ Some x) × P x
the_one None P h = absurd h
the_one (Some x) P h = (x, refl, h)

-- the task that is held of a begun slot, and its request
pub record IsBegun (p : PathState) (tag : ℕ) : Type 0 where
  pub id : ℕ
  pub issued : holder p tag ≡ Some id
  pub held : HeldTask
  pub is_held : held_at p.engine.held tag ≡ Some held
  pub progress : held.progress ≡ progress_of p.regs.ring tag
  pub task : IsTaskOf (job p id) held.task

pub begun : (p : PathState) (tag : ℕ) → AreTied p → runs p ≡ true → tag < 32 → is_begun (progress_of p.regs.ring tag) ≡ true → IsBegun p tag
begun p tag t runs below begins =
    let request = the_one (holder p tag) (HoldsJob p tag) ((t.running runs tag below).holds begins) in
    let place = the_one (held_at p.engine.held tag) _ request.2.held in
    record {
      id = request.0;
      issued = request.1;
      held = place.0;
      is_held = place.1;
      progress = place.2.0;
      task = job_task (layout p) tag (job p request.0) (asks_notice (plan_of p) (job p request.0)) place.0.task place.2.1;
    }

pub remembered_at : (held : Places) (regs : Registers) (slot : ℕ) → slot < 32 → held_at (remembered held regs) slot ≡ kept (progress_of regs.ring slot) (held_at held slot)
unfolding slots
remembered_at held regs slot below =
    get_or-map-range_with_len (λ slot. kept (progress_of regs.ring slot) (held_at held slot)) 0 32 slot slot None below (omega arith)

still_held : (progress : Progress) (held : HeldTask) → held.progress ≡ progress → kept progress (Some held) ≡ Some held
still_held progress held e = ap (λ b. cond b (Some held) None) (ap (λ q. same q progress) e ∙ same-refl progress)

pub begun_remembered : (p : PathState) (tag : ℕ) (b : IsBegun p tag) → tag < 32 → held_at (remembered p.engine.held p.regs) tag ≡ Some b.held
begun_remembered p tag b below =
    remembered_at p.engine.held p.regs tag below
    ∙ (ap (kept (progress_of p.regs.ring tag)) b.is_held ∙ still_held (progress_of p.regs.ring tag) b.held b.progress)

pub high_remembered : (p : PathState) (tag : ℕ) (b : IsBegun p tag) → tag < 32 → has_high (remembered p.engine.held p.regs) tag ≡ is_high (job p b.id)
high_remembered p tag b below = ap (λ o. option_map_or (λ h. h.task.desc.high) o false) (begun_remembered p tag b below) ∙ b.task.high

pub flag_remembered : (p : PathState) (tag : ℕ) → IsBegun p tag → tag < 32 → has_flag (remembered p.engine.held p.regs) tag ≡ false
flag_remembered p tag b below = ap (λ o. option_map_or (λ h. h.task.desc.barrier) o false) (begun_remembered p tag b below) ∙ b.task.barrier

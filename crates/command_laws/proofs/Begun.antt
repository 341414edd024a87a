-- The task of a slot that is begun: its request, and what the engine holds of it.
use Rattle.std.proofs.Common.{◌≡◌, ◌≢◌, ◌<◌, ◌≤◌, ℕ, true, refl, ◌∙◌}
use Rattle.std.specs.Prelude.{Some}
use Rattle.cq_engine.proofs.Places.{of-some}
use Rattle.cq_regs.specs.Slots.{is_begun, is_rung, progress_of}
use Rattle.cq_regs.specs.declared.slots.Progress.{Progress}
use Rattle.cq_regs.specs.declared.slots.Progress.TheVariants.{Idle, Rung, Named, Sent, Ready, Active}
use Rattle.cq_schedule.specs.Held.{held_at, remembered}
use Rattle.cq_schedule.specs.declared.held.HeldTask.{HeldTask}
use Rattle.cq_task.specs.declared.slot.SlotTask.TheVariants.{Data}
use Rattle.drv_core.specs.State.{asks_notice}
use Rattle.drv_ring.specs.Task.{task_of}
use Rattle.world_state.specs.Path.{PathState, holder, job, layout, plan_of}
use Rattle.world_state.specs.Ties.{AreTied, HoldsJob, TagRuns}
use Rattle.command_laws.proofs.Held.{Found, found}
use Rattle.command_laws.proofs.Jobs.{IsOf, is_of}
use Rattle.command_laws.proofs.Onwards.{IsJobsTask, remembers}
use Rattle.command_laws.proofs.Running.{IsRunning, issued, runs_so}

pub record BegunTask (p : PathState) (tag : ℕ) : Type 0 where
  pub id : ℕ
  pub is : holder p tag ≡ Some id
  pub h : HeldTask
  pub place : held_at p.engine.held tag ≡ Some h
  pub remembered_is : held_at (remembered p.engine.held p.regs) tag ≡ Some h
  pub asks : task_of (layout p) tag (job p id) (asks_notice (plan_of p) (job p id)) ≡ Data h.task
  pub moved : progress_of p.regs.ring tag ≢ Active → h.moved ≡ 0
  pub of : IsOf (layout p) tag (job p id) h.task.desc
  pub below : tag < (plan_of p).depth
  pub some : 1 ≤ h.task.desc.blocks
  pub runs : TagRuns p tag

rung_begun : (progress : Progress) → is_begun progress ≡ true → is_rung progress ≡ true
rung_begun Idle e = e
rung_begun Rung e = refl
rung_begun Named e = refl
rung_begun Sent e = refl
rung_begun Ready e = refl
rung_begun Active e = refl

pub begun_task : (p : PathState) (tag : ℕ) → AreTied p → IsRunning p → tag < 32 → is_begun (progress_of p.regs.ring tag) ≡ true → BegunTask p tag
begun_task p tag t r below begun =
    let i = issued p tag t r.calm below (rung_begun (progress_of p.regs.ring tag) begun) in
    let runs = t.running (runs_so p r) tag below in
    let h : HoldsJob p tag i.id = of-some (holder p tag) i.id (HoldsJob p tag) i.is (runs.holds begun) in
    let f : Found (held_at p.engine.held tag) (IsJobsTask p tag i.id (progress_of p.regs.ring tag)) =
    found (held_at p.engine.held tag) (IsJobsTask p tag i.id (progress_of p.regs.ring tag)) h.held in
    let of = is_of (layout p) tag (job p i.id) (asks_notice (plan_of p) (job p i.id)) f.value.task f.has.1 in
    record {
      id = i.id;
      is = i.is;
      h = f.value;
      place = f.is;
      remembered_is = remembers p tag below runs begun ∙ f.is;
      asks = f.has.1;
      moved = f.has.2;
      of = of;
      below = of.below i.issued.asks.tag_fits;
      some = of.some i.issued.asks.blocks_fit;
      runs = runs;
    }

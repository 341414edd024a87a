-- What was written for a request, by what it was written from.
use Rattle.std.proofs.Common.{◌≡◌, ◌≢◌, ◌<◌, ℕ, ◌∙◌, ap, subst, Bool}
use Rattle.host_mem.specs.Memory.{Memory}
use Rattle.storage_model.specs.declared.plan.Job.{Job}
use Rattle.storage_model.specs.declared.plan.Plan.{Plan}
use Rattle.cq_task.specs.declared.list.TheConstants.{SLOTS}
use Rattle.piece_data.specs.Laws.{HasSameSpace, KeepsOthers}
use Rattle.drv_ring.specs.declared.places.Layout.{Layout}
use Rattle.drv_ring.specs.Asks.{Asks, HoldsData}
use Rattle.drv_ring.specs.Changes.{KeepsTag, areas_of}
use Rattle.drv_jobs.specs.declared.next.Due.{Due}
use Rattle.drv_jobs.specs.Standings.{job_of}
use Rattle.drv_core.specs.State.{asks_notice, layout_of}
use Rattle.drv_core.specs.Event.{IsWritten}

pub written-is : (plan other_plan : Plan) (layout : Layout) (due : Due) (job : Job) (int : Bool) (old new : Memory)
    → layout ≡ layout_of plan → job ≡ job_of plan due.id → other_plan ≡ plan → int ≡ asks_notice other_plan job
    → Asks new layout due.tag job int → HoldsData new layout due.tag job other_plan.blocks
    → ((other : ℕ) → other < SLOTS → other ≢ due.tag → KeepsTag layout other old new)
    → HasSameSpace old new → KeepsOthers (areas_of layout due.tag job) old new → IsWritten plan due old new
written-is plan other_plan layout due job int old new l j p i asks data_held others space outside = record {
  asks = subst (λ l. Asks new l due.tag (job_of plan due.id) (asks_notice plan (job_of plan due.id))) l
      (subst (λ j. Asks new layout due.tag j (asks_notice plan j)) j
      (subst (λ b. Asks new layout due.tag job b) (i ∙ ap (λ q. asks_notice q job) p) asks));
  data_held = subst (λ l. HoldsData new l due.tag (job_of plan due.id) plan.blocks) l
      (subst (λ j. HoldsData new layout due.tag j plan.blocks) j
      (subst (λ (q : Plan). HoldsData new layout due.tag job q.blocks) p data_held));
  others = subst (λ l. (other : ℕ) → other < SLOTS → other ≢ due.tag → KeepsTag l other old new) l others;
  space = space;
  outside = subst (λ l. KeepsOthers (areas_of l due.tag (job_of plan due.id)) old new) l
      (subst (λ j. KeepsOthers (areas_of layout due.tag j) old new) j outside);
}

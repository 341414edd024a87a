-- The tasks that are ready, and those of high priority among them, in order of ringing.
use Rattle.std.proofs.Common.{◌≡◌, ℕ, ◌<◌, Bool, true, false, List, refl, sym, ap, ◌∙◌}
use Rattle.std.specs.Prelude.{Option, None, is_some, ◌&&◌}
use Rattle.std.specs.List.{find}
use Rattle.std.specs.Option.{option_map_or}
use Rattle.std.proofs.lemmas.Bool.{true≢false}
use Rattle.storage_model.specs.declared.plan.Plan.{Plan}
use Rattle.storage_machine.specs.Jobs.{is_high, job_of}
use Rattle.storage_machine.specs.Slots.{asks, first, has, id_of, slot_at}
use Rattle.storage_machine.specs.declared.slots.Question.TheVariants as question
use Rattle.storage_machine.specs.declared.state.Task.{Task}
use Rattle.cq_regs.specs.declared.slots.Progress.{Progress}
use Rattle.cq_regs.specs.declared.slots.Progress.TheVariants.{Idle, Rung, Named, Sent, Ready, Active}
use Rattle.cq_regs.specs.Slots.{is_begun, progress_of}
use Rattle.cq_schedule.specs.Held.{remembered, same}
use Rattle.cq_schedule.specs.Order.{first_at, first_high, is_high as holds_high, order_of}
use Rattle.cq_schedule.proofs.Progresses.{same-true}
use Rattle.drv_core.specs.State.{is_recovering}
use Rattle.world_state.specs.Path.{PathState, job, plan_of, runs}
use Rattle.world_state.specs.Reading.{tasks_of}
use Rattle.world_state.specs.Ties.{AreTied, has_high, is_executable}
use Rattle.state_laws.proofs.Ringing.{IsRungSlot, first_is_any, order_slots}
use Rattle.state_laws.proofs.Searches.{find_alike, none_found}
use Rattle.state_laws.proofs.Tags.{IsTask, asks_named, asks_ready, asks_rung, asks_sent, has_is, rung_task}
use Rattle.state_laws.proofs.Tasks.{begun, high_remembered}

pub named_first : (p : PathState) → AreTied p → is_recovering p.driver.recovery ≡ false
    → first question.Named (tasks_of p) (order_of p.regs.ring) ≡ first_at Named p.regs.ring
named_first p t calm =
    find_alike (λ tag. asks question.Named (slot_at (tasks_of p) tag)) (λ tag. same (progress_of p.regs.ring tag) Named) (order_of p.regs.ring)
    (λ k d low. asks_named p _ t calm (order_slots p.regs.ring t.regs.ring k d low).below)

pub rung_first : (p : PathState) → AreTied p → is_recovering p.driver.recovery ≡ false
    → first question.Rung (tasks_of p) (order_of p.regs.ring) ≡ first_at Rung p.regs.ring
rung_first p t calm =
    find_alike (λ tag. asks question.Rung (slot_at (tasks_of p) tag)) (λ tag. same (progress_of p.regs.ring tag) Rung) (order_of p.regs.ring)
    (λ k d low. asks_rung p _ t calm (order_slots p.regs.ring t.regs.ring k d low).below)

pub ready_first : (p : PathState) → AreTied p → is_recovering p.driver.recovery ≡ false
    → first question.Ready (tasks_of p) (order_of p.regs.ring) ≡ find (λ tag. is_executable (progress_of p.regs.ring tag)) (order_of p.regs.ring)
ready_first p t calm =
    find_alike (λ tag. asks question.Ready (slot_at (tasks_of p) tag)) (λ tag. is_executable (progress_of p.regs.ring tag)) (order_of p.regs.ring)
    (λ k d low. asks_ready p _ t calm (order_slots p.regs.ring t.regs.ring k d low).below)

pub sent_any : (p : PathState) → AreTied p → is_recovering p.driver.recovery ≡ false → has question.Sent (tasks_of p) ≡ is_some (first_at Sent p.regs.ring)
sent_any p t calm =
    has_is p question.Sent (λ tag. same (progress_of p.regs.ring tag) Sent) (λ tag below. asks_sent p tag t calm below)
    ∙ first_is_any p.regs.ring Sent t.regs.ring refl

-- the job of a rung slot's task
pub job_at : (p : PathState) (tag : ℕ) (task : IsTask p tag) → job_of (plan_of p).jobs (id_of (slot_at (tasks_of p) tag)) ≡ job p task.id
job_at p tag task = ap (λ s. job_of (plan_of p).jobs (id_of s)) task.task

abbrev pub high_by : List (Option Task) → Plan → List ℕ → Option ℕ
high_by slots plan order = find (λ tag. asks question.Ready (slot_at slots tag) && is_high (job_of plan.jobs (id_of (slot_at slots tag)))) order

high_at : (p : PathState) (tag : ℕ) → AreTied p → is_recovering p.driver.recovery ≡ false → IsRungSlot p.regs.ring tag
    → (asks question.Ready (slot_at (tasks_of p) tag) && is_high (job_of (plan_of p).jobs (id_of (slot_at (tasks_of p) tag))))
    ≡ (is_executable (progress_of p.regs.ring tag) && has_high p tag)
high_at p tag t calm r =
    let task = rung_task p tag t calm r.below r.rings in
    let high : has_high p tag ≡ is_high (job p task.id) = ap (λ h. option_map_or (λ id. is_high (job p id)) h false) task.issued in
    ap (λ b. b && is_high (job_of (plan_of p).jobs (id_of (slot_at (tasks_of p) tag)))) (asks_ready p tag t calm r.below)
    ∙ ap (λ b. is_executable (progress_of p.regs.ring tag) && b) (ap is_high (job_at p tag task) ∙ sym high)

pub high_ahead : (p : PathState) → AreTied p → is_recovering p.driver.recovery ≡ false
    → high_by (tasks_of p) (plan_of p) (order_of p.regs.ring)
    ≡ find (λ tag. is_executable (progress_of p.regs.ring tag) && has_high p tag) (order_of p.regs.ring)
high_ahead p t calm =
    find_alike (λ tag. asks question.Ready (slot_at (tasks_of p) tag) && is_high (job_of (plan_of p).jobs (id_of (slot_at (tasks_of p) tag))))
    (λ tag. is_executable (progress_of p.regs.ring tag) && has_high p tag) (order_of p.regs.ring)
    (λ k d low. high_at p _ t calm (order_slots p.regs.ring t.regs.ring k d low))

-- where no phase is under way
only_ready : (q : Progress) → same q Active ≡ false → is_executable q ≡ same q Ready
only_ready Idle e = refl
only_ready Rung e = refl
only_ready Named e = refl
only_ready Sent e = refl
only_ready Ready e = refl
only_ready Active e = absurd (true≢false e)

pub ready_alone : (p : PathState) → first_at Active p.regs.ring ≡ None
    → find (λ tag. is_executable (progress_of p.regs.ring tag)) (order_of p.regs.ring) ≡ first_at Ready p.regs.ring
ready_alone p none =
    find_alike (λ tag. is_executable (progress_of p.regs.ring tag)) (λ tag. same (progress_of p.regs.ring tag) Ready) (order_of p.regs.ring)
    (λ k d low. only_ready (progress_of p.regs.ring _) (none_found (λ tag. same (progress_of p.regs.ring tag) Active) (order_of p.regs.ring) none k d low))

both_alike : (b c x y : Bool) → b ≡ c → (c ≡ true → x ≡ y) → (b && x) ≡ (c && y)
both_alike b true x y e h = ap (λ b. b && x) e ∙ h refl
both_alike b false x y e h = ap (λ b. b && x) e

high_held : (p : PathState) (tag : ℕ) → AreTied p → runs p ≡ true → tag < 32 → same (progress_of p.regs.ring tag) Ready ≡ true
    → has_high p tag ≡ holds_high (remembered p.engine.held p.regs) tag
high_held p tag t goes below e =
    let b = begun p tag t goes below (ap is_begun (same-true (progress_of p.regs.ring tag) Ready e)) in
    ap (λ h. option_map_or (λ id. is_high (job p id)) h false) b.issued ∙ sym (high_remembered p tag b below)

pub high_alone : (p : PathState) → AreTied p → runs p ≡ true → first_at Active p.regs.ring ≡ None
    → find (λ tag. is_executable (progress_of p.regs.ring tag) && has_high p tag) (order_of p.regs.ring)
    ≡ first_high (remembered p.engine.held p.regs) p.regs.ring
high_alone p t goes none =
    find_alike (λ tag. is_executable (progress_of p.regs.ring tag) && has_high p tag)
    (λ tag. same (progress_of p.regs.ring tag) Ready && holds_high (remembered p.engine.held p.regs) tag) (order_of p.regs.ring)
    (λ k d low. both_alike (is_executable (progress_of p.regs.ring _)) (same (progress_of p.regs.ring _) Ready) (has_high p _)
    (holds_high (remembered p.engine.held p.regs) _)
    (only_ready (progress_of p.regs.ring _) (none_found (λ tag. same (progress_of p.regs.ring tag) Active) (order_of p.regs.ring) none k d low))
    (λ e. high_held p _ t goes (order_slots p.regs.ring t.regs.ring k d low).below e))

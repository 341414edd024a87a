-- The state after the end of a data phase that finishes.
use Rattle.std.proofs.Common.{◌≡◌, ◌≢◌, ◌⊎◌, ◌<◌, ◌≤◌, ◌+◌, ◌==◌, ◌&&◌, ◌||◌, ◌^◌, ℕ, refl, sym, ◌∙◌, ap, subst, arith, inl, inr}
use Rattle.std.specs.Prelude.{Bool, true, false, not, cond, Option, Some, None, List, [], ◌∷◌, nat_le, is_some, MatchOption}
use Rattle.std.specs.List.{filter}
use Rattle.std.proofs.lemmas.Bool.{false≢true}
use Rattle.cq_engine.specs.Outcome.{Holding}
use Rattle.card_core.specs.Card.{CardState}
use Rattle.bus_link.specs.Script.{Script}
use Rattle.cq_engine.proofs.SlotLaws.{without-other}
use Rattle.cq_regs.specs.Slots.{has_bit, is_rung, progress_of, without}
use Rattle.cq_regs.specs.State.{Registers}
use Rattle.cq_regs.specs.declared.slots.Progress.TheVariants.{Active}
use Rattle.cq_schedule.specs.Order.{first_at, order_of}
use Rattle.cut_order.specs.Order.{OrderState}
use Rattle.drv_core.specs.State.{asks_notice, is_recovering}
use Rattle.drv_recover.specs.declared.recovery.RecoveryState.TheVariants as driver
use Rattle.storage_machine.specs.Jobs.{is_direct, is_read}
use Rattle.storage_machine.specs.Slots.{changed_slots}
use Rattle.storage_machine.specs.declared.slots.Change.TheVariants.{Move}
use Rattle.storage_machine.specs.declared.state.Owed.TheVariants.{Nothing}
use Rattle.storage_machine.specs.declared.state.Event.TheVariants.{Untold}
use Rattle.storage_machine.specs.declared.state.Standing.{Standing}
use Rattle.storage_machine.specs.declared.state.Standing.TheVariants as standing
use Rattle.storage_machine.specs.declared.state.State.{State}
use Rattle.storage_machine.specs.declared.state.Stop.{Stop}
use Rattle.storage_machine.specs.declared.state.Stop.TheVariants as stop
use Rattle.storage_machine.specs.declared.state.Task.{Task}
use Rattle.storage_model.specs.declared.block.Block.{Block}
use Rattle.storage_model.specs.declared.faults.Hit.{Hit}
use Rattle.storage_model.specs.declared.plan.Job.{Job}
use Rattle.trace_effects.specs.Phases.{after_done, bars_with, data_with, is_full, read_sectors, tells}
use Rattle.world_state.specs.Path.{PathState, holder, is_busy, job, layout, moved, plan_of, under_way}
use Rattle.world_state.specs.Reading.{Context, blocks_held, data_by, data_of, is_done, notice_of, order, spent_of, standing_at, standing_of, state_of, stop_by, stop_of, tasks_of, is_free}
use Rattle.world_state.specs.Ties.{AreTied}
use Rattle.phase_laws.proofs.Events.{InPhase}
use Rattle.phase_laws.proofs.Finished.{done_owing}
use Rattle.phase_laws.proofs.Jobs.{DataJob, reads, writes}
use Rattle.phase_laws.proofs.Orders.{order_without}
use Rattle.phase_laws.proofs.Parts.{KeepsScript, path_with}
use Rattle.phase_laws.proofs.Phased.{with_blocks}
use Rattle.phase_laws.proofs.SetUps.{Completes, done_other, done_same, is_full as is_full_count}
use Rattle.phase_laws.proofs.Slotted.{slots_moved}
use Rattle.phase_laws.proofs.Stopping.{context_after}

-- the registers once the slot's task is complete
pub record Completed (p : PathState) (slot : ℕ) (i : InPhase p slot) (r : Registers) : Type 0 where
  pub completes : Completes (plan_of p).coalesce slot i.h.task.desc.int p.regs r
  pub none : first_at Active r.ring ≡ None
  pub int : i.h.task.desc.int ≡ asks_notice (plan_of p) (job p i.id)

-- ---- the slots

pub runs_still : (p : PathState) (slot : ℕ) (i : InPhase p slot) (r : Registers) → Completed p slot i r → r.stopped ≡ false
runs_still p slot i r d = d.completes.stopped ∙ i.going

pub none_way : (p : PathState) (slot : ℕ) (i : InPhase p slot) (r : Registers) (g : Holding) (c : CardState) (s : Script) → Completed p slot i r
    → under_way (path_with p r p.memory g c s) ≡ None
none_way p slot i r g c s d = ap (λ b. cond b None (first_at Active r.ring)) (runs_still p slot i r d) ∙ d.none

done_standing : (p : PathState) (slot : ℕ) (i : InPhase p slot) (r : Registers) (g : Holding) (c : CardState) (s : Script) → Completed p slot i r
    → standing_at (path_with p r p.memory g c s) slot ≡ standing.Done
done_standing p slot i r g c s d =
    let q : PathState = path_with p r p.memory g c s in
    ap (λ state. cond (is_recovering state) standing.Held (cond (is_done q slot) standing.Done (standing_of (progress_of r.ring slot)))) i.calm
    ∙ ap (λ b. cond b standing.Done (standing_of (progress_of r.ring slot))) (ap (λ n. has_bit n slot) d.completes.completed ∙ done_same p.regs.completed slot)

pub done_apart : (p : PathState) (slot : ℕ) (i : InPhase p slot) (r : Registers) → Completed p slot i r → (tag : ℕ) → tag ≢ slot
    → has_bit r.completed tag ≡ has_bit p.regs.completed tag
done_apart p slot i r d tag apart = ap (λ n. has_bit n tag) d.completes.completed ∙ done_other p.regs.completed slot tag apart

other_standing : (p : PathState) (slot : ℕ) (i : InPhase p slot) (r : Registers) (g : Holding) (c : CardState) (s : Script) → Completed p slot i r
    → (tag : ℕ) → tag ≢ slot → standing_at (path_with p r p.memory g c s) tag ≡ standing_at p tag
other_standing p slot i r g c s d tag apart =
    ap (λ b. cond (is_recovering p.driver.recovery) standing.Held (cond b standing.Done (standing_of (progress_of r.ring tag)))) (done_apart p slot i r d tag apart)
    ∙ ap (λ x. cond (is_recovering p.driver.recovery) standing.Held (cond (is_done p tag) standing.Done (standing_of x)))
    (ap (λ x. progress_of x tag) d.completes.ring ∙ without-other p.regs.ring slot tag apart)

pub tasks_done : (p : PathState) (slot : ℕ) (i : InPhase p slot) (r : Registers) (g : Holding) (c : CardState) (s : Script) → AreTied p → Completed p slot i r
    → tasks_of (path_with p r p.memory g c s) ≡ changed_slots (Move i.id standing.Done) (tasks_of p)
tasks_done p slot i r g c s t d =
    slots_moved p (path_with p r p.memory g c s) slot i.id standing.Done t refl i.is_held (done_standing p slot i r g c s d) (other_standing p slot i r g c s d)

pub order_done : (p : PathState) (slot : ℕ) (i : InPhase p slot) (r : Registers) (g : Holding) (c : CardState) (s : Script) → AreTied p → Completed p slot i r
    → order (path_with p r p.memory g c s) ≡ filter (λ other. not (other == slot)) (order p)
order_done p slot i r g c s t d =
    ap (λ state. cond (is_recovering state) [] (order_of r.ring)) i.calm
    ∙ ap order_of d.completes.ring ∙ order_without p.regs.ring slot t.regs.ring
    ∙ sym (ap (λ state. filter (λ other. not (other == slot)) (cond (is_recovering state) [] (order_of p.regs.ring))) i.calm)

-- ---- the notice and the count

data_indirect : (p : PathState) (slot : ℕ) (j : Job) (int : Bool) (i : InPhase p slot) → DataJob (layout p) slot j int i.h.task → is_direct j ≡ false
data_indirect p slot j int i (reads sector blocks high is e) = ap is_direct is
data_indirect p slot j int i (writes sector blocks fill forced reliable high is e) = ap is_direct is

notice_if : (i : ℕ) (b : Bool) → has_bit (cond b 2 i) 1 ≡ (has_bit i 1 || b)
notice_if i b = by_both (has_bit i 1) refl b
  where
    by_both : (x : Bool) → has_bit i 1 ≡ x → (b : Bool) → has_bit (cond b 2 i) 1 ≡ (has_bit i 1 || b)
    by_both true e true = sym (ap (λ x. x || true) e)
    by_both true e false = e ∙ sym (ap (λ x. x || false) e)
    by_both false e true = sym (ap (λ x. x || true) e)
    by_both false e false = e ∙ sym (ap (λ x. x || false) e)

both_ways : (a b : Bool) → b ≡ false → (a || b) ≡ (b || a)
both_ways true b e = sym (ap (λ x. x || true) e)
both_ways false b e = e ∙ sym (ap (λ x. x || false) e)

tells_of : (p : PathState) (slot : ℕ) (i : InPhase p slot) (r : Registers) → DataJob (layout p) slot (job p i.id) (asks_notice (plan_of p) (job p i.id)) i.h.task
    → Completed p slot i r → i.h.task.desc.int ≡ (is_direct (job p i.id) || ((plan_of p).coalesce == 0))
tells_of p slot i r j d =
    d.int ∙ both_ways ((plan_of p).coalesce == 0) (is_direct (job p i.id)) (data_indirect p slot (job p i.id) (asks_notice (plan_of p) (job p i.id)) i j)

pub notice_done : (p : PathState) (slot : ℕ) (i : InPhase p slot) (r : Registers) (g : Holding) (c : CardState) (s : Script)
    → DataJob (layout p) slot (job p i.id) (asks_notice (plan_of p) (job p i.id)) i.h.task → Completed p slot i r
    → notice_of (path_with p r p.memory g c s)
    ≡ (notice_of p || ((is_direct (job p i.id) || ((plan_of p).coalesce == 0)) || nat_le (plan_of p).coalesce (p.regs.coalescing.counter + 1)))
notice_done p slot i r g c s j d =
    let full = nat_le (plan_of p).coalesce (p.regs.coalescing.counter + 1) in
    let at = is_direct (job p i.id) || ((plan_of p).coalesce == 0) in
    ap (λ state. cond (is_free state) false (has_bit r.interrupts 1)) i.calm
    ∙ ap (λ n. has_bit n 1) d.completes.interrupts
    ∙ notice_if p.regs.interrupts (i.h.task.desc.int || full)
    ∙ ap (λ b. has_bit p.regs.interrupts 1 || (b || full)) (tells_of p slot i r j d)
    ∙ sym (ap (λ state. cond (is_free state) false (has_bit p.regs.interrupts 1) || (at || full)) i.calm)

pub count_done : (p : PathState) (slot : ℕ) (i : InPhase p slot) (r : Registers)
    → DataJob (layout p) slot (job p i.id) (asks_notice (plan_of p) (job p i.id)) i.h.task → Completed p slot i r
    → r.coalescing.counter
    ≡ cond (is_direct (job p i.id) || ((plan_of p).coalesce == 0)) p.regs.coalescing.counter
    (cond (nat_le (plan_of p).coalesce (p.regs.coalescing.counter + 1)) 0 (p.regs.coalescing.counter + 1))
count_done p slot i r j d =
    d.completes.counter
    ∙ ap (λ b. cond b p.regs.coalescing.counter (cond (nat_le (plan_of p).coalesce (p.regs.coalescing.counter + 1)) 0 (p.regs.coalescing.counter + 1)))
    (tells_of p slot i r j d)

-- ---- all of it

pub state_done : (p : PathState) (slot : ℕ) (i : InPhase p slot) (r : Registers) (g : Holding) (c : CardState) (s : Script) (o : OrderState) (k : Context)
    (count : ℕ) (kept : Bool) (n : ℕ) → AreTied p → DataJob (layout p) slot (job p i.id) (asks_notice (plan_of p) (job p i.id)) i.h.task → Completed p slot i r
    → KeepsScript p.script s → c.store.cache.last ≡ bars_with (state_of p o k).bars (job p i.id)
    → data_of (path_with p r p.memory g c s) ≡ data_with (state_of p o k) slot (job p i.id) (read_sectors (state_of p o k) (job p i.id))
    → state_of (path_with p r p.memory g c s) o (context_after (state_of p o k) k (job p i.id) count kept n k.named)
    ≡ done_owing (state_of p o k) (job p i.id) slot i.id count kept n Nothing
unfolding state_of after_done
state_done p slot i r g c s o k count kept n t j d lines bars blocks =
    let q : PathState = path_with p r p.memory g c s in
    let b : State = state_of p o k in
    let F : List Hit → List ℕ → ℕ → List (Option Task) → List ℕ → List (List Block) → ℕ → Bool → Bool → ℕ → Stop → State =
    λ hits ready used tasks ringing shown last busy notice counted halt. record (with_blocks b (job p i.id) count kept) {
      faults = record b.faults { ready = ready; bus = hits };
      words = used;
      slots = tasks;
      order = ringing;
      «data» = shown;
      bars = last;
      busy = busy;
      notice = notice;
      count = counted;
      stop = halt;
      n = n;
      spent = cond busy (moved q + 1) 0;
      owed = Nothing;
      event = Untold;
    } in
    let way : is_busy q ≡ false = ap is_some (none_way p slot i r g c s d) in
    let halt : stop_of q ≡ stop_of p =
    ap (λ state. cond (is_recovering state) stop.Running (cond r.stopped (stop_by q g.cause) stop.Running)) i.calm
    ∙ ap (λ v. cond v (stop_by q g.cause) stop.Running) (runs_still p slot i r d)
    ∙ sym (ap (λ v. cond v (stop_by p p.engine.cause) stop.Running) i.going)
    ∙ sym (ap (λ state. cond (is_recovering state) stop.Running (cond p.regs.stopped (stop_by p p.engine.cause) stop.Running)) i.calm) in
    let tasks = tasks_of q in
    let ringing = order q in
    let shown = data_of q in
    let last = c.store.cache.last in
    let new_tasks = changed_slots (Move i.id standing.Done) (tasks_of p) in
    let new_ringing = filter (λ other. not (other == slot)) (order p) in
    let new_shown = data_with b slot (job p i.id) (read_sectors b (job p i.id)) in
    let new_last = bars_with b.bars (job p i.id) in
    let counter = r.coalescing.counter in
    ap (λ v. F v s.ready s.used tasks ringing shown last (is_busy q) (notice_of q) counter (stop_of q)) lines.hits
    ∙ ap (λ v. F p.script.hits v s.used tasks ringing shown last (is_busy q) (notice_of q) counter (stop_of q)) lines.ready
    ∙ ap (λ v. F p.script.hits p.script.ready v tasks ringing shown last (is_busy q) (notice_of q) counter (stop_of q)) lines.used
    ∙ ap (λ v. F p.script.hits p.script.ready p.script.used v ringing shown last (is_busy q) (notice_of q) counter (stop_of q)) (tasks_done p slot i r g c s t d)
    ∙ ap (λ v. F p.script.hits p.script.ready p.script.used new_tasks v shown last (is_busy q) (notice_of q) counter (stop_of q)) (order_done p slot i r g c s t d)
    ∙ ap (λ v. F p.script.hits p.script.ready p.script.used new_tasks new_ringing v last (is_busy q) (notice_of q) counter (stop_of q)) blocks
    ∙ ap (λ v. F p.script.hits p.script.ready p.script.used new_tasks new_ringing new_shown v (is_busy q) (notice_of q) counter (stop_of q)) bars
    ∙ ap (λ v. F p.script.hits p.script.ready p.script.used new_tasks new_ringing new_shown new_last v (notice_of q) counter (stop_of q)) way
    ∙ ap (λ v. F p.script.hits p.script.ready p.script.used new_tasks new_ringing new_shown new_last false v counter (stop_of q)) (notice_done p slot i r g c s j d)
    ∙ ap (λ v. F p.script.hits p.script.ready p.script.used new_tasks new_ringing new_shown new_last false
    (notice_of p || ((is_direct (job p i.id) || ((plan_of p).coalesce == 0)) || nat_le (plan_of p).coalesce (p.regs.coalescing.counter + 1))) v (stop_of q))
    (count_done p slot i r j d)
    ∙ ap (λ v. F p.script.hits p.script.ready p.script.used new_tasks new_ringing new_shown new_last false
    (notice_of p || ((is_direct (job p i.id) || ((plan_of p).coalesce == 0)) || nat_le (plan_of p).coalesce (p.regs.coalescing.counter + 1)))
    (cond (is_direct (job p i.id) || ((plan_of p).coalesce == 0)) p.regs.coalescing.counter
    (cond (nat_le (plan_of p).coalesce (p.regs.coalescing.counter + 1)) 0 (p.regs.coalescing.counter + 1))) v) halt

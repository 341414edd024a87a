-- The command that is due to the engine is due to the storage machine.
use Rattle.std.proofs.Common.{◌≡◌, ℕ, Bool, true, false, cond, List, [], length, refl, sym, ap, subst, ◌∙◌, arith}
use Rattle.std.specs.Prelude.{Option, Some, None, is_some, ◌&&◌, ◌||◌, IfSome, MatchOption}
use Rattle.std.specs.List.{find}
use Rattle.std.specs.Option.{option_map, option_map_or}
use Rattle.std.proofs.lemmas.Bool.{false≢true, true≢false}
use Rattle.std.proofs.lemmas.List.Folds.{list_any_none}
use Rattle.storage_model.specs.declared.plan.Plan.{Plan}
use Rattle.storage_machine.specs.Commands.{command_of_tasks, due, execute_or_poll, first_high as high_first, is_running, job_on, next_ready, queue_first}
use Rattle.storage_machine.specs.Jobs.{is_direct, job_of}
use Rattle.storage_machine.specs.Slots.{first, has, id_of, slot_at}
use Rattle.storage_machine.specs.declared.commands.DueCommand.TheVariants as machine
use Rattle.storage_machine.specs.declared.slots.Question.TheVariants as question
use Rattle.storage_machine.specs.declared.state.State.{State}
use Rattle.host_mem.specs.Memory.{Memory}
use Rattle.cq_regs.specs.State.{Registers}
use Rattle.cq_regs.specs.declared.slots.Progress.TheVariants.{Rung, Named, Sent, Ready, Active}
use Rattle.cq_regs.specs.declared.slots.Ringed.{Ringed}
use Rattle.cq_regs.specs.Slots.{progress_of}
use Rattle.cq_schedule.specs.Held.{Places, remembered, same, slots as all_slots}
use Rattle.cq_schedule.specs.Meaning.{AloneIfBars, IsDue, IsDueThen, next_of_phase, rests}
use Rattle.cq_schedule.specs.Order.{first_at, first_high, order_of}
use Rattle.cq_schedule.specs.declared.rules.Due.{Due}
use Rattle.cq_schedule.specs.declared.rules.Due.TheVariants as engine
use Rattle.cq_schedule.proofs.Plain.{plainly}
use Rattle.drv_core.specs.State.{is_recovering}
use Rattle.drv_recover.specs.Recovery.{IsAt}
use Rattle.drv_recover.specs.declared.recovery.RecoveryState.{RecoveryState}
use Rattle.drv_recover.specs.declared.recovery.RecoveryState.TheVariants as driver
use Rattle.world_state.specs.Laws.{command_due, served_by}
use Rattle.world_state.specs.Path.{PathState, holder, job, plan_of, runs, under_way}
use Rattle.world_state.specs.Reading.{tasks_of}
use Rattle.world_state.specs.Ties.{AreTied, IsAhead, ahead, first_of, has_high, is_executable}
use Rattle.state_laws.proofs.Bars.{alone_if, calm_if, rests_is}
use Rattle.state_laws.proofs.Dues.{AreFirst, Reads, command_is, due_by, serving}
use Rattle.state_laws.proofs.Ready.{high_ahead, high_alone, high_by, job_at, named_first, ready_alone, ready_first, rung_first, sent_any}
use Rattle.state_laws.proofs.Ringing.{IsRungSlot, order_slots}
use Rattle.state_laws.proofs.Searches.{found_one}
use Rattle.state_laws.proofs.Tags.{IsTask, has_is, none_asked, rung_task}

-- what goes ahead of the others is the storage machine's next ready task
next_is : (s : State) (high ready : Option ℕ) → high_first s ≡ high → first question.Ready s.slots s.order ≡ ready → next_ready s (high_first s) ≡ first_of high ready
next_is s (Some high) ready e f = ap (next_ready s) e
next_is s None ready e f = ap (next_ready s) e ∙ f

high_read : (s : State) (p : PathState) → Reads s p → high_first s ≡ high_by (tasks_of p) (plan_of p) (order_of p.regs.ring)
high_read s p r =
    ap (λ slots. high_by slots s.plan s.order) r.slots
    ∙ (ap (λ plan. high_by (tasks_of p) plan s.order) r.plan ∙ ap (high_by (tasks_of p) (plan_of p)) r.order)

ready_read : (s : State) (p : PathState) → Reads s p → AreTied p → is_recovering p.driver.recovery ≡ false
    → first question.Ready s.slots s.order ≡ find (λ tag. is_executable (progress_of p.regs.ring tag)) (order_of p.regs.ring)
ready_read s p r t calm =
    ap (λ slots. first question.Ready slots s.order) r.slots ∙ (ap (first question.Ready (tasks_of p)) r.order ∙ ready_first p t calm)

pub under_way_is : (p : PathState) → p.regs.stopped ≡ false → under_way p ≡ first_at Active p.regs.ring
under_way_is p e = ap (λ b. cond b None (first_at Active p.regs.ring)) e

goes_ahead : (p : PathState) (tag : ℕ) → AreTied p → under_way p ≡ Some tag → ahead p ≡ Some tag
goes_ahead p tag t e = subst (λ o. IfSome o (IsAhead p)) e t.ahead

-- the job of a rung slot
pub job_of_rung : (s : State) (p : PathState) (tag : ℕ) → Reads s p → (task : IsTask p tag) → job_on s tag ≡ job p task.id
job_of_rung s p tag r task =
    ap (λ slots. job_of s.plan.jobs (id_of (slot_at slots tag))) r.slots
    ∙ (ap (λ (plan : Plan). job_of plan.jobs (id_of (slot_at (tasks_of p) tag))) r.plan ∙ job_at p tag task)

rung_serves : (s : State) (p : PathState) (tag : ℕ) → Reads s p → AreTied p → is_recovering p.driver.recovery ≡ false
    → first_at Rung p.regs.ring ≡ Some tag → serving s tag ≡ served_by p tag (holder p tag)
rung_serves s p tag r t calm e =
    let here = found_one (IsRungSlot p.regs.ring) (λ slot. same (progress_of p.regs.ring slot) Rung) (order_of p.regs.ring) tag (order_slots p.regs.ring t.regs.ring) e in
    let task = rung_task p tag t calm here.below here.rings in
    ap (λ j. cond (is_direct j) (machine.Direct tag) (machine.Params tag)) (job_of_rung s p tag r task)
    ∙ sym (ap (served_by p tag) task.issued)

pub running_first : (s : State) (p : PathState) → Reads s p → AreTied p → runs p ≡ true
    → AreFirst s p (first_at Active p.regs.ring) (first_at Named p.regs.ring) (first_at Rung p.regs.ring)
    (first_high (remembered p.engine.held p.regs) p.regs.ring) (first_at Ready p.regs.ring) (first_at Sent p.regs.ring)
running_first s p r t goes =
    let parts = calm_if (is_recovering p.driver.recovery) p.regs.stopped goes in
    record {
      busy = r.busy ∙ ap is_some (under_way_is p parts.1);
      named_one = ap (λ slots. first question.Named slots s.order) r.slots ∙ (ap (first question.Named (tasks_of p)) r.order ∙ named_first p t parts.0);
      rung_one = ap (λ slots. first question.Rung slots s.order) r.slots ∙ (ap (first question.Rung (tasks_of p)) r.order ∙ rung_first p t parts.0);
      high_one = λ none. high_read s p r ∙ (high_ahead p t parts.0 ∙ high_alone p t goes none);
      ready_one = λ none. ready_read s p r t parts.0 ∙ ready_alone p none;
      sent_one = ap (has question.Sent) r.slots ∙ sent_any p t parts.0;
      goes_on = λ tag e.
          next_is s (find (λ tag. is_executable (progress_of p.regs.ring tag) && has_high p tag) (order_of p.regs.ring))
          (find (λ tag. is_executable (progress_of p.regs.ring tag)) (order_of p.regs.ring)) (high_read s p r ∙ high_ahead p t parts.0) (ready_read s p r t parts.0)
          ∙ goes_ahead p tag t (under_way_is p parts.1 ∙ e);
      serves = λ tag e. rung_serves s p tag r t parts.0 e;
    }

due_if : (s : State) (b : Bool) → is_running s.stop ≡ b → due s ≡ cond b (command_of_tasks s) machine.Idle
unfolding due
due_if s b e = ap (λ b. cond b (command_of_tasks s) machine.Idle) e

-- a phase under way goes on
pub phase_is_due : (s : State) (p : PathState) (tag : ℕ) → Reads s p → is_running s.stop ≡ true → AreTied p → runs p ≡ true
    → first_at Active p.regs.ring ≡ Some tag → due s ≡ machine.Execute tag
phase_is_due s p tag r runs_too t goes e =
    let f = running_first s p r t goes in
    due_if s true runs_too
    ∙ (ap (λ b. cond b (execute_or_poll s (next_ready s (high_first s))) (queue_first s (first question.Named s.slots s.order) (first question.Rung s.slots s.order)))
    (f.busy ∙ ap is_some e)
    ∙ ap (execute_or_poll s) (f.goes_on tag e))

unhalted : (recovery : RecoveryState) → is_recovering recovery ≡ false → recovery ≡ driver.Calm
unhalted driver.Calm e = refl
unhalted driver.Halted e = absurd (true≢false e)
unhalted driver.Cleared e = absurd (true≢false e)
unhalted driver.Discarded e = absurd (true≢false e)
unhalted driver.Cleaned e = absurd (true≢false e)
unhalted driver.Resumed e = absurd (true≢false e)

goes_not_rest : (p : PathState) → AreTied p → runs p ≡ true → rests p.regs ≡ false
goes_not_rest p t goes =
    let parts = calm_if (is_recovering p.driver.recovery) p.regs.stopped goes in
    rests_is p t.regs ∙ (ap (λ b. b || p.regs.stopped) (t.calm (unhalted p.driver.recovery parts.0)) ∙ parts.1)

-- while the engine runs
pub running_due : (s : State) (p : PathState) (d : Due) → Reads s p → is_running s.stop ≡ true → AreTied p → runs p ≡ true
    → IsDue (remembered p.engine.held p.regs) p.regs p.memory d → due s ≡ command_due p d
running_due s p d r runs_too t goes h =
    let held = remembered p.engine.held p.regs in
    let by = due_by held (first_at Active p.regs.ring) (first_at Named p.regs.ring) (first_at Rung p.regs.ring) (first_high held p.regs.ring)
    (first_at Ready p.regs.ring) (first_at Sent p.regs.ring) in
    let is : d ≡ by = plainly held p.regs p.memory d h (alone_if p t goes) ∙ ap (λ b. cond b engine.Rest by) (goes_not_rest p t goes) in
    due_if s true runs_too
    ∙ (command_is s p held (first_at Active p.regs.ring) (first_at Named p.regs.ring) (first_at Rung p.regs.ring) (first_high held p.regs.ring)
    (first_at Ready p.regs.ring) (first_at Sent p.regs.ring) (running_first s p r t goes)
    ∙ sym (ap (command_due p) is))

or_true : (b : Bool) → (b || true) ≡ true
or_true true = refl
or_true false = refl

-- where it rests
rest_due : (held : Places) (regs : Registers) (memory : Memory) (d : Due) → rests regs ≡ true → IsDue held regs memory d → d ≡ engine.Rest
rest_due held regs memory d e h =
    subst (λ b. MatchOption (cond b (Some engine.Rest) (option_map_or (λ slot. Some (next_of_phase held slot)) (first_at Active regs.ring) (option_map engine.Address (first_at Named regs.ring))))
    (IsDueThen held regs memory d) (λ first. d ≡ first)) e h

pub stopped_due : (s : State) (p : PathState) (d : Due) → is_running s.stop ≡ false → AreTied p → p.regs.stopped ≡ true
    → IsDue (remembered p.engine.held p.regs) p.regs p.memory d → due s ≡ command_due p d
stopped_due s p d e t stopped h =
    let is : d ≡ engine.Rest = rest_due (remembered p.engine.held p.regs) p.regs p.memory d (rests_is p t.regs ∙ (ap (λ b. p.regs.halted || b) stopped ∙ or_true p.regs.halted)) h in
    due_if s false e ∙ sym (ap (command_due p) is)

-- While a recovery is under way the engine rests, or no slot is rung.
data IsQuiet (p : PathState) : Type 0 where
  halts : p.regs.halted ≡ true → IsQuiet p
  empty : p.regs.ring ≡ [] → p.regs.halted ≡ false → p.regs.stopped ≡ false → IsQuiet p

quiet_at : (p : PathState) (recovery : RecoveryState) → p.driver.recovery ≡ recovery → is_recovering recovery ≡ true → IsAt recovery p.regs → IsQuiet p
quiet_at p driver.Calm e recovers at = absurd (false≢true recovers)
quiet_at p driver.Halted e recovers at = halts at
quiet_at p driver.Cleared e recovers at = halts at.halted
quiet_at p driver.Discarded e recovers at = halts at.halted
quiet_at p driver.Cleaned e recovers at = halts at.cleared.halted
quiet_at p driver.Resumed e recovers at = empty at.ring at.halted at.running

no_ring : (p : PathState) → p.regs.ring ≡ [] → under_way p ≡ None
no_ring p e = ap (λ ring. cond p.regs.stopped None (first_at Active ring)) e ∙ either p.regs.stopped
  where
    either : (b : Bool) → {A : Type 0} {x : A} → cond b x x ≡ x
    either true = refl
    either false = refl

no_phase_at : (p : PathState) (recovery : RecoveryState) → is_recovering recovery ≡ true → (recovery ≡ driver.Halted → p.regs.stopped ≡ true)
    → IsAt recovery p.regs → under_way p ≡ None
no_phase_at p driver.Calm recovers stops at = absurd (false≢true recovers)
no_phase_at p driver.Halted recovers stops at = ap (λ b. cond b None (first_at Active p.regs.ring)) (stops refl)
no_phase_at p driver.Cleared recovers stops at = no_ring p at.ring
no_phase_at p driver.Discarded recovers stops at = no_ring p at.ring
no_phase_at p driver.Cleaned recovers stops at = no_ring p at.cleared.ring
no_phase_at p driver.Resumed recovers stops at = no_ring p at.ring

pub no_phase : (p : PathState) → AreTied p → is_recovering p.driver.recovery ≡ true → under_way p ≡ None
no_phase p t recovers = no_phase_at p p.driver.recovery recovers t.halts t.recovery_at

-- no slot is rung, so the timer is due
tick_command : (p : PathState) (held : Places) (ring : List Ringed) → ring ≡ [] → command_due p (due_by held (first_at Active ring) (first_at Named ring) (first_at Rung ring)
    (first_high held ring) (first_at Ready ring) (first_at Sent ring)) ≡ machine.Idle
tick_command p held ring e =
    ap (λ ring. command_due p (due_by held (first_at Active ring) (first_at Named ring) (first_at Rung ring) (first_high held ring) (first_at Ready ring) (first_at Sent ring))) e

none_rung : (held : Places) (regs : Registers) (memory : Memory) → regs.ring ≡ [] → AloneIfBars held regs memory
none_rung held regs memory e k slot at bars = let long : length regs.ring ≡ 0 = ap length e in omega (arith, long)

idle_due : (p : PathState) (d : Due) → AreTied p → IsQuiet p → IsDue (remembered p.engine.held p.regs) p.regs p.memory d → command_due p d ≡ machine.Idle
idle_due p d t (halts e) h =
    ap (command_due p) (rest_due (remembered p.engine.held p.regs) p.regs p.memory d (rests_is p t.regs ∙ ap (λ b. b || p.regs.stopped) e) h)
idle_due p d t (empty e halted stopped) h =
    let held = remembered p.engine.held p.regs in
    let goes : rests p.regs ≡ false = rests_is p t.regs ∙ (ap (λ b. b || p.regs.stopped) halted ∙ stopped) in
    let by = due_by held (first_at Active p.regs.ring) (first_at Named p.regs.ring) (first_at Rung p.regs.ring) (first_high held p.regs.ring)
    (first_at Ready p.regs.ring) (first_at Sent p.regs.ring) in
    ap (command_due p) (plainly held p.regs p.memory d h (none_rung held p.regs p.memory e) ∙ ap (λ b. cond b engine.Rest by) goes)
    ∙ tick_command p held p.regs.ring e

-- the machine's tasks are all held then, and in no order
held_first : (s : State) (p : PathState) → s.slots ≡ tasks_of p → s.order ≡ [] → s.busy ≡ false → is_recovering p.driver.recovery ≡ true
    → AreFirst s p None None None None None None
held_first s p slots order busy recovers = record {
  busy = busy;
  named_one = ap (first question.Named s.slots) order;
  rung_one = ap (first question.Rung s.slots) order;
  high_one = λ none. ap (high_by s.slots s.plan) order;
  ready_one = λ none. ap (first question.Ready s.slots) order;
  sent_one = ap (has question.Sent) slots ∙ (has_is p question.Sent (λ tag. false) (λ tag below. none_asked p tag question.Sent recovers refl refl below)
      ∙ list_any_none (λ tag. false) all_slots (λ k d low. refl));
  goes_on = λ tag e. absurd (cc (e));
  serves = λ tag e. absurd (cc (e));
}

pub recovering_due : (s : State) (p : PathState) (d : Due) → s.slots ≡ tasks_of p → s.order ≡ [] → s.busy ≡ false → is_running s.stop ≡ true → AreTied p
    → is_recovering p.driver.recovery ≡ true → IsDue (remembered p.engine.held p.regs) p.regs p.memory d → due s ≡ command_due p d
recovering_due s p d slots order busy runs_too t recovers h =
    due_if s true runs_too
    ∙ (command_is s p (remembered p.engine.held p.regs) None None None None None None (held_first s p slots order busy recovers)
    ∙ sym (idle_due p d t (quiet_at p p.driver.recovery refl recovers t.recovery_at) h))

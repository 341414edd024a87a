-- What the path says of the engine's next command.
use Rattle.std.proofs.Common.{◌≡◌, ℕ, Bool, true, false, cond, refl, sym, ap, subst, ◌∙◌}
use Rattle.std.specs.Prelude.{Option, Some, None, is_some, not, IfSome}
use Rattle.std.specs.Option.{IsSomeAnd}
use Rattle.std.proofs.lemmas.Bool.{false≢true}
use Rattle.std.proofs.lemmas.Option.{same_Some}
use Rattle.storage_machine.specs.Commands.{due, execute_blocks, hit, job_on, met, next_number}
use Rattle.storage_machine.specs.Jobs.{phase_blocks}
use Rattle.storage_machine.specs.declared.commands.DueCommand.TheVariants as machine
use Rattle.bus_link.specs.Hits.{hit_of, raised}
use Rattle.cq_engine.specs.Words.{execute_of}
use Rattle.cq_regs.specs.declared.slots.Progress.TheVariants.{Active}
use Rattle.cq_schedule.specs.Held.{remembered, same}
use Rattle.cq_schedule.specs.Meaning.{IsDue}
use Rattle.cq_schedule.specs.Order.{first_at, order_of}
use Rattle.cq_schedule.specs.declared.rules.Due.{Due}
use Rattle.cq_regs.specs.Slots.{is_begun, progress_of}
use Rattle.cq_schedule.proofs.Progresses.{same-true}
use Rattle.cut_order.specs.Order.{OrderState}
use Rattle.drv_core.specs.State.{is_recovering}
use Rattle.world_state.specs.Laws.{EngineLaws, command_due, next_fault}
use Rattle.world_state.specs.Path.{PathState, is_busy, job, runs, under_way}
use Rattle.world_state.specs.Reading.{Context, state_of}
use Rattle.world_state.specs.Stands.{sent_of}
use Rattle.world_state.specs.Ties.{AreTied, HasHit}
use Rattle.state_laws.proofs.Bars.{calm_if}
use Rattle.state_laws.proofs.Commands.{job_of_rung, no_phase, phase_is_due, recovering_due, running_due, stopped_due, under_way_is}
use Rattle.state_laws.proofs.Faults.{execute_met, hit_is, kind_at}
use Rattle.state_laws.proofs.ReadOff.{busy_of, order_by, reads, runs_calm, runs_recovering, slots_of}
use Rattle.state_laws.proofs.Ringing.{IsRungSlot, order_slots}
use Rattle.state_laws.proofs.Searches.{found_one, found_passes}
use Rattle.state_laws.proofs.Tags.{rung_task}
use Rattle.state_laws.proofs.Tasks.{begun}

due_calm : (p : PathState) (o : OrderState) (c : Context) (d : Due) (stopped : Bool) → AreTied p → is_recovering p.driver.recovery ≡ false → p.regs.stopped ≡ stopped
    → IsDue (remembered p.engine.held p.regs) p.regs p.memory d → due (state_of p o c) ≡ command_due p d
due_calm p o c d true t calm e h = stopped_due (state_of p o c) p d (runs_calm p o c calm ∙ ap not e) t e h
due_calm p o c d false t calm e h =
    running_due (state_of p o c) p d (reads p o c calm) (runs_calm p o c calm ∙ ap not e) t
    (ap (λ b. cond b false (not p.regs.stopped)) calm ∙ ap not e) h

due_by : (p : PathState) (o : OrderState) (c : Context) (d : Due) (recovers : Bool) → AreTied p → is_recovering p.driver.recovery ≡ recovers
    → IsDue (remembered p.engine.held p.regs) p.regs p.memory d → due (state_of p o c) ≡ command_due p d
due_by p o c d true t e h =
    recovering_due (state_of p o c) p d (slots_of p o c) (order_by p o c true e) (busy_of p o c ∙ ap is_some (no_phase p t e)) (runs_recovering p o c e) t e h
due_by p o c d false t e h = due_calm p o c d p.regs.stopped t e refl h

pub due_is : (p : PathState) (o : OrderState) (c : Context) → AreTied p → (d : Due)
    → IsDue (remembered p.engine.held p.regs) p.regs p.memory d → due (state_of p o c) ≡ command_due p d
due_is p o c t d h = due_by p o c d (is_recovering p.driver.recovery) t refl h

-- the number of the next command
number_idle : (p : PathState) (o : OrderState) (c : Context) → p.script.sent ≡ sent_of (is_busy p) c.n → is_busy p ≡ false → next_number (state_of p o c) ≡ raised p.script.sent
unfolding state_of
number_idle p o c e idle = ap raised (sym (e ∙ ap (λ b. sent_of b c.n) idle))

number_busy : (p : PathState) (o : OrderState) (c : Context) → p.script.sent ≡ sent_of (is_busy p) c.n → is_busy p ≡ true → next_number (state_of p o c) ≡ p.script.sent
unfolding state_of
number_busy p o c e busy = sym (e ∙ ap (λ b. sent_of b c.n) busy)

pub fault_is : (p : PathState) (o : OrderState) (c : Context) → p.script.sent ≡ sent_of (is_busy p) c.n → is_busy p ≡ false
    → hit (state_of p o c) ≡ met (execute_blocks (state_of p o c) (due (state_of p o c))) (next_fault p)
unfolding state_of
fault_is p o c e idle = hit_is (state_of p o c) p.script.hits (raised p.script.sent) refl (number_idle p o c e idle)

-- a phase is under way only while the engine runs
pub runs_if : (p : PathState) → AreTied p → is_busy p ≡ true → runs p ≡ true
runs_if p t busy = by (is_recovering p.driver.recovery) p.regs.stopped refl refl
  where
    by : (recovers stopped : Bool) → is_recovering p.driver.recovery ≡ recovers → p.regs.stopped ≡ stopped → runs p ≡ true
    by true stopped e f = absurd (false≢true (sym (ap is_some (no_phase p t e)) ∙ busy))
    by false true e f = absurd (false≢true (sym (ap (λ b. is_some (cond b None (first_at Active p.regs.ring))) f) ∙ busy))
    by false false e f = ap (λ b. cond b false (not p.regs.stopped)) e ∙ ap not f

met_under_way : (p : PathState) (o : OrderState) (c : Context) (tag : ℕ) → AreTied p → p.script.sent ≡ sent_of (is_busy p) c.n → is_busy p ≡ true
    → under_way p ≡ Some tag → hit (state_of p o c) ≡ p.script.hit
unfolding state_of
met_under_way p o c tag t e busy way =
    let goes = runs_if p t busy in
    let parts = calm_if (is_recovering p.driver.recovery) p.regs.stopped goes in
    let active : first_at Active p.regs.ring ≡ Some tag = sym (under_way_is p parts.1) ∙ way in
    let here = found_one (IsRungSlot p.regs.ring) (λ slot. same (progress_of p.regs.ring slot) Active) (order_of p.regs.ring) tag (order_slots p.regs.ring t.regs.ring) active in
    let task = rung_task p tag t parts.0 here.below here.rings in
    let phase = same-true (progress_of p.regs.ring tag) Active (found_passes (λ slot. same (progress_of p.regs.ring slot) Active) (order_of p.regs.ring) tag active) in
    let b = begun p tag t goes here.below (ap is_begun phase) in
    let noted : HasHit p tag = subst (λ o. IfSome o (HasHit p)) way t.hit in
    let is : p.script.hit ≡ hit_of p.script.hits p.script.sent (execute_of tag b.held.task.desc) b.held.task.desc.blocks =
    subst (λ o. IsSomeAnd o (λ h. p.script.hit ≡ hit_of p.script.hits p.script.sent (execute_of tag h.task.desc) h.task.desc.blocks)) b.is_held noted in
    let same_id : task.id ≡ b.id = same_Some task.id b.id (sym task.issued ∙ b.issued) in
    let s = state_of p o c in
    let blocks : phase_blocks (job_on s tag) ≡ b.held.task.desc.blocks =
    ap phase_blocks (job_of_rung s p tag (reads p o c parts.0) task ∙ ap (job p) same_id) ∙ sym b.task.blocks in
    let command : due s ≡ machine.Execute tag = phase_is_due s p tag (reads p o c parts.0) (runs_calm p o c parts.0 ∙ ap not parts.1) t goes active in
    hit_is s p.script.hits p.script.sent refl (number_busy p o c e busy)
    ∙ (ap (λ d. met (execute_blocks s d) (kind_at p.script.hits p.script.sent)) command
    ∙ (ap (λ n. met (Some n) (kind_at p.script.hits p.script.sent)) blocks
    ∙ (execute_met p.script.hits p.script.sent tag b.held.task.desc.blocks b.held.task.desc.read ∙ sym is)))

pub hit_under_way : (p : PathState) (o : OrderState) (c : Context) → AreTied p → p.script.sent ≡ sent_of (is_busy p) c.n → is_busy p ≡ true
    → hit (state_of p o c) ≡ p.script.hit
hit_under_way p o c t e busy = by (under_way p) refl
  where
    by : (way : Option ℕ) → under_way p ≡ way → hit (state_of p o c) ≡ p.script.hit
    by None f = absurd (false≢true (sym (ap is_some f) ∙ busy))
    by (Some tag) f = met_under_way p o c tag t e busy f

pub engine_laws : (p : PathState) (o : OrderState) (c : Context) → AreTied p → p.script.sent ≡ sent_of (is_busy p) c.n → EngineLaws p o c
engine_laws p o c t e = record {
  command = due_is p o c t;
  fault = fault_is p o c e;
  under_way = hit_under_way p o c t e;
}

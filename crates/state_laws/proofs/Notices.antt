-- The tasks that are done are those that the registers notify as complete.
use Rattle.std.proofs.Common.{◌≡◌, ℕ, ◌<◌, ◌==◌, Bool, true, false, cond, refl, sym, ap, ◌∙◌, inl, inr}
use Rattle.std.specs.Prelude.{◌⊎◌, not, ◌&&◌, ◌||◌}
use Rattle.std.specs.Int.RustNames.{bit_and}
use Rattle.std.proofs.lemmas.Bool.{true≢false}
use Rattle.storage_machine.specs.Commands.{is_running}
use Rattle.storage_machine.specs.Host.{is_irq_due}
use Rattle.storage_machine.specs.Slots.{asks, asks_of, has, mask_of, slot_at}
use Rattle.storage_machine.specs.declared.slots.Question.TheVariants as question
use Rattle.storage_machine.specs.declared.state.State.{State}
use Rattle.cq_regs.specs.State.{Registers}
use Rattle.cq_regs.specs.declared.slots.Progress.{Progress}
use Rattle.cq_regs.specs.declared.slots.Progress.TheVariants.{Idle, Rung, Named, Sent, Ready, Active}
use Rattle.cq_regs.specs.Slots.{has_bit, progress_of}
use Rattle.cut_order.specs.Order.{OrderState}
use Rattle.drv_core.specs.State.{is_recovering}
use Rattle.drv_core.specs.Work.{is_noticed}
use Rattle.drv_recover.specs.declared.recovery.RecoveryState.{RecoveryState}
use Rattle.drv_recover.specs.declared.recovery.RecoveryState.TheVariants as driver
use Rattle.world_state.specs.Path.{PathState, plan_of}
use Rattle.world_state.specs.Reading.{Context, is_done, is_free, notice_of, standing_of, state_of, task_at, tasks_of}
use Rattle.world_state.specs.Ties.{AreTied, HasSetUp}
use Rattle.state_laws.proofs.Bits.{any_is, mask_is, no_bits}
use Rattle.state_laws.proofs.ReadOff.{runs_calm, runs_recovering}
use Rattle.state_laws.proofs.Tags.{View, issued_task, none_asked, slot_is, standing_done, standing_rung, tasks_long, vacant_task, view}
use Rattle.state_laws.proofs.Tags.View.{vacant, rung, done}

not_done : (q : Progress) → asks_of question.Done (standing_of q) ≡ false
not_done Idle = refl
not_done Rung = refl
not_done Named = refl
not_done Sent = refl
not_done Ready = refl
not_done Active = refl

done_calm : (p : PathState) (tag : ℕ) → is_recovering p.driver.recovery ≡ false → View p tag → asks question.Done (task_at p tag) ≡ is_done p tag
done_calm p tag calm (vacant e idle silent) = ap (asks question.Done) (vacant_task p tag e) ∙ sym silent
done_calm p tag calm (rung id e clear rings) =
    ap (asks question.Done) (issued_task p tag id e)
    ∙ (ap (asks_of question.Done) (standing_rung p tag calm clear) ∙ (not_done (progress_of p.regs.ring tag) ∙ sym clear))
done_calm p tag calm (done id e set idle) =
    ap (asks question.Done) (issued_task p tag id e) ∙ (ap (asks_of question.Done) (standing_done p tag calm set) ∙ sym set)

done_by : (p : PathState) (tag : ℕ) (recovers : Bool) → AreTied p → is_recovering p.driver.recovery ≡ recovers → tag < 32
    → asks question.Done (slot_at (tasks_of p) tag) ≡ has_bit p.regs.completed tag
done_by p tag true t e below = none_asked p tag question.Done e refl refl below ∙ sym (no_bits p.regs.completed (t.held e) tag)
done_by p tag false t e below = ap (asks question.Done) (slot_is p tag below) ∙ done_calm p tag e (view p tag t e below)

done_at : (p : PathState) (tag : ℕ) → AreTied p → tag < 32 → asks question.Done (slot_at (tasks_of p) tag) ≡ has_bit p.regs.completed tag
done_at p tag t below = done_by p tag (is_recovering p.driver.recovery) t refl below

pub mask_done : (p : PathState) (o : OrderState) (c : Context) → AreTied p → mask_of question.Done (state_of p o c).slots ≡ p.regs.completed
unfolding state_of
mask_done p o c t = mask_is question.Done (tasks_of p) p.regs.completed t.regs.small (λ tag below. done_at p tag t below)

any_done : (p : PathState) → AreTied p → has question.Done (tasks_of p) ≡ not (p.regs.completed == 0)
any_done p t = any_is question.Done (tasks_of p) p.regs.completed (tasks_long p) t.regs.small (λ tag below. done_at p tag t below)

-- the interrupt is signalled where the notice stands
signals : (p : PathState) → HasSetUp (plan_of p) p.regs → p.regs.signal_enable ≡ 2
signals p h = ap (λ (regs : Registers). regs.signal_enable) h.same

notice_bit : (interrupts enable : ℕ) → enable ≡ 2 → (interrupts ≡ 0) ⊎ (interrupts ≡ 2) → has_bit interrupts 1 ≡ not (bit_and interrupts enable == 0)
notice_bit interrupts enable e (inl n) = rw (e, n) refl
notice_bit interrupts enable e (inr n) = rw (e, n) refl

notice_at : (p : PathState) (recovery : RecoveryState) → p.driver.recovery ≡ recovery → is_recovering recovery ≡ false → notice_of p ≡ has_bit p.regs.interrupts 1
notice_at p driver.Calm e calm = ap (λ r. cond (is_free r) false (has_bit p.regs.interrupts 1)) e
notice_at p driver.Halted e calm = absurd (true≢false calm)
notice_at p driver.Cleared e calm = absurd (true≢false calm)
notice_at p driver.Discarded e calm = absurd (true≢false calm)
notice_at p driver.Cleaned e calm = absurd (true≢false calm)
notice_at p driver.Resumed e calm = absurd (true≢false calm)

irq_parts : (s : State) (some notice runs : Bool) → has question.Done s.slots ≡ some → s.notice ≡ notice → is_running s.stop ≡ runs
    → is_irq_due s ≡ (some && (notice || not runs))
irq_parts s some notice runs e f g =
    ap (λ b. b && (s.notice || not (is_running s.stop))) e ∙ (ap (λ b. some && (b || not (is_running s.stop))) f ∙ ap (λ b. some && (notice || not b)) g)

twice : (b : Bool) → not (not b) ≡ b
twice true = refl
twice false = refl

noticed_by : (p : PathState) (o : OrderState) (c : Context) (recovers : Bool) → AreTied p → is_recovering p.driver.recovery ≡ recovers
    → is_irq_due (state_of p o c) ≡ is_noticed p.regs
unfolding state_of
noticed_by p o c true t e =
    irq_parts (state_of p o c) (not (p.regs.completed == 0)) (notice_of p) true (any_done p t) refl (runs_recovering p o c e)
    ∙ (ap (λ n. not (n == 0) && (notice_of p || false)) (t.held e)
    ∙ sym (ap (λ n. not (n == 0) && (not (bit_and p.regs.interrupts p.regs.signal_enable == 0) || p.regs.stopped)) (t.held e)))
noticed_by p o c false t e =
    irq_parts (state_of p o c) (not (p.regs.completed == 0)) (not (bit_and p.regs.interrupts p.regs.signal_enable == 0)) (not p.regs.stopped) (any_done p t)
    (notice_at p p.driver.recovery refl e ∙ notice_bit p.regs.interrupts p.regs.signal_enable (signals p t.regs) t.regs.notice) (runs_calm p o c e)
    ∙ ap (λ b. not (p.regs.completed == 0) && (not (bit_and p.regs.interrupts p.regs.signal_enable == 0) || b)) (twice p.regs.stopped)

pub noticed_is : (p : PathState) (o : OrderState) (c : Context) → AreTied p → is_irq_due (state_of p o c) ≡ is_noticed p.regs
noticed_is p o c t = noticed_by p o c (is_recovering p.driver.recovery) t refl

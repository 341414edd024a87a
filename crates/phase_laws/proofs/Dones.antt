-- The ties after an event in which a task was completed.
use Rattle.std.proofs.Common.{◌≡◌, ◌≢◌, ◌⊎◌, ◌<◌, ◌≤◌, ◌^◌, ◌==◌, ℕ, refl, sym, ◌∙◌, ap, subst}
use Rattle.std.specs.Prelude.{Bool, true, false, cond, Option, None, is_some}
use Rattle.array_edge.specs.Array.{ArrayState}
use Rattle.card_core.specs.Serving.{without_error}
use Rattle.card_core.specs.declared.phase.Phase.{Phase}
use Rattle.cq_engine.specs.declared.did.Did.{Did}
use Rattle.cq_engine.proofs.SlotLaws.{without-other}
use Rattle.cq_regs.specs.Effects.{completed}
use Rattle.cq_regs.specs.Slots.{has_bit, progress_of, without}
use Rattle.cq_regs.specs.State.{Registers}
use Rattle.cq_regs.specs.declared.slots.Progress.TheVariants.{Active}
use Rattle.cq_schedule.specs.Held.{Places, held_at, noted, remembered}
use Rattle.cq_schedule.specs.Meaning.{rests}
use Rattle.cq_schedule.specs.Order.{first_at}
use Rattle.drv_recover.specs.declared.recovery.RecoveryState.TheVariants as driver
use Rattle.world_state.specs.Engine.{EngineEvent}
use Rattle.world_state.specs.Path.{PathState, is_busy, plan_of}
use Rattle.world_state.specs.Ties.{AreTied}
use Rattle.phase_laws.proofs.Dues.{runs_on}
use Rattle.phase_laws.proofs.Events.{begun_none, goes_of, keeps_left, with_driver}
use Rattle.phase_laws.proofs.Helds.{stays_held}
use Rattle.phase_laws.proofs.Endings.{HoldsOthers, WasOut, done_tied}
use Rattle.phase_laws.proofs.Parts.{KeepsCard, KeepsScript}
use Rattle.phase_laws.proofs.SetUps.{Completes, completes, counts_few, done_small, notices, thresholds, timer_none}

-- the registers that a completion begins with: the slots, notices and counts are as they were
pub record Begins (p : PathState) (base : Registers) : Type 0 where
  pub ring : base.ring ≡ p.regs.ring
  pub completed : base.completed ≡ p.regs.completed
  pub interrupts : base.interrupts ≡ p.regs.interrupts
  pub coalescing : base.coalescing ≡ p.regs.coalescing
  pub status_enable : base.status_enable ≡ p.regs.status_enable
  pub stopped : base.stopped ≡ p.regs.stopped

-- a completion's counts and notices
pub completion : (p : PathState) (base : Registers) (slot : ℕ) (int : Bool) → AreTied p → Begins p base → (int ≡ false → ((plan_of p).coalesce == 0) ≡ false)
    → Completes (plan_of p).coalesce slot int base (completed base slot int)
completion p base slot int t b some =
    let I : ℕ → Type 0 = λ n. (n ≡ 0) ⊎ (n ≡ 2) in
    let low : (plan_of p).coalesce ≤ 31 = t.sound.plan.coalesce in
    completes (plan_of p).coalesce slot int base
    (ap (λ k. k.timer) b.coalescing ∙ timer_none (plan_of p) p.regs t.regs.same)
    (b.status_enable ∙ ap (λ r. r.status_enable) t.regs.same)
    (subst I (sym b.interrupts) t.regs.notice)
    (subst (λ n. n ≤ (plan_of p).coalesce) (sym (ap (λ k. k.counter) b.coalescing)) t.regs.counted)
    low
    (λ counts.
    let th = thresholds (plan_of p) p.regs t.regs.same low (some counts) in
    (ap (λ k. k.enabled) b.coalescing ∙ th.0, ap (λ k. k.threshold) b.coalescing ∙ th.1, th.2))

none_busy : (b : Bool) (o : Option ℕ) → o ≡ None → is_some (cond b None o) ≡ false
none_busy true o e = refl
none_busy false o e = ap is_some e

pub not_busy : (p' : PathState) → first_at Active p'.regs.ring ≡ None → is_busy p' ≡ false
not_busy p' e = none_busy p'.regs.stopped (first_at Active p'.regs.ring) e

pub done_ties : (p : PathState) (a : ArrayState) (p' : PathState) (a' : ArrayState) (did : Did) (phase : Option Phase) (e : EngineEvent p a p' a' did phase)
    (base : Registers) (slot : ℕ) (int : Bool) → AreTied p → p.driver.recovery ≡ driver.Calm → rests p.regs ≡ false → slot < 32
    → WasOut (progress_of p.regs.ring slot) → Begins p base → (int ≡ false → ((plan_of p).coalesce == 0) ≡ false) → p'.regs ≡ completed base slot int
    → first_at Active p'.regs.ring ≡ None → p'.memory ≡ p.memory → HoldsOthers p p'.engine slot → KeepsCard p.card e.card
    → KeepsScript p.script p'.script → (has_bit p'.regs.completed 31 ≡ true → p'.regs.direct_response ≡ without_error) → AreTied p'
done_ties p a p' a' did phase e base slot int t calm goes below out b some regs none memory others card script status =
    let C : Registers → Type 0 = λ r. Completes (plan_of p).coalesce slot int base r in
    let done : Completes (plan_of p).coalesce slot int base p'.regs = subst C (sym regs) (completion p base slot int t b some) in
    let I : ℕ → Type 0 = λ n. (n ≡ 0) ⊎ (n ≡ 2) in
    let kept : KeepsCard p.card p'.card = subst (KeepsCard p.card) (sym e.left) (keeps_left p.card e.card (is_busy p') card) in
    with_driver p p' e.driver
    (done_tied p p'.regs p'.memory p'.engine p'.card p'.script base (plan_of p).coalesce slot int t
    (goes_of p a p' a' did phase e t calm goes
    (done.timer ∙ sym (timer_none (plan_of p) p.regs t.regs.same))
    (notices (plan_of p).coalesce slot int base p'.regs done (subst I (sym b.interrupts) t.regs.notice))
    (subst (λ n. n < 2 ^ 32) (sym done.completed) (done_small base.completed slot (subst (λ n. n < 2 ^ 32) (sym b.completed) t.regs.small) below))
    (counts_few (plan_of p).coalesce slot int base p'.regs done
    (subst (λ n. n ≤ (plan_of p).coalesce) (sym (ap (λ k. k.counter) b.coalescing)) t.regs.counted))
    card script)
    (runs_on p.regs goes).1 below out b.ring b.completed done none memory others (begun_none e.card p'.card (is_busy p') e.left (not_busy p' none))
    kept.queue status (done.stopped ∙ b.stopped ∙ (runs_on p.regs goes).1))

-- the tasks of the other slots stay held
pub others_held : (p : PathState) (a : ArrayState) (p' : PathState) (a' : ArrayState) (did : Did) (phase : Option Phase) (e : EngineEvent p a p' a' did phase)
    (slot : ℕ) (held : Places) → e.event.left.held ≡ held → ((tag : ℕ) → tag ≢ slot → held_at held tag ≡ held_at (remembered p.engine.held p.regs) tag)
    → p'.regs.ring ≡ without p.regs.ring slot → HoldsOthers p p'.engine slot
others_held p a p' a' did phase e slot held is same ring tag within apart far =
    let noted_so : p'.engine.held ≡ noted held p'.regs =
    ap (λ g. g.held) e.event.keeps ∙ ap (λ r. noted e.event.left.held r) (sym e.event.registers) ∙ ap (λ x. noted x p'.regs) is in
    ap (λ x. held_at x tag) noted_so
    ∙ stays_held p.engine.held held p.regs p'.regs tag within (same tag apart)
    (ap (λ x. progress_of x tag) ring ∙ without-other p.regs.ring slot tag apart) far

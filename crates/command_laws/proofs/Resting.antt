-- An event in which the engine sends nothing: it rests, or the timer ticks.
use Rattle.std.proofs.Common.{◌≡◌, ◌⊎◌, ◌≤◌, ◌+◌, ◌*◌, ◌==◌, ◌&&◌, ◌||◌, ℕ, Bool, true, false, cond, refl, sym, ◌∙◌, ap, arith, inl, inr}
use Rattle.std.specs.Prelude.{not, []}
use Rattle.std.specs.Int.{bit_at}
use Rattle.std.specs.Int.RustNames.{bit_and, bit_or}
use Rattle.std.proofs.lemmas.Bool.{false≢true, true≢false}
use Rattle.std.proofs.lemmas.Bool.Decides.{nat_tests}
use Rattle.cq_regs.specs.Coalesce.{ic_written, one_more, reaches, restarted, ticked}
use Rattle.cq_regs.specs.Effects.{at_reset, noticed_if, raised, task_complete, ticked_in, with_coalescing}
use Rattle.cq_regs.specs.Slots.{has_bit}
use Rattle.cq_regs.specs.State.{Registers}
use Rattle.cq_regs.specs.declared.coalesce.Coalescing.{Coalescing}
use Rattle.cq_schedule.specs.Held.{remembered}
use Rattle.cq_schedule.specs.Meaning.{IsDue, rests}
use Rattle.cq_schedule.specs.declared.rules.Due.{Due}
use Rattle.cq_schedule.specs.declared.rules.Due.TheVariants.{Rest, Tick}
use Rattle.cq_schedule.proofs.Idle.{idle_exactly, tick_exactly}
use Rattle.cq_words.specs.Fields.{field_of}
use Rattle.drv_core.specs.SetUp.{coalescing_word, configuration_word}
use Rattle.drv_recover.specs.Recovery.{IsAt}
use Rattle.drv_recover.specs.declared.recovery.RecoveryState.{RecoveryState}
use Rattle.drv_recover.specs.declared.recovery.RecoveryState.TheVariants as driver
use Rattle.world_state.specs.Path.{PathState, plan_of}
use Rattle.world_state.specs.Reading.{is_free}
use Rattle.world_state.specs.Ties.{AreTied}

-- the engine has stopped, or no slot is rung
abbrev pub IsStill : PathState → Type 0
IsStill p = (p.regs.stopped ≡ true) ⊎ (p.regs.ring ≡ [])

enabled : (wide : Bool) → has_bit (configuration_word wide) 0 ≡ true
enabled true = refl
enabled false = refl

rests_by : (halted stopped : Bool) → (not true || (halted || stopped)) ≡ true → halted ≡ false → stopped ≡ true
rests_by true stopped e h = absurd (true≢false h)
rests_by false stopped e h = e

halted_if : (enabled halted stopped : Bool) → (not enabled || (halted || stopped)) ≡ false → halted ≡ true → ⊥
halted_if true false stopped e h = false≢true h
halted_if true true stopped e h = absurd (cc e)
halted_if false halted stopped e h = absurd (cc e)

-- an engine that rests while no recovery is under way has stopped
pub calm_stopped : (p : PathState) → AreTied p → p.driver.recovery ≡ driver.Calm → rests p.regs ≡ true → p.regs.stopped ≡ true
calm_stopped p t e off =
    let on : has_bit p.regs.configuration 0 ≡ true =
    ap (λ word. has_bit word 0) (ap (λ r. r.configuration) t.regs.same) ∙ enabled (plan_of p).wide in
    rests_by p.regs.halted p.regs.stopped (sym (ap (λ b. not b || (p.regs.halted || p.regs.stopped)) on) ∙ off) (t.calm e)

-- one that is neither halted nor stopped doesn't rest
pub on_runs : (p : PathState) → AreTied p → p.regs.halted ≡ false → p.regs.stopped ≡ false → rests p.regs ≡ false
on_runs p t halted stopped =
    let on : has_bit p.regs.configuration 0 ≡ true =
    ap (λ word. has_bit word 0) (ap (λ r. r.configuration) t.regs.same) ∙ enabled (plan_of p).wide in
    ap (λ b. not b || (p.regs.halted || p.regs.stopped)) on ∙ ap (λ b. b || p.regs.stopped) halted ∙ stopped

stopped_if : (enabled halted stopped : Bool) → (not enabled || (halted || stopped)) ≡ false → stopped ≡ false
stopped_if true false false e = refl
stopped_if true false true e = absurd (cc e)
stopped_if true true stopped e = absurd (cc e)
stopped_if false halted stopped e = absurd (cc e)

-- one that doesn't rest is neither
pub rests_not : (p : PathState) → rests p.regs ≡ false → (p.regs.halted ≡ true → ⊥) × (p.regs.stopped ≡ false)
rests_not p off =
    (halted_if (has_bit p.regs.configuration 0) p.regs.halted p.regs.stopped off, stopped_if (has_bit p.regs.configuration 0) p.regs.halted p.regs.stopped off)

still_by : (p : PathState) (state : RecoveryState) → p.driver.recovery ≡ state → IsAt state p.regs → AreTied p → rests p.regs ≡ true → IsStill p
still_by p driver.Calm e at t off =
    let on : has_bit p.regs.configuration 0 ≡ true =
    ap (λ word. has_bit word 0) (ap (λ r. r.configuration) t.regs.same) ∙ enabled (plan_of p).wide in
    inl (rests_by p.regs.halted p.regs.stopped (sym (ap (λ b. not b || (p.regs.halted || p.regs.stopped)) on) ∙ off) (t.calm e))
still_by p driver.Halted e at t off = inl (t.halts e)
still_by p driver.Cleared e at t off = inr at.ring
still_by p driver.Discarded e at t off = inr at.ring
still_by p driver.Cleaned e at t off = inr at.cleared.ring
still_by p driver.Resumed e at t off = inr at.ring

pub still : (p : PathState) (due : Due) → AreTied p → IsDue (remembered p.engine.held p.regs) p.regs p.memory due → (due ≡ Rest) ⊎ (due ≡ Tick) → IsStill p
still p due t is idle =
    elim ((idle_exactly (remembered p.engine.held p.regs) p.regs p.memory due t.regs.ring is).0 idle) [
      | inl off ↦ still_by p p.driver.recovery refl t.recovery_at t off
      | inr none ↦ inr none
    ]

-- a tick that tells of counted completions: the notice is up, and the counter is 0
abbrev pub tick_regs : Registers → Registers
tick_regs regs = record regs { interrupts = bit_or regs.interrupts (bit_and 2 regs.status_enable); coalescing = record regs.coalescing { counter = 0 } }

-- the timeout of a run is a tick
timeout_field : (threshold : ℕ) → field_of (0x8000_8081 + 0x100 * threshold) 0 7 ≡ 1
unfolding field_of
timeout_field threshold = omega arith

timeout_bit : (threshold : ℕ) → has_bit (0x8000_8081 + 0x100 * threshold) 7 ≡ true
timeout_bit threshold = let e : bit_at (0x8000_8081 + 0x100 * threshold) 7 ≡ 1 = omega arith in ap (λ n. n == 1) e

timeout_by : (threshold : ℕ) (none : Bool) → (threshold == 0) ≡ none → none ≡ false
    → (ic_written at_reset.coalescing (coalescing_word threshold)).timeout ≡ 1
timeout_by threshold true e f = absurd (true≢false f)
timeout_by threshold false e f =
    let word : ℕ = 0x8000_8081 + 0x100 * threshold in
    ap (λ b. (ic_written at_reset.coalescing (cond b 0 word)).timeout) e
    ∙ ap (λ b. cond b (field_of word 0 7) 0) (timeout_bit threshold) ∙ timeout_field threshold

ticks_by : (regs : Registers) (none : Bool) → (regs.coalescing.counter == 0) ≡ none → regs.coalescing.timer ≡ 0 → regs.coalescing.timeout ≡ 1
    → regs.status_enable ≡ 2 → ticked_in regs ≡ cond none regs (tick_regs regs)
ticks_by regs true e timer timeout on =
    ap (λ b. cond b regs (noticed_if (with_coalescing regs (ticked regs.coalescing)) (reaches (ticked regs.coalescing).timer (ticked regs.coalescing).timeout))) e
ticks_by regs false e timer timeout on =
    let c : Coalescing = regs.coalescing in
    let done : ℕ → Registers = λ n. record regs { coalescing = record c { timer = n } } in
    let told : Bool → Registers → Registers =
    λ due r. cond due (record (raised r task_complete) { coalescing = restarted r.coalescing }) r in
    let on_bit : has_bit regs.status_enable 1 ≡ true = ap (λ word. has_bit word 1) on in
    ap (λ b. cond b regs (noticed_if (with_coalescing regs (cond b c (record c { timer = one_more c.timer })))
    (reaches (cond b c (record c { timer = one_more c.timer })).timer (cond b c (record c { timer = one_more c.timer })).timeout))) e
    ∙ ap (λ n. told (reaches n c.timeout && has_bit regs.status_enable 1) (done n)) (ap one_more timer)
    ∙ ap (λ n. told (reaches 1 n && has_bit regs.status_enable 1) (done 1)) timeout
    ∙ ap (λ b. told (true && b) (done 1)) on_bit
    ∙ ap (λ n. record regs { interrupts = bit_or regs.interrupts (bit_and 2 regs.status_enable); coalescing = record c { counter = 0; timer = n } }) (sym timer)

-- the timer stands at 0
abbrev no_time : ℕ
no_time = 0

timer_if : (b : Bool) → cond b no_time no_time ≡ no_time
timer_if true = refl
timer_if false = refl

pub timer_none : (p : PathState) → AreTied p → p.regs.coalescing.timer ≡ 0
timer_none p t = ap (λ r. r.coalescing.timer) t.regs.same ∙ timer_if (has_bit (coalescing_word (plan_of p).coalesce) 16)

some_counted : (counter most : ℕ) → counter ≤ most → (counter == 0) ≡ false → (most == 0) ≡ false
some_counted counter most h e = grind (arith, nat_tests, e)

-- what a tick leaves
pub ticked_is : (p : PathState) → AreTied p → ticked_in p.regs ≡ cond (p.regs.coalescing.counter == 0) p.regs (tick_regs p.regs)
ticked_is p t = by_count (p.regs.coalescing.counter == 0) refl
  where
    by_count : (none : Bool) → (p.regs.coalescing.counter == 0) ≡ none → ticked_in p.regs ≡ cond none p.regs (tick_regs p.regs)
    by_count true e =
        ap (λ b. cond b p.regs (noticed_if (with_coalescing p.regs (ticked p.regs.coalescing))
        (reaches (ticked p.regs.coalescing).timer (ticked p.regs.coalescing).timeout))) e
    by_count false e =
        ticks_by p.regs false e (timer_none p t)
        (ap (λ r. r.coalescing.timeout) t.regs.same
        ∙ timeout_by (plan_of p).coalesce ((plan_of p).coalesce == 0) refl (some_counted p.regs.coalescing.counter (plan_of p).coalesce t.regs.counted e))
        (ap (λ r. r.status_enable) t.regs.same)

free_by : (p : PathState) (state : RecoveryState) → p.driver.recovery ≡ state → IsAt state p.regs → (p.regs.halted ≡ true → ⊥) → is_free state ≡ false
free_by p driver.Calm e at runs = refl
free_by p driver.Halted e at runs = absurd (runs at)
free_by p driver.Cleared e at runs = absurd (runs at.halted)
free_by p driver.Discarded e at runs = absurd (runs at.halted)
free_by p driver.Cleaned e at runs = refl
free_by p driver.Resumed e at runs = refl

-- the timer ticks where the engine runs, so that the interrupt status is not free
pub tick_runs : (p : PathState) → AreTied p → IsDue (remembered p.engine.held p.regs) p.regs p.memory Tick → is_free p.driver.recovery ≡ false
tick_runs p t is =
    let off = ((tick_exactly (remembered p.engine.held p.regs) p.regs p.memory Tick t.regs.ring is).0 refl).0 in
    free_by p p.driver.recovery refl t.recovery_at (halted_if (has_bit p.regs.configuration 0) p.regs.halted p.regs.stopped off)

-- A tick of the timer after which nothing is counted, and what the engine does at all.
use Rattle.std.proofs.Common.{◌≡◌, ◌⊎◌, ◌<◌, ◌≤◌, ◌+◌, ◌*◌, ◌==◌, ◌&&◌, ◌||◌, ℕ, refl, sym, ◌∙◌, ap, subst, arith, Bool, true, false, [], inl, inr}
use Rattle.std.specs.Prelude.{cond, nat_le, not, Option}
use Rattle.std.specs.Int.{bit_at}
use Rattle.std.proofs.lemmas.Bool.{eqb-true, false≢true}
use Rattle.array_edge.specs.Array.{ArrayState}
use Rattle.card_core.specs.declared.phase.Phase.{Phase}
use Rattle.card_link.specs.Behind.{Behind, behind}
use Rattle.card_link.specs.Made.{CardMade}
use Rattle.cq_engine.proofs.SlotLaws.{ticks}
use Rattle.cq_engine.specs.Event.{Does}
use Rattle.cq_engine.specs.Outcome.{Outcome}
use Rattle.cq_engine.specs.declared.did.Did.{Did}
use Rattle.cq_regs.specs.Coalesce.{ic_written, one_more, reaches, restarted}
use Rattle.cq_regs.specs.Effects.{at_reset, noticed_if, raised, task_complete, ticked_in, with_coalescing}
use Rattle.cq_regs.specs.Slots.{has_bit}
use Rattle.cq_regs.specs.State.{Registers}
use Rattle.cq_regs.specs.declared.coalesce.Coalescing.{Coalescing}
use Rattle.cq_schedule.proofs.Idle.{idle_exactly, tick_exactly}
use Rattle.cq_schedule.specs.Held.{remembered}
use Rattle.cq_schedule.specs.Meaning.{rests}
use Rattle.cq_schedule.specs.declared.rules.Due.{Due}
use Rattle.cq_schedule.specs.declared.rules.Due.TheVariants.{Rest, Tick}
use Rattle.cq_words.specs.Fields.{field_of}
use Rattle.drv_core.specs.SetUp.{configuration_word}
use Rattle.drv_core.specs.Work.{has_work}
use Rattle.world_state.specs.Engine.{EngineEvent}
use Rattle.world_state.specs.Path.{PathState, behind_path, is_busy, plan_of}
use Rattle.world_state.specs.Ties.{AreTied}
use Rattle.world_state.specs.Work.{issued, left_on_path, ticks_left, waiting}
use Rattle.fall_laws.proofs.Engines.{IsRunning, Leaves, goes_falls, quiet_waits}
use Rattle.host_falls.proofs.Hosting.{same_hits, same_words}
use Rattle.host_falls.proofs.Recovering.{idle_work}
use Rattle.fall_laws.proofs.Waiting.{counts}

-- the engine doesn't rest
enabled : (wide : Bool) → has_bit (configuration_word wide) 0 ≡ true
enabled true = refl
enabled false = refl

pub runs_on : (p : PathState) → AreTied p → p.regs.halted ≡ false → p.regs.stopped ≡ false → rests p.regs ≡ false
runs_on p t halted running =
    let on : has_bit p.regs.configuration 0 ≡ true = ap (λ (r : Registers). has_bit r.configuration 0) t.regs.same ∙ enabled (plan_of p).wide in
    ap (λ b. not b || (p.regs.halted || p.regs.stopped)) on ∙ ap (λ b. b || p.regs.stopped) halted ∙ running

-- the timeout of a run is a tick
timeout_field : (threshold : ℕ) → field_of (0x8000_8081 + 0x100 * threshold) 0 7 ≡ 1
unfolding field_of
timeout_field threshold = omega arith

timeout_bit : (threshold : ℕ) → has_bit (0x8000_8081 + 0x100 * threshold) 7 ≡ true
timeout_bit threshold = let e : bit_at (0x8000_8081 + 0x100 * threshold) 7 ≡ 1 = omega arith in ap (λ n. n == 1) e

timeout_by : (threshold : ℕ) (none : Bool) → (threshold == 0) ≡ none → 0 < threshold
    → (ic_written at_reset.coalescing (cond none 0 (0x8000_8081 + 0x100 * threshold))).timeout ≡ 1
timeout_by threshold true e some = let none = eqb-true threshold 0 e in absurd (omega (arith, none, some))
timeout_by threshold false e some =
    ap (λ b. cond b (field_of (0x8000_8081 + 0x100 * threshold) 0 7) 0) (timeout_bit threshold) ∙ timeout_field threshold

-- the counter begins anew where the timer is due
restarts : (regs : Registers) (c : Coalescing) (due : Bool) → due ≡ true → (cond due (record (raised (with_coalescing regs c) task_complete) { coalescing = restarted c }) (with_coalescing regs c)).coalescing.counter ≡ 0
restarts regs c true e = refl
restarts regs c false e = absurd (false≢true e)

reaches_one : (n timeout : ℕ) → timeout ≡ 1 → reaches (one_more n) timeout ≡ true
reaches_one n timeout e = ap (reaches (one_more n)) e ∙ one_at (one_more n) (omega arith)
  where
    one_at : (n : ℕ) → 1 ≤ n → nat_le 1 n ≡ true
    one_at n h = grind (arith, h)

ticked_none : (regs : Registers) (none : Bool) → (regs.coalescing.counter == 0) ≡ none → 0 < regs.coalescing.counter → regs.coalescing.timeout ≡ 1 → regs.status_enable ≡ 2
    → (cond none regs (noticed_if (with_coalescing regs (cond none regs.coalescing (record regs.coalescing { timer = one_more regs.coalescing.timer })))
    (reaches (cond none regs.coalescing (record regs.coalescing { timer = one_more regs.coalescing.timer })).timer
    (cond none regs.coalescing (record regs.coalescing { timer = one_more regs.coalescing.timer })).timeout))).coalescing.counter ≡ 0
ticked_none regs true e some timeout on = let none = eqb-true regs.coalescing.counter 0 e in absurd (omega (arith, none, some))
ticked_none regs false e some timeout on =
    let due : (reaches (one_more regs.coalescing.timer) regs.coalescing.timeout && has_bit regs.status_enable 1) ≡ true =
    ap (λ b. b && has_bit regs.status_enable 1) (reaches_one regs.coalescing.timer regs.coalescing.timeout timeout) ∙ ap (λ n. has_bit n 1) on in
    restarts regs (record regs.coalescing { timer = one_more regs.coalescing.timer })
    (reaches (one_more regs.coalescing.timer) regs.coalescing.timeout && has_bit regs.status_enable 1) due

pub none_counted : (p : PathState) → AreTied p → 0 < p.regs.coalescing.counter → (ticked_in p.regs).coalescing.counter ≡ 0
none_counted p t some =
    let most = t.regs.counted in
    let timeout : p.regs.coalescing.timeout ≡ 1 =
    ap (λ (r : Registers). r.coalescing.timeout) t.regs.same ∙ timeout_by (plan_of p).coalesce ((plan_of p).coalesce == 0) refl (omega (arith, some, most)) in
    ticked_none p.regs (p.regs.coalescing.counter == 0) refl some timeout (ap (λ (r : Registers). r.status_enable) t.regs.same)

-- nothing was due but a tick
pub tick_falls : (p p' : PathState) (a a' : ArrayState) (did : Did) (phase : Option Phase) (e : EngineEvent p a p' a' did phase) → IsRunning p p' → AreTied p → AreTied p'
    → Leaves p p' did e.event.left → has_work p.driver p.regs ≡ false → 1 ≤ waiting p + issued p → (e.event.acts.due ≡ Rest) ⊎ (e.event.acts.due ≡ Tick)
    → left_on_path p' < left_on_path p
tick_falls p p' a a' did phase e r t t' l idle some still =
    let held = remembered p.engine.held p.regs in
    let on = runs_on p t (t.calm r.calm) r.running in
    let ring : p.regs.ring ≡ [] = elim ((idle_exactly held p.regs p.memory e.event.acts.due t.regs.ring e.event.acts.is_due).0 still) [
      | inl off ↦ absurd (false≢true (sym on ∙ off))
      | inr none ↦ none
    ] in
    let due = (tick_exactly held p.regs p.memory e.event.acts.due t.regs.ring e.event.acts.is_due).1 (on, ring) in
    let P : Due → Type 0 = λ d. Does CardMade (behind_path p a) (behind e.card a' p'.script) (record { held = held; regs = p.regs }) p.memory p'.memory (record { did = did; host = e.event.left }) d in
    let does = subst P due e.event.acts.does in
    let link = does.0.link in
    let outcome = does.0.outcome in
    let regs : p'.regs ≡ ticked_in p.regs = l.registers ∙ ap (λ (o : Outcome). o.host.regs) outcome in
    let script : p'.script ≡ p.script = ap (λ (b : Behind). b.script) link in
    let card : e.card ≡ p.card = ap (λ (b : Behind). b.card) link in
    let same = ticks p.regs in
    let running : p'.regs.stopped ≡ false = ap (λ (r : Registers). r.stopped) regs ∙ same.stopped ∙ r.running in
    let ring' : p'.regs.ring ≡ [] = ap (λ (r : Registers). r.ring) regs ∙ same.ring ∙ ring in
    let counted = counts p t r.calm r.running idle ring some in
    let clear : p'.regs.coalescing.counter ≡ 0 = subst (λ (r : Registers). r.coalescing.counter ≡ 0) (sym regs) (none_counted p t counted) in
    let none : ticks_left p'.regs ≡ 0 = ap (λ n. cond (n == 0) 0 1) clear in
    let one : ticks_left p.regs ≡ 1 = one_of p.regs.coalescing.counter counted in
    let work' = idle_work p' ring' in
    let words = same_words p p' script in
    let hits = same_hits p p' script in
    let quiet = quiet_waits p p' e.card (is_busy p') refl t t' e.left card script in
    goes_falls p p' r running (omega (arith, words)) (omega (arith, hits, quiet)) (omega (arith, none, one, work')) (omega (arith, words, none, one, work'))
  where
    one_of : (n : ℕ) → 0 < n → ◌≡◌ {A = ℕ} (cond (n == 0) 0 1) 1
    one_of n some = by (n == 0) refl
      where
        by : (b : Bool) → (n == 0) ≡ b → ◌≡◌ {A = ℕ} (cond b 0 1) 1
        by true e = let none = eqb-true n 0 e in absurd (omega (arith, none, some))
        by false e = refl

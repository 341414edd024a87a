-- Whatever event comes, no more is left to do after it.
use Rattle.std.proofs.Common.{◌≡◌, ◌⊎◌, ◌≤◌, ◌+◌, ◌-◌, ◌*◌, ◌==◌, ◌||◌, ℕ, refl, sym, ◌∙◌, ap, subst, arith, Bool, true, false, [], inl, inr}
use Rattle.std.specs.Prelude.{cond, is_some, not, Option, None}
use Rattle.std.specs.Option.{option_or}
use Rattle.std.proofs.lemmas.Bool.{false≢true}
use Rattle.storage_machine.specs.declared.state.Stop.TheVariants as stop
use Rattle.array_edge.specs.Array.{ArrayState}
use Rattle.bus_link.specs.declared.link.Cause.{Cause}
use Rattle.card_core.specs.Card.{CardState}
use Rattle.card_core.specs.declared.phase.Phase.{Phase}
use Rattle.card_link.specs.Behind.{Behind, behind}
use Rattle.card_link.specs.Made.{CardMade}
use Rattle.cq_engine.proofs.Places.{length-remembered}
use Rattle.cq_engine.proofs.SlotLaws.{ticks}
use Rattle.cq_engine.specs.Event.{Does}
use Rattle.cq_engine.specs.Outcome.{Holding, Host, Outcome, stop_of as cause_in}
use Rattle.cq_engine.specs.declared.did.Did.{Did}
use Rattle.cq_regs.specs.Effects.{ticked_in}
use Rattle.cq_regs.specs.Slots.{has_bit}
use Rattle.cq_regs.specs.State.{Registers}
use Rattle.cq_regs.specs.declared.slots.Progress.TheVariants.{Active}
use Rattle.cq_schedule.proofs.Idle.{idle_exactly}
use Rattle.cq_schedule.specs.Held.{remembered}
use Rattle.cq_schedule.specs.Meaning.{rests}
use Rattle.cq_schedule.specs.Order.{first_at}
use Rattle.cq_schedule.specs.declared.rules.Due.{Due}
use Rattle.cq_schedule.specs.declared.rules.Due.TheVariants.{Rest, Tick}
use Rattle.drv_core.specs.State.{DriverState, is_recovering}
use Rattle.drv_recover.specs.Recovery.{IsAt}
use Rattle.drv_recover.specs.declared.recovery.RecoveryState.{RecoveryState}
use Rattle.drv_recover.specs.declared.recovery.RecoveryState.TheVariants as driver
use Rattle.world_state.specs.Engine.{EngineEvent}
use Rattle.world_state.specs.Path.{PathState, behind_path, is_busy}
use Rattle.world_state.specs.Reading.{stop_by, stop_of}
use Rattle.world_state.specs.Ties.{AreTied}
use Rattle.world_state.specs.Work.{doomed, hit_waits, hits_left, issued, left_on_path, recovery_left, stop_left, ticks_left, unanswered, waiting, work_left}
use Rattle.fall_laws.specs.Falls.{IsEnding}
use Rattle.fall_laws.proofs.Coming.{Comes, active_some, comes, is_phase}
use Rattle.fall_laws.proofs.Coming.Comes.{Called, Dropped, Rests, Polls}
use Rattle.fall_laws.proofs.Engines.{IsRunning, Leaves, called_falls, dropped_falls, host_of, quiet_waits, work_after}
use Rattle.host_falls.proofs.Dooms.{doom, doomed_cause}
use Rattle.host_falls.proofs.Hosting.{same_hits, same_words}
use Rattle.host_falls.proofs.Numbers.{left_is, words_left}
use Rattle.fall_laws.proofs.Polls.{poll_falls}
use Rattle.host_falls.proofs.Requests.{number_issued, number_waiting}
use Rattle.fall_laws.proofs.Slots.{remembered_most, tasks_left}

-- an event of the engine in which nothing is due
pub record RestsSo (regs regs' : Registers) : Type 0 where
  ring : regs'.ring ≡ regs.ring
  stopped : regs'.stopped ≡ regs.stopped
  ticks : ticks_left regs' ≤ ticks_left regs

ticks_by : (n : ℕ) (regs' : Registers) (none : Bool) → (n == 0) ≡ none → (none ≡ true → regs'.coalescing.counter ≡ n)
    → cond (regs'.coalescing.counter == 0) 0 1 ≤ cond (n == 0) 0 1
ticks_by n regs' true e same =
    let now : ◌≡◌ {A = ℕ} (cond (regs'.coalescing.counter == 0) 0 1) (cond (n == 0) 0 1) = ap (λ k. cond (k == 0) 0 1) (same refl) in
    omega (arith, now)
ticks_by n regs' false e same =
    let was : ◌≡◌ {A = ℕ} (cond (n == 0) 0 1) 1 = ap (λ b. cond b 0 1) e in
    let most = one_most (regs'.coalescing.counter == 0) in
    omega (arith, was, most)
  where
    one_most : (b : Bool) → cond b 0 1 ≤ 1
    one_most true = omega arith
    one_most false = omega arith

stays_if : (regs after : Registers) (none : Bool) → none ≡ true → (cond none regs after).coalescing.counter ≡ regs.coalescing.counter
stays_if regs after true e = refl
stays_if regs after false e = absurd (false≢true e)

rests_numbers : (u h r w k k' s b b' t t' : ℕ) → k' ≤ k → b' ≤ b → t' ≤ t
    → 12800200 * (u + h) + r + 200000 * w + 3 * k' + s + b' + t' ≤ 12800200 * (u + h) + r + 200000 * w + 3 * k + s + b + t
rests_numbers u h r w k k' s b b' t t' work waits ticks = omega (arith, work, waits, ticks)

most_by : (p p' : PathState)
    → unanswered p' ≡ unanswered p → hits_left p' ≡ hits_left p → words_left p' ≡ words_left p → waiting p' ≡ waiting p → stop_left p' ≡ stop_left p
    → work_left p' ≤ work_left p → hit_waits p' ≤ hit_waits p → ticks_left p'.regs ≤ ticks_left p.regs → left_on_path p' ≤ left_on_path p
most_by p p' answers hits words waits stops work waited ticks =
    rw (left_is p, left_is p', answers, hits, words, waits, stops)
    (rests_numbers (unanswered p) (hits_left p) (words_left p) (waiting p) (work_left p) (work_left p') (stop_left p) (hit_waits p) (hit_waits p') (ticks_left p.regs) (ticks_left p'.regs)
    work waited ticks)

-- the request that a stop dooms is the same one
doomed_is : (p : PathState) → doomed (stop_of p) ≡ cond (is_recovering p.driver.recovery) 0 (cond p.regs.stopped (doom p.engine.cause p.driver.requests.holders) 0)
doomed_is p = by (is_recovering p.driver.recovery) p.regs.stopped
  where
    by : (r s : Bool) → doomed (cond r stop.Running (cond s (stop_by p p.engine.cause) stop.Running)) ≡ cond r 0 (cond s (doom p.engine.cause p.driver.requests.holders) 0)
    by true s = refl
    by false true = doomed_cause p p.engine.cause
    by false false = refl

idles_most : (p p' : PathState) → p'.driver ≡ p.driver → p'.engine.cause ≡ p.engine.cause → p'.script ≡ p.script → RestsSo p.regs p'.regs
    → work_left p' ≤ work_left p → hit_waits p' ≤ hit_waits p → left_on_path p' ≤ left_on_path p
idles_most p p' host cause script so work waited =
    let doomed_by : DriverState → Bool → Option Cause → ℕ = λ d s c. cond (is_recovering d.recovery) 0 (cond s (doom c d.requests.holders) 0) in
    let same : doomed (stop_of p') ≡ doomed (stop_of p) =
    doomed_is p' ∙ ap (λ d. doomed_by d p'.regs.stopped p'.engine.cause) host ∙ ap (λ s. doomed_by p.driver s p'.engine.cause) so.stopped
    ∙ ap (λ c. doomed_by p.driver p.regs.stopped c) cause ∙ sym (doomed_is p) in
    let answers : unanswered p' ≡ unanswered p =
    ap (λ (d : DriverState). number_waiting d.requests.waiting + number_issued d.requests.holders - doomed (stop_of p')) host ∙ ap (λ n. waiting p + issued p - n) same in
    let stop_by_parts : DriverState → Bool → ℕ = λ d s. cond (is_recovering d.recovery) (200000 * number_issued d.requests.holders + recovery_left d.recovery) (cond s 6400100 0) in
    let stops : stop_left p' ≡ stop_left p = ap (λ d. stop_by_parts d p'.regs.stopped) host ∙ ap (λ s. stop_by_parts p.driver s) so.stopped in
    most_by p p' answers (same_hits p p' script) (same_words p p' script) (ap (λ (d : DriverState). number_waiting d.requests.waiting) host) stops work waited so.ticks

ticked_so : (regs : Registers) → RestsSo regs (ticked_in regs)
ticked_so regs = record {
  ring = (ticks regs).ring;
  stopped = (ticks regs).stopped;
  ticks = ticks_by regs.coalescing.counter (ticked_in regs) (regs.coalescing.counter == 0) refl (λ none. stays_if regs _ (regs.coalescing.counter == 0) none);
}

along_rests : (regs left regs' : Registers) → regs' ≡ left → RestsSo regs left → RestsSo regs regs'
along_rests regs left regs' e so = let P : Registers → Type 0 = λ r. RestsSo regs r in subst P (sym e) so

-- what nothing due leaves
pub record LeftSo (p : PathState) (left : Host) : Type 0 where
  held : left.held ≡ remembered p.engine.held p.regs
  regs : RestsSo p.regs left.regs

pub left_so : (p p' : PathState) (a a' : ArrayState) (card : CardState) (did : Did) (left : Host) (due : Due)
    → Does CardMade (behind_path p a) (behind card a' p'.script) (host_of p) p.memory p'.memory (record { did = did; host = left }) due → (due ≡ Rest) ⊎ (due ≡ Tick)
    → LeftSo p left × (behind card a' p'.script ≡ behind_path p a) × (cause_in did ≡ None)
left_so p p' a a' card did left due does (inl rest) =
    let P : Due → Type 0 = λ d. Does CardMade (behind_path p a) (behind card a' p'.script) (host_of p) p.memory p'.memory (record { did = did; host = left }) d in
    let d = subst P rest does in
    let e = d.0.outcome in (
      record {
        held = ap (λ (o : Outcome). o.host.held) e;
        regs = along_rests p.regs p.regs left.regs (ap (λ (o : Outcome). o.host.regs) e) (record { ring = refl; stopped = refl; ticks = omega arith });
      },
      d.0.link,
      ap (λ (o : Outcome). cause_in o.did) e,
    )
left_so p p' a a' card did left due does (inr tick) =
    let P : Due → Type 0 = λ d. Does CardMade (behind_path p a) (behind card a' p'.script) (host_of p) p.memory p'.memory (record { did = did; host = left }) d in
    let d = subst P tick does in
    let e = d.0.outcome in (
      record {
        held = ap (λ (o : Outcome). o.host.held) e;
        regs = along_rests p.regs (ticked_in p.regs) left.regs (ap (λ (o : Outcome). o.host.regs) e) (ticked_so p.regs);
      },
      d.0.link,
      ap (λ (o : Outcome). cause_in o.did) e,
    )

still_most : (p p' : PathState) (a a' : ArrayState) (did : Did) (phase : Option Phase) (e : EngineEvent p a p' a' did phase) → AreTied p → AreTied p'
    → Leaves p p' did e.event.left → (e.event.acts.due ≡ Rest) ⊎ (e.event.acts.due ≡ Tick) → left_on_path p' ≤ left_on_path p
still_most p p' a a' did phase e t t' l still =
    let s = left_so p p' a a' e.card did e.event.left e.event.acts.due e.event.acts.does still in
    let script : p'.script ≡ p.script = ap (λ (b : Behind). b.script) s.1 in
    let card : e.card ≡ p.card = ap (λ (b : Behind). b.card) s.1 in
    let after = work_after p p' did e.event.left l in
    let before = remembered_most p.engine.held p.regs in
    let same : tasks_left e.event.left.held e.event.left.regs.ring ≡ tasks_left (remembered p.engine.held p.regs) p.regs.ring =
    ap (λ h. tasks_left h e.event.left.regs.ring) s.0.held ∙ ap (λ r. tasks_left (remembered p.engine.held p.regs) r) s.0.regs.ring in
    idles_most p p' e.driver (l.cause ∙ ap (λ c. option_or c p.engine.cause) s.2) script (along_rests p.regs e.event.left.regs p'.regs l.registers s.0.regs)
    (omega (arith, after, before, same)) (quiet_waits p p' e.card (is_busy p') refl t t' e.left card script)

-- the engine rests but where the driver is calm and the engine hasn't stopped
rests_by : (enabled halted stopped : Bool) → (halted ≡ true) ⊎ (stopped ≡ true) → (not enabled || (halted || stopped)) ≡ true
rests_by false halted stopped h = refl
rests_by true true stopped h = refl
rests_by true false true h = refl
rests_by true false false (inl e) = e
rests_by true false false (inr e) = e

off : (p : PathState) → (p.regs.halted ≡ true) ⊎ (p.regs.stopped ≡ true) → (rests p.regs ≡ true) ⊎ (p.regs.ring ≡ [])
off p h = inl (rests_by (has_bit p.regs.configuration 0) p.regs.halted p.regs.stopped h)

off_or_on : (p : PathState) (state : RecoveryState) (stopped : Bool) → p.driver.recovery ≡ state → p.regs.stopped ≡ stopped → IsAt state p.regs
    → ((rests p.regs ≡ true) ⊎ (p.regs.ring ≡ [])) ⊎ ((p.driver.recovery ≡ driver.Calm) × (p.regs.stopped ≡ false))
off_or_on p driver.Calm true is e at = inl (off p (inr e))
off_or_on p driver.Calm false is e at = inr (is, e)
off_or_on p driver.Halted stopped is e at = inl (off p (inl at))
off_or_on p driver.Cleared stopped is e at = inl (inr at.ring)
off_or_on p driver.Discarded stopped is e at = inl (inr at.ring)
off_or_on p driver.Cleaned stopped is e at = inl (inr at.cleared.ring)
off_or_on p driver.Resumed stopped is e at = inl (inr at.ring)

running_most : (p p' : PathState) (a a' : ArrayState) (did : Did) (phase : Option Phase) (e : EngineEvent p a p' a' did phase) → IsRunning p p' → AreTied p → AreTied p'
    → Leaves p p' did e.event.left → IsEnding did
    → Comes (host_of p) (behind_path p a) (behind e.card a' p'.script) (is_phase e.event.acts.due) (record { did = did; host = e.event.left }) e.event.acts.due
    → left_on_path p' ≤ left_on_path p
running_most p p' a a' did phase e r t t' l ending (Called struck shape charges) =
    let less = called_falls p p' did e.event.left struck (is_phase e.event.acts.due) r t' l ending
    (λ is. ap (λ b. is_some (cond b None (first_at Active p.regs.ring))) r.running
    ∙ active_some (remembered p.engine.held p.regs) p.regs p.memory e.event.acts.due e.event.acts.is_due is) charges shape in
    omega (arith, less)
running_most p p' a a' did phase e r t t' l ending (Dropped link stopped less) =
    let script : p'.script ≡ p.script = ap (λ (b : Behind). b.script) link in
    let falls = dropped_falls p p' did e.event.left r l (quiet_waits p p' e.card (is_busy p') refl t t' e.left (ap (λ (b : Behind). b.card) link) script) script stopped less in
    omega (arith, falls)
running_most p p' a a' did phase e r t t' l ending (Rests still) = still_most p p' a a' did phase e t t' l still
running_most p p' a a' did phase e r t t' l ending (Polls is) = let less = poll_falls p p' a a' did phase e r t t' l ending is in omega (arith, less)

pub engine_most : (p : PathState) (a : ArrayState) (p' : PathState) (a' : ArrayState) (did : Did) (phase : Option Phase) → EngineEvent p a p' a' did phase
    → AreTied p → AreTied p' → IsEnding did → left_on_path p' ≤ left_on_path p
engine_most p a p' a' did phase e t t' ending =
    let outcome : Outcome = record { did = did; host = e.event.left } in
    let l : Leaves p p' did e.event.left =
    record { registers = e.event.registers; held = ap (λ (h : Holding). h.held) e.event.keeps; cause = ap (λ (h : Holding). h.cause) e.event.keeps } in
    elim (off_or_on p p.driver.recovery p.regs.stopped refl refl t.recovery_at) [
      | inl idle ↦ still_most p p' a a' did phase e t t' l ((idle_exactly (remembered p.engine.held p.regs) p.regs p.memory e.event.acts.due t.regs.ring e.event.acts.is_due).1 idle)
      | inr on ↦
          running_most p p' a a' did phase e (record { host = e.driver; calm = on.0; running = on.1 }) t t' l ending
          (comes (behind_path p a) (behind e.card a' p'.script) (host_of p) p.memory p'.memory outcome e.event.acts.due (length-remembered p.engine.held p.regs) t.script
          e.event.acts.slot e.event.acts.does)
    ]

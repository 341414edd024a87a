-- The steps of a recovery, by what crosses the bus in each.
use Rattle.std.proofs.Common.{◌≡◌, ◌<◌, ◌+◌, ◌-◌, ◌*◌, ℕ, refl, ◌∙◌, ap, subst, arith, true, [], length}
use Rattle.std.specs.Prelude.{Result, Ok, Err}
use Rattle.std.proofs.lemmas.Bool.{false≢true}
use Rattle.array_edge.specs.Array.{ArrayState}
use Rattle.storage_model.specs.declared.faults.BusKind.{BusKind}
use Rattle.bus_link.specs.Hits.{raised}
use Rattle.bus_link.specs.Script.{Script}
use Rattle.bus_link.specs.declared.link.LinkEnd.{LinkEnd}
use Rattle.bus_link.specs.declared.link.LinkEnd.TheVariants.{Bus, Status, Dark as NoPower}
use Rattle.card_core.specs.Card.{blocks_of}
use Rattle.card_link.specs.Behind.{Behind}
use Rattle.card_link.specs.Made.{CardMade, Exchanges}
use Rattle.cq_regs.specs.State.{Registers}
use Rattle.drv_core.specs.Event.{requests_after}
use Rattle.drv_core.specs.State.{is_recovering}
use Rattle.drv_recover.specs.Recovery.{Event, IsAt, IsCleared, Silent, discard_queue, registers_after, state_after, told_by}
use Rattle.drv_recover.specs.declared.recovery.RecoveryState.{RecoveryState}
use Rattle.drv_recover.specs.declared.recovery.RecoveryState.TheVariants as driver
use Rattle.drv_recover.specs.declared.recovery.Step.{Step}
use Rattle.drv_recover.specs.declared.recovery.Step.TheVariants.{Moved, Discard, Again}
use Rattle.world_state.specs.Path.{PathState, behind_path}
use Rattle.world_state.specs.Ties.{IsScript}
use Rattle.world_state.specs.Work.{hits_left, left_on_path, recovery_left}
use Rattle.host_falls.proofs.Crossings.{Crosses, crosses, fewer_left, number_left, one_less_left}
use Rattle.host_falls.proofs.Numbers.{words_left}
use Rattle.host_falls.proofs.Recovering.{after_coalescing, crossed_words, discard_lit, over_falls, step_falls}

pub hits_crossed : (p p' : PathState) → p'.script.hits ≡ p.script.hits → p'.script.sent ≡ raised p.script.sent
    → hits_left p' ≡ number_left p.script.hits (raised p.script.sent)
hits_crossed p p' hits sent = ap (λ hits. number_left hits p'.script.sent) hits ∙ ap (λ n. number_left p.script.hits n) sent

-- a step in which nothing crosses
silent_falls : (p p' : PathState) (a a' : ArrayState) (state state' : RecoveryState) (step : Step)
    → p.driver.recovery ≡ state → p'.driver.recovery ≡ state' → is_recovering state ≡ true → is_recovering state' ≡ true
    → Silent (behind_path p a) (behind_path p' a') step Moved → p'.regs ≡ registers_after state p.regs
    → p'.driver.requests ≡ requests_after step p.driver.requests → p'.regs.ring ≡ [] → recovery_left state' < recovery_left state
    → left_on_path p' < left_on_path p
silent_falls p p' a a' state state' step before after recovering recovering' s regs requests ring less =
    let script : p'.script ≡ p.script = ap (λ (b : Behind). b.script) s.link in
    let hits : hits_left p' ≡ hits_left p = ap (λ (s : Script). number_left s.hits s.sent) script in
    step_falls p p' state state' (record {
      before = before;
      after = after;
      requests = requests ∙ ap (λ s. requests_after s p.driver.requests) s.told;
      ready =
          let same : words_left p' ≡ words_left p = ap (λ (s : Script). length s.ready - s.used) script in
          omega (arith, same);
      ring = ring;
      coalescing = ap (λ (r : Registers). r.coalescing) regs ∙ after_coalescing state p.regs;
    }) recovering recovering' (omega (arith, hits, less))

-- CMD48 crossed
crossed_falls : (p p' : PathState) (a a' : ArrayState) (state' : RecoveryState) (answer : Result ℕ LinkEnd)
    → p.driver.recovery ≡ driver.Cleared → p'.driver.recovery ≡ state' → is_recovering state' ≡ true
    → p'.driver.requests ≡ p.driver.requests → p'.regs ≡ p.regs → IsCleared p.regs → Crosses (behind_path p a) (behind_path p' a') discard_queue answer
    → 12800200 * hits_left p' + recovery_left state' < 12800200 * hits_left p + 5 → left_on_path p' < left_on_path p
crossed_falls p p' a a' state' answer before after recovering requests regs cleared c less =
    step_falls p p' driver.Cleared state' (record {
      before = before;
      after = after;
      requests = requests;
      ready = crossed_words p p' (behind_path p a) (behind_path p' a') discard_queue answer refl refl c;
      ring = ap (λ (r : Registers). r.ring) regs ∙ cleared.ring;
      coalescing = ap (λ (r : Registers). r.coalescing) regs;
    }) refl recovering less

discarded_falls : (p p' : PathState) (a a' : ArrayState) (step : Step) (answer : Result ℕ LinkEnd) → p.driver.recovery ≡ driver.Cleared
    → p'.driver.recovery ≡ state_after driver.Cleared step → p'.driver.requests ≡ requests_after step p.driver.requests → p'.regs ≡ p.regs
    → IsCleared p.regs → IsScript p.script → Exchanges discard_queue (behind_path p a) (behind_path p' a') answer → step ≡ Discard
    → left_on_path p' < left_on_path p
discarded_falls p p' a a' step answer before after requests regs cleared script e told =
    let c = crosses (behind_path p a) (behind_path p' a') discard_queue answer e in
    let now = hits_crossed p p' c.hits c.sent in
    let fewer = fewer_left p.script.hits p.script.sent script.sent in
    crossed_falls p p' a a' driver.Discarded answer before (after ∙ ap (state_after driver.Cleared) told) refl
    (requests ∙ ap (λ s. requests_after s p.driver.requests) told) regs cleared c (omega (arith, now, fewer))

again_falls : (p p' : PathState) (a a' : ArrayState) (step : Step) (kind : BusKind) (answer : Result ℕ LinkEnd) → p.driver.recovery ≡ driver.Cleared
    → p'.driver.recovery ≡ state_after driver.Cleared step → p'.driver.requests ≡ requests_after step p.driver.requests → p'.regs ≡ p.regs
    → IsCleared p.regs → IsScript p.script → Exchanges discard_queue (behind_path p a) (behind_path p' a') answer → answer ≡ Err (Bus kind)
    → step ≡ Again kind → left_on_path p' < left_on_path p
again_falls p p' a a' step kind answer before after requests regs cleared script e bus told =
    let c = crosses (behind_path p a) (behind_path p' a') discard_queue answer e in
    let now = hits_crossed p p' c.hits c.sent in
    let less = one_less_left p.script.hits p.script.sent discard_queue (blocks_of p.card discard_queue) script.small script.sent (c.fault kind bus) in
    crossed_falls p p' a a' driver.Cleared answer before (after ∙ ap (state_after driver.Cleared) told) refl
    (requests ∙ ap (λ s. requests_after s p.driver.requests) told) regs cleared c (omega (arith, now, less))

answered_falls : (p p' : PathState) (a a' : ArrayState) (step : Step) (answer : Result ℕ LinkEnd) → p.driver.recovery ≡ driver.Cleared
    → p'.driver.recovery ≡ state_after driver.Cleared step → p'.driver.requests ≡ requests_after step p.driver.requests → p'.regs ≡ p.regs
    → IsCleared p.regs → IsScript p.script → Exchanges discard_queue (behind_path p a) (behind_path p' a') answer → step ≡ told_by answer
    → left_on_path p' < left_on_path p
answered_falls p p' a a' step (Ok word) before after requests regs cleared script e told =
    discarded_falls p p' a a' step (Ok word) before after requests regs cleared script e told
answered_falls p p' a a' step (Err (Status word)) before after requests regs cleared script e told =
    discarded_falls p p' a a' step (Err (Status word)) before after requests regs cleared script e told
answered_falls p p' a a' step (Err (Bus kind)) before after requests regs cleared script e told =
    again_falls p p' a a' step kind (Err (Bus kind)) before after requests regs cleared script e refl told
answered_falls p p' a a' step (Err NoPower) before after requests regs cleared script e told =
    absurd (discard_lit (behind_path p a) (behind_path p' a') (Err NoPower) e refl)

pub recover_falls : (p p' : PathState) (a a' : ArrayState) (state : RecoveryState) (step : Step) → p.driver.recovery ≡ state → is_recovering state ≡ true
    → Event CardMade (behind_path p a) (behind_path p' a') state p'.driver.recovery p.regs p'.regs step
    → p'.driver.requests ≡ requests_after step p.driver.requests → IsScript p.script → IsAt state p.regs → IsAt p'.driver.recovery p'.regs
    → left_on_path p' < left_on_path p
recover_falls p p' a a' driver.Calm step is recovering e requests script at now = absurd (false≢true recovering)
recover_falls p p' a a' driver.Halted step is recovering e requests script at now =
    let P : RecoveryState → Type 0 = λ s. IsAt s p'.regs in
    let there : IsAt driver.Cleared p'.regs = subst P e.place now in
    silent_falls p p' a a' driver.Halted driver.Cleared step is e.place refl refl e.does e.registers requests there.ring (omega arith)
recover_falls p p' a a' driver.Cleared step is recovering e requests script at now =
    answered_falls p p' a a' step e.does.answer is e.place requests e.registers at script e.does.crossed e.does.told
recover_falls p p' a a' driver.Discarded step is recovering e requests script at now =
    let P : RecoveryState → Type 0 = λ s. IsAt s p'.regs in
    let there : IsAt driver.Cleaned p'.regs = subst P e.place now in
    silent_falls p p' a a' driver.Discarded driver.Cleaned step is e.place refl refl e.does e.registers requests there.cleared.ring (omega arith)
recover_falls p p' a a' driver.Cleaned step is recovering e requests script at now =
    let P : RecoveryState → Type 0 = λ s. IsAt s p'.regs in
    let there : IsAt driver.Resumed p'.regs = subst P e.place now in
    silent_falls p p' a a' driver.Cleaned driver.Resumed step is e.place refl refl e.does e.registers requests there.ring (omega arith)
recover_falls p p' a a' driver.Resumed step is recovering e requests script at now =
    over_falls p p' is e.place (requests ∙ ap (λ s. requests_after s p.driver.requests) e.does.told) (ap (λ (b : Behind). b.script) e.does.link)
    (ap (λ (r : Registers). r.ring) e.registers ∙ at.ring) (ap (λ (r : Registers). r.stopped) e.registers ∙ at.running)
    (ap (λ (r : Registers). r.coalescing) e.registers)

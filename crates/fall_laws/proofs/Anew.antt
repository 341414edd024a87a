-- A loss of power leaves no more to do.
use Rattle.std.proofs.Common.{◌≡◌, ◌⊎◌, ◌<◌, ◌≤◌, ◌+◌, ◌-◌, ◌*◌, ◌==◌, ℕ, refl, ◌∙◌, ap, arith, Bool, true, false, List, length, inl, inr}
use Rattle.std.specs.Prelude.{cond, nat_lt}
use Rattle.std.proofs.lemmas.Bool.{lt-ltb, ltb-true}
use Rattle.storage_machine.specs.declared.state.Stop.TheVariants as stop
use Rattle.storage_model.specs.declared.faults.Hit.{Hit}
use Rattle.drv_core.specs.State.{is_recovering}
use Rattle.world_state.specs.Path.{PathState}
use Rattle.world_state.specs.Reading.{stop_by, stop_of}
use Rattle.world_state.specs.Work.{doomed, hit_waits, hits_left, issued, left_on_path, recovery_left, stop_left, ticks_left, unanswered, waiting, work_left}
use Rattle.fall_laws.specs.Falls.{IsAnew}
use Rattle.host_falls.proofs.Crossings.{number_left}
use Rattle.host_falls.proofs.Dooms.{doomed_issued}
use Rattle.host_falls.proofs.Numbers.{left_is, words_left}
use Rattle.host_falls.proofs.Recovering.{all_unanswered, idle_way, idle_work, quiet_hit, running_stop, stop_calm}
use Rattle.host_falls.proofs.Requests.{none_issued, number_issued, number_waiting}
use Rattle.host_falls.proofs.Sums.{fewer}

later_left : (hits : List Hit) (sent sent' : ℕ) → sent ≤ sent' → number_left hits sent' ≤ number_left hits sent
later_left hits sent sent' later =
    fewer (λ (hit : Hit). nat_lt sent' hit.n) (λ (hit : Hit). nat_lt sent hit.n) hits
    (λ hit less. let low = ltb-true sent' hit.n less in lt-ltb sent hit.n (omega (arith, low, later)))

-- the measure of a path that was set up anew
anew_is : (p p' : PathState) → IsAnew p p' → left_on_path p' ≡ 12800200 * (waiting p + hits_left p') + words_left p' + 200000 * waiting p
anew_is p p' n =
    let waits : waiting p' ≡ waiting p = ap (λ q. number_waiting q.waiting) n.requests in
    let free : issued p' ≡ 0 = ap (λ q. number_issued q.holders) n.requests ∙ none_issued in
    let answers : unanswered p' ≡ waiting p' + issued p' = all_unanswered p' (running_stop p' n.running) in
    let work = idle_work p' n.ring in
    let hit = quiet_hit p' (idle_way p' n.ring) in
    let stops = stop_calm p' false n.calm n.running in
    let ticks : ticks_left p'.regs ≡ 0 = ap (λ k. cond (k == 0) 0 1) n.counted in
    left_is p' ∙ sum_is (unanswered p') (waiting p) (hits_left p') (words_left p') (waiting p') (work_left p') (stop_left p') (hit_waits p') (ticks_left p'.regs)
    (answers ∙ omega (arith, free, waits)) waits work stops hit ticks
  where
    sum_is : (u w h r w' k s b t : ℕ) → u ≡ w → w' ≡ w → k ≡ 0 → s ≡ 0 → b ≡ 0 → t ≡ 0
        → 12800200 * (u + h) + r + 200000 * w' + 3 * k + s + b + t ≡ 12800200 * (w + h) + r + 200000 * w
    sum_is u w h r w' k s b t eu ew ek es eb et = omega (arith, eu, ew, ek, es, eb, et)

-- a request is doomed only while the engine has stopped
doomed_stops : (p : PathState) → (doomed (stop_of p) ≡ 0) ⊎ (stop_left p ≡ 6400100)
doomed_stops p = by (is_recovering p.driver.recovery) p.regs.stopped
  where
    by : (r s : Bool) → (doomed (cond r stop.Running (cond s (stop_by p p.engine.cause) stop.Running)) ≡ 0)
        ⊎ (cond r (200000 * issued p + recovery_left p.driver.recovery) (cond s 6400100 0) ≡ 6400100)
    by true s = inl refl
    by false true = inr refl
    by false false = inl refl

anew_numbers : (w i d h h' r r' k s b t : ℕ) → d ≤ i → h' ≤ h → r' ≤ r
    → 12800200 * (w + h') + r' + 200000 * w ≤ 12800200 * ((w + i - d) + h) + r + 200000 * w + 3 * k + s + b + t
anew_numbers w i d h h' r r' k s b t most hits words = omega (arith, most, hits, words)

anew_less : (w i d h h' r r' k s b t : ℕ) → d ≤ i → h' ≤ h → r' ≤ r → 1 ≤ i → (d ≡ 0) ⊎ (s ≡ 6400100)
    → 12800200 * (w + h') + r' + 200000 * w < 12800200 * ((w + i - d) + h) + r + 200000 * w + 3 * k + s + b + t
anew_less w i d h h' r r' k s b t most hits words some (inl none) = omega (arith, most, hits, words, some, none)
anew_less w i d h h' r r' k s b t most hits words some (inr stops) = omega (arith, most, hits, words, some, stops)

hits_anew : (p p' : PathState) → IsAnew p p' → hits_left p' ≤ hits_left p
hits_anew p p' n =
    let same : hits_left p' ≡ number_left p.script.hits p'.script.sent = ap (λ hits. number_left hits p'.script.sent) n.script.hits in
    let less = later_left p.script.hits p.script.sent p'.script.sent n.script.sent in
    omega (arith, same, less)

words_anew : (p p' : PathState) → IsAnew p p' → words_left p' ≤ words_left p
words_anew p p' n =
    let ready : length p'.script.ready ≡ length p.script.ready = ap length n.script.ready in
    let used = n.script.used in
    omega (arith, ready, used)

pub anew_most : (p p' : PathState) → IsAnew p p' → left_on_path p' ≤ left_on_path p
anew_most p p' n =
    rw (anew_is p p' n, left_is p)
    (anew_numbers (waiting p) (issued p) (doomed (stop_of p)) (hits_left p) (hits_left p') (words_left p) (words_left p') (work_left p) (stop_left p) (hit_waits p)
    (ticks_left p.regs) (doomed_issued p) (hits_anew p p' n) (words_anew p p' n))

pub anew_falls : (p p' : PathState) → IsAnew p p' → 1 ≤ issued p → left_on_path p' < left_on_path p
anew_falls p p' n some =
    rw (anew_is p p' n, left_is p)
    (anew_less (waiting p) (issued p) (doomed (stop_of p)) (hits_left p) (hits_left p') (words_left p) (words_left p') (work_left p) (stop_left p) (hit_waits p)
    (ticks_left p.regs) (doomed_issued p) (hits_anew p p' n) (words_anew p p' n) some (doomed_stops p))

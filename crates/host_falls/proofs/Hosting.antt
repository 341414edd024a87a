-- Each event of the host that has work leaves less to do.
use Rattle.std.proofs.Common.{◌≡◌, ◌≢◌, ◌<◌, ◌≤◌, ◌+◌, ◌-◌, ◌*◌, ◌^◌, ◌==◌, ◌&&◌, ◌||◌, ℕ, refl, sym, ◌∙◌, ap, subst, arith, Bool, true, false, List, length, pow_mono}
use Rattle.std.specs.Prelude.{cond, is_ok, is_some, nat_eq, not, option_map, set, sum_by, Option, Some, None, Result, Ok, Err}
use Rattle.std.specs.Int.RustNames.{bit_and}
use Rattle.std.proofs.lemmas.Bool.{eqb-false, false≢true}
use Rattle.std.proofs.lemmas.Nat.Bits.{bit_at-pow_other}
use Rattle.array_edge.specs.Array.{ArrayState}
use Rattle.bus_link.specs.Script.{Script}
use Rattle.card_core.specs.declared.phase.Phase.{Phase}
use Rattle.card_link.specs.Behind.{Behind}
use Rattle.card_link.specs.Made.{CardMade}
use Rattle.cq_engine.specs.Outcome.{Holding}
use Rattle.cq_regs.proofs.ProgressLaws.{progress_rung}
use Rattle.cq_regs.specs.Effects.{halt_complete, raised}
use Rattle.cq_regs.specs.Slots.{IsRing, has_bit, is_rung, progress_of, rings, rung}
use Rattle.cq_regs.specs.State.{Registers}
use Rattle.cq_regs.specs.declared.slots.Progress.{Progress}
use Rattle.cq_regs.specs.declared.slots.Progress.TheVariants.{Rung, Active}
use Rattle.cq_regs.specs.declared.slots.Ringed.{Ringed}
use Rattle.cq_schedule.specs.Held.{Places, slots}
use Rattle.cq_schedule.specs.Order.{blocks_of, first_at, moved_of}
use Rattle.drv_core.specs.Event.{Collects, Does, Fails, Issues, Recovers, rung_for}
use Rattle.drv_core.specs.Judge.{judged}
use Rattle.drv_core.specs.State.{DriverState, is_recovering}
use Rattle.drv_core.specs.Work.{has_work, is_noticed, is_possible, work_of}
use Rattle.drv_core.specs.declared.act.Act.{Act}
use Rattle.drv_core.specs.declared.work.Work.TheVariants.{Collect, Fail, Issue}
use Rattle.drv_jobs.proofs.NextLaws.{due-is}
use Rattle.drv_jobs.proofs.SoundLaws.{due-below}
use Rattle.drv_jobs.specs.Changes.{freed_from}
use Rattle.drv_jobs.specs.Next.{due_of}
use Rattle.drv_jobs.specs.declared.next.Due.{Due}
use Rattle.drv_jobs.specs.declared.next.Hold.{Hold}
use Rattle.drv_recover.specs.Recovery.{Event as RecoveryEvent, IsAt, halted}
use Rattle.drv_recover.specs.declared.recovery.RecoveryState.{RecoveryState}
use Rattle.drv_recover.specs.declared.recovery.RecoveryState.TheVariants as driver
use Rattle.world_state.specs.Host.{HostEvent, cause_of, moment_of}
use Rattle.world_state.specs.Path.{PathState, behind_path, is_busy, moved, under_way}
use Rattle.world_state.specs.Reading.{stop_of}
use Rattle.world_state.specs.Ties.{AreTied}
use Rattle.world_state.specs.Work.{doomed, events_left, hit_waits, hits_left, issued, left_on_path, stop_cost, stop_left, ticks_left, unanswered, waiting, work_left}
use Rattle.host_falls.proofs.Crossings.{number_left}
use Rattle.host_falls.proofs.Dooms.{done_held, doom, doom_freed, doom_issued, doomed_calm, judge_most, judge_waits}
use Rattle.host_falls.proofs.Numbers.{falls_by, words_left}
use Rattle.host_falls.proofs.Recovering.{all_unanswered, quiet_hit, recovering_stop, running_stop, stop_calm, stop_recovering, stopped_way}
use Rattle.host_falls.proofs.Requests.{due_less, freed_less, issued_most, number_issued, number_waiting, some_bit}
use Rattle.host_falls.proofs.Steps.{recover_falls}
use Rattle.host_falls.proofs.Sums.{set_more, slots_more}

abbrev pub work_of_slots : Places → List Ringed → ℕ
work_of_slots held ring = sum_by (λ slot. events_left (progress_of ring slot) (blocks_of held slot) (moved_of held slot)) slots

pub same_work : (p p' : PathState) → p'.engine ≡ p.engine → p'.regs.ring ≡ p.regs.ring → work_left p' ≡ work_left p
same_work p p' engine ring =
    ap (λ (e : Holding). work_of_slots e.held p'.regs.ring) engine ∙ ap (λ ring. work_of_slots p.engine.held ring) ring

pub same_ticks : (p p' : PathState) → p'.regs.coalescing ≡ p.regs.coalescing → ticks_left p'.regs ≡ ticks_left p.regs
same_ticks p p' e = ap (λ c. cond (c.counter == 0) 0 1) e

pub same_hits : (p p' : PathState) → p'.script ≡ p.script → hits_left p' ≡ hits_left p
same_hits p p' e = ap (λ (s : Script). number_left s.hits s.sent) e

pub same_words : (p p' : PathState) → p'.script ≡ p.script → words_left p' ≡ words_left p
same_words p p' e = ap (λ (s : Script). length s.ready - s.used) e

-- a data phase is under way where the card tells of one
abbrev begun_by : ℕ → Option ℕ → Option Phase
begun_by moved way = option_map (λ tag. record { task = tag; count = moved; kept = false }) way

begun_some : (way : Option ℕ) (moved : ℕ) → is_some (begun_by moved way) ≡ is_some way
begun_some None moved = refl
begun_some (Some tag) moved = refl

pub busy_begun : (p : PathState) → AreTied p → is_busy p ≡ is_some p.card.begun
busy_begun p t =
    let told : p.card.begun ≡ begun_by (moved p) (under_way p) = t.begun in
    sym (ap is_some told ∙ begun_some (under_way p) (moved p))

pub same_waits : (p p' : PathState) → is_busy p' ≡ is_busy p → p'.script.hit ≡ p.script.hit → hit_waits p' ≡ hit_waits p
same_waits p p' busy hit =
    ap (λ h. cond (is_busy p' && is_some h) (stop_cost + 1) 0) hit ∙ ap (λ b. cond (b && is_some p.script.hit) (stop_cost + 1) 0) busy

-- the notified tasks are collected
collect_numbers : (w i i' d h r k s b t : ℕ) → i' + 1 ≤ i → d ≤ i'
    → 12800200 * ((w + i' - d) + h) + r + 200000 * w + 3 * k + s + b + t < 12800200 * ((w + i - d) + h) + r + 200000 * w + 3 * k + s + b + t
collect_numbers w i i' d h r k s b t less few = omega (arith, less, few)

collected_numbers : (p p' : PathState) → p.driver.recovery ≡ driver.Calm → p'.driver.recovery ≡ driver.Calm → p'.script ≡ p.script → p'.engine ≡ p.engine
    → p'.regs.ring ≡ p.regs.ring → p'.regs.stopped ≡ p.regs.stopped → p'.regs.coalescing ≡ p.regs.coalescing → waiting p' ≡ waiting p
    → (i' : ℕ) → issued p' ≡ i' → i' + 1 ≤ issued p → doomed (stop_of p') ≡ doomed (stop_of p) → doomed (stop_of p) ≤ i' → left_on_path p' < left_on_path p
collected_numbers p p' calm calm' script engine ring stopped coalescing waits i' is less same few =
    let d = doomed (stop_of p) in
    let now : unanswered p' ≡ waiting p + i' - d = ap (λ n. n + issued p' - doomed (stop_of p')) waits ∙ ap (λ n. waiting p + n - doomed (stop_of p')) is ∙ ap (λ n. waiting p + i' - n) same in
    let way : under_way p' ≡ under_way p = ap (λ b. cond b None (first_at Active p'.regs.ring)) stopped ∙ ap (λ r. cond p.regs.stopped None (first_at Active r)) ring in
    falls_by p p' (unanswered p + hits_left p) ((waiting p + i' - d) + hits_left p) (words_left p) (words_left p) (waiting p) (waiting p) (work_left p) (work_left p)
    (stop_left p) (stop_left p) (hit_waits p) (hit_waits p) (ticks_left p.regs) (ticks_left p.regs)
    refl (ap (λ n. n + hits_left p') now ∙ ap (λ n. (waiting p + i' - d) + n) (same_hits p p' script)) refl (same_words p p' script) refl waits refl (same_work p p' engine ring)
    refl (stop_calm p' p.regs.stopped calm' stopped ∙ sym (stop_calm p p.regs.stopped calm refl)) refl
    (same_waits p p' (ap is_some way) (ap (λ (s : Script). s.hit) script)) refl (same_ticks p p' coalescing)
    (collect_numbers (waiting p) (issued p) i' d (hits_left p) (words_left p) (work_left p) (stop_left p) (hit_waits p) (ticks_left p.regs) less few)

not_true : (b : Bool) → not b ≡ true → b ≡ false
not_true true e = absurd (false≢true e)
not_true false e = refl

both_first : (b c : Bool) → (b && c) ≡ true → b ≡ true
both_first true c e = refl
both_first false c e = absurd (false≢true e)

noticed_some : (regs : Registers) → is_noticed regs ≡ true → regs.completed ≢ 0
noticed_some regs e =
    eqb-false regs.completed 0 (not_true (regs.completed == 0) (both_first (not (regs.completed == 0)) (not (bit_and regs.interrupts regs.signal_enable == 0) || regs.stopped) e))

doom_cond : (stopped : Bool) (d i : ℕ) → d ≤ i → cond stopped d 0 ≤ i
doom_cond true d i h = h
doom_cond false d i h = omega arith

doom_same : (p : PathState) (stopped : Bool) → p.regs.stopped ≡ stopped → AreTied p → p.driver.recovery ≡ driver.Calm
    → cond stopped (doom p.engine.cause (freed_from p.regs.completed 0 p.driver.requests.holders)) 0 ≡ cond stopped (doom p.engine.cause p.driver.requests.holders) 0
doom_same p true is t calm =
    doom_freed p p.engine.cause t.regs.small (t.tags (ap is_recovering calm)) (t.names is)
doom_same p false is t calm = refl

collect_falls : (p p' : PathState) (a a' : ArrayState) (act : Act) → Collects (moment_of p a) (moment_of p' a') act → p'.engine ≡ p.engine → AreTied p
    → is_noticed p.regs ≡ true → p.driver.recovery ≡ driver.Calm → left_on_path p' < left_on_path p
collect_falls p p' a a' act c engine t noticed calm =
    let q = p.driver.requests in
    let holders = freed_from p.regs.completed 0 q.holders in
    let calm' : p'.driver.recovery ≡ driver.Calm = ap (λ (d : DriverState). d.recovery) c.driver ∙ calm in
    let script : p'.script ≡ p.script = ap (λ (b : Behind). b.script) c.aside.link in
    let bit = some_bit p.regs.completed 32 t.regs.small (noticed_some p.regs noticed) in
    let held = done_held p bit.slot (t.tags (ap is_recovering calm) bit.slot bit.below) bit.bit in
    let stopped : p'.regs.stopped ≡ p.regs.stopped = ap (λ (r : Registers). r.stopped) c.regs in
    let less : number_issued holders + 1 ≤ issued p =
    let at : 0 + bit.slot ≡ bit.slot = omega arith in
    let P : ℕ → Type 0 = λ n. has_bit p.regs.completed n ≡ true in
    freed_less p.regs.completed 0 q.holders bit.slot (subst P (sym at) bit.bit) held in
    let doom_now : doomed (stop_of p') ≡ cond p.regs.stopped (doom p.engine.cause holders) 0 =
    doomed_calm p' p.regs.stopped calm' stopped
    ∙ ap (λ (e : Holding). cond p.regs.stopped (doom e.cause p'.driver.requests.holders) 0) engine
    ∙ ap (λ (d : DriverState). cond p.regs.stopped (doom p.engine.cause d.requests.holders) 0) c.driver in
    let doom_was : doomed (stop_of p) ≡ cond p.regs.stopped (doom p.engine.cause holders) 0 =
    doomed_calm p p.regs.stopped calm refl ∙ sym (doom_same p p.regs.stopped refl t calm) in
    let few = doom_cond p.regs.stopped (doom p.engine.cause holders) (number_issued holders) (doom_issued p.engine.cause holders) in
    let Q : ℕ → Type 0 = λ n. n ≤ number_issued holders in
    collected_numbers p p' calm calm' script engine (ap (λ (r : Registers). r.ring) c.regs) stopped (ap (λ (r : Registers). r.coalescing) c.regs)
    (ap (λ (d : DriverState). number_waiting d.requests.waiting) c.driver) (number_issued holders) (ap (λ (d : DriverState). number_issued d.requests.holders) c.driver)
    less (doom_now ∙ sym doom_was) (subst Q (sym doom_was) few)

-- a stop is judged, and a recovery begins
record HaltsSo (regs regs' : Registers) : Type 0 where
  ring : regs'.ring ≡ regs.ring
  stopped : regs'.stopped ≡ regs.stopped
  coalescing : regs'.coalescing ≡ regs.coalescing

halts_by : (regs : Registers) (h : Bool) → HaltsSo regs (cond (not h) (raised (record regs { halted = true }) halt_complete) regs)
halts_by regs true = record { ring = refl; stopped = refl; coalescing = refl }
halts_by regs false = record { ring = refl; stopped = refl; coalescing = refl }

halts_so : (regs : Registers) → HaltsSo regs (halted regs)
halts_so regs = halts_by regs regs.halted

fail_numbers : (w i i' d h r k b t : ℕ) → i' + d ≤ i → i' ≤ 32
    → 12800200 * ((w + i') + h) + r + 200000 * w + 3 * k + (200000 * i' + 6) + 0 + t < 12800200 * ((w + i - d) + h) + r + 200000 * w + 3 * k + 6400100 + b + t
fail_numbers w i i' d h r k b t most small = omega (arith, most, small)

fail_falls : (p p' : PathState) (a a' : ArrayState) (act : Act) → Fails (moment_of p a) (moment_of p' a') (cause_of p) act → p'.engine ≡ p.engine → AreTied p
    → p.regs.stopped ≡ true → p.driver.recovery ≡ driver.Calm → left_on_path p' < left_on_path p
fail_falls p p' a a' act f engine t stopped calm =
    let q = p.driver.requests in
    let cause : cause_of p ≡ p.engine.cause = ap (λ b. cond b p.engine.cause None) stopped in
    let requests : p'.driver.requests ≡ (judged q p.engine.cause).requests = ap (λ (d : DriverState). d.requests) f.driver ∙ ap (λ c. (judged q c).requests) cause in
    let recovery : p'.driver.recovery ≡ driver.Halted = ap (λ (d : DriverState). d.recovery) f.driver in
    let script : p'.script ≡ p.script = ap (λ (b : Behind). b.script) f.aside.link in
    let so = halts_so p.regs in
    let i' = number_issued (judged q p.engine.cause).requests.holders in
    let d = doom p.engine.cause q.holders in
    let most : i' + d ≤ issued p = judge_most q p.engine.cause in
    let small : i' ≤ 32 = let all = issued_most q.holders in let size = t.sound.holders in omega (arith, most, all, size) in
    let waits : waiting p' ≡ waiting p = ap (λ s. number_waiting s.waiting) requests ∙ ap number_waiting (judge_waits q p.engine.cause) in
    let holds : issued p' ≡ i' = ap (λ s. number_issued s.holders) requests in
    let was : unanswered p ≡ waiting p + issued p - d = ap (λ n. waiting p + issued p - n) (doomed_calm p true calm stopped) in
    let now : unanswered p' ≡ waiting p + i' =
    all_unanswered p' (recovering_stop p' (ap is_recovering recovery)) ∙ ap (λ n. n + issued p') waits ∙ ap (λ n. waiting p + n) holds in
    let regs_stopped : p'.regs.stopped ≡ true = ap (λ (r : Registers). r.stopped) f.regs ∙ so.stopped ∙ stopped in
    falls_by p p' ((waiting p + issued p - d) + hits_left p) ((waiting p + i') + hits_left p) (words_left p) (words_left p) (waiting p) (waiting p) (work_left p) (work_left p)
    6400100 (200000 * i' + 6) (hit_waits p) 0 (ticks_left p.regs) (ticks_left p.regs)
    (ap (λ n. n + hits_left p) was) (ap (λ n. n + hits_left p') now ∙ ap (λ n. (waiting p + i') + n) (same_hits p p' script)) refl (same_words p p' script) refl waits refl
    (same_work p p' engine (ap (λ (r : Registers). r.ring) f.regs ∙ so.ring)) (stop_calm p true calm stopped)
    (stop_recovering p' driver.Halted recovery refl ∙ ap (λ n. 200000 * n + 6) holds) refl (quiet_hit p' (stopped_way p' regs_stopped)) refl
    (same_ticks p p' (ap (λ (r : Registers). r.coalescing) f.regs ∙ so.coalescing))
    (fail_numbers (waiting p) (issued p) i' d (hits_left p) (words_left p) (work_left p) (hit_waits p) (ticks_left p.regs) most small)

-- a request is issued
rung_more : (b : Bool) (p : Progress) (blocks moved : ℕ) → events_left (cond b Rung p) blocks moved ≤ events_left p blocks moved + 65540
rung_more true p blocks moved = omega arith
rung_more false p blocks moved = omega arith

rings_other : (ring : List Ringed) (tag slot : ℕ) → slot ≢ tag → rings ring (2 ^ tag) slot ≡ false
rings_other ring tag slot apart = ap (λ n. nat_eq n 1 && not (is_rung (progress_of ring slot))) (bit_at-pow_other tag slot apart)

pow_small : (tag : ℕ) → tag < 32 → 2 ^ tag < 2 ^ 32
pow_small tag below =
    let low : 2 ^ tag ≤ 2 ^ 31 = pow_mono {i = tag} {j = 31} (omega (arith, below)) in
    omega (arith, low)

work_rung : (held : Places) (ring : List Ringed) (tag : ℕ) → IsRing ring → tag < 32 → work_of_slots held (rung ring (2 ^ tag)) ≤ work_of_slots held ring + 65540
work_rung held ring tag is below =
    let small : 2 ^ tag < 2 ^ 32 = pow_small tag below in
    let at : (slot : ℕ) → progress_of (rung ring (2 ^ tag)) slot ≡ cond (rings ring (2 ^ tag) slot) Rung (progress_of ring slot) =
    λ slot. progress_rung ring (2 ^ tag) slot is small in
    let left : (ring : List Ringed) → ℕ → ℕ = λ ring slot. events_left (progress_of ring slot) (blocks_of held slot) (moved_of held slot) in
    slots_more (left (rung ring (2 ^ tag))) (left ring) tag 65540
    (λ slot within apart.
    let same : left (rung ring (2 ^ tag)) slot ≡ left ring slot =
    ap (λ p. events_left p (blocks_of held slot) (moved_of held slot)) (at slot ∙ ap (λ b. cond b Rung (progress_of ring slot)) (rings_other ring tag slot apart)) in
    omega (arith, same))
    (let same : left (rung ring (2 ^ tag)) tag ≡ events_left (cond (rings ring (2 ^ tag) tag) Rung (progress_of ring tag)) (blocks_of held tag) (moved_of held tag) =
    ap (λ p. events_left p (blocks_of held tag) (moved_of held tag)) (at tag) in
    let more = rung_more (rings ring (2 ^ tag) tag) (progress_of ring tag) (blocks_of held tag) (moved_of held tag) in
    omega (arith, same, more))

record BellsSo (held : Places) (regs regs' : Registers) : Type 0 where
  work : work_of_slots held regs'.ring ≤ work_of_slots held regs.ring + 65540
  stopped : regs'.stopped ≡ regs.stopped
  coalescing : regs'.coalescing ≡ regs.coalescing

bells_so : (held : Places) (regs : Registers) (tag : ℕ) (enabled : Bool) → IsRing regs.ring → tag < 32
    → BellsSo held regs (cond enabled (record regs { ring = rung regs.ring (2 ^ tag) }) regs)
bells_so held regs tag true is below = record { work = work_rung held regs.ring tag is below; stopped = refl; coalescing = refl }
bells_so held regs tag false is below = record { work = omega arith; stopped = refl; coalescing = refl }

issue_numbers : (w w' i i' h r k k' b t : ℕ) → w' + 1 ≡ w → i' ≤ i + 1 → k' ≤ k + 65540
    → 12800200 * ((w' + i') + h) + r + 200000 * w' + 3 * k' + 0 + b + t < 12800200 * ((w + i) + h) + r + 200000 * w + 3 * k + 0 + b + t
issue_numbers w w' i i' h r k k' b t less more work = omega (arith, less, more, work)

issue_falls : (p p' : PathState) (a a' : ArrayState) (act : Act) (due : Due) → Issues (moment_of p a) (moment_of p' a') act (Ok due)
    → due_of p.driver.requests ≡ Ok due → p'.engine ≡ p.engine → AreTied p → AreTied p' → p.regs.stopped ≡ false → p.driver.recovery ≡ driver.Calm
    → left_on_path p' < left_on_path p
issue_falls p p' a a' act due i is engine t t' running calm =
    let q = p.driver.requests in
    let w' = number_waiting (set q.waiting (due.id - 1) false) in
    let i' = number_issued (set q.holders due.tag (Some due.id)) in
    let so = bells_so p.engine.held p.regs due.tag (has_bit p.regs.configuration 0) t.regs.ring (due-below q due t.sound (due-is q due is)) in
    let script : p'.script ≡ p.script = ap (λ (b : Behind). b.script) i.link in
    let calm' : p'.driver.recovery ≡ driver.Calm = ap (λ (d : DriverState). d.recovery) i.driver ∙ calm in
    let running' : p'.regs.stopped ≡ false = ap (λ (r : Registers). r.stopped) i.regs ∙ so.stopped ∙ running in
    let waits : waiting p' ≡ w' = ap (λ (d : DriverState). number_waiting d.requests.waiting) i.driver in
    let holds : issued p' ≡ i' = ap (λ (d : DriverState). number_issued d.requests.holders) i.driver in
    let was : unanswered p ≡ waiting p + issued p = all_unanswered p (running_stop p running) in
    let now : unanswered p' ≡ w' + i' = all_unanswered p' (running_stop p' running') ∙ ap (λ n. n + issued p') waits ∙ ap (λ n. w' + n) holds in
    let work : work_left p' ≡ work_of_slots p.engine.held (rung_for p.regs (Ok due)).ring =
    ap (λ (e : Holding). work_of_slots e.held p'.regs.ring) engine ∙ ap (λ (r : Registers). work_of_slots p.engine.held r.ring) i.regs in
    let busy : is_busy p' ≡ is_busy p = busy_begun p' t' ∙ ap (λ (b : Behind). is_some b.card.begun) i.link ∙ sym (busy_begun p t) in
    falls_by p p' ((waiting p + issued p) + hits_left p) ((w' + i') + hits_left p) (words_left p) (words_left p) (waiting p) w' (work_left p)
    (work_of_slots p.engine.held (rung_for p.regs (Ok due)).ring) 0 0 (hit_waits p) (hit_waits p) (ticks_left p.regs) (ticks_left p.regs)
    (ap (λ n. n + hits_left p) was) (ap (λ n. n + hits_left p') now ∙ ap (λ n. (w' + i') + n) (same_hits p p' script)) refl (same_words p p' script) refl waits refl work
    (stop_calm p false calm running) (stop_calm p' false calm' running') refl (same_waits p p' busy (ap (λ (s : Script). s.hit) script)) refl
    (same_ticks p p' (ap (λ (r : Registers). r.coalescing) i.regs ∙ so.coalescing))
    (issue_numbers (waiting p) w' (issued p) i' (hits_left p) (words_left p) (work_left p) (work_of_slots p.engine.held (rung_for p.regs (Ok due)).ring) (hit_waits p) (ticks_left p.regs)
    (due_less q due is) (set_more is_some q.holders due.tag (Some due.id)) so.work)

issues_falls : (p p' : PathState) (a a' : ArrayState) (act : Act) (next : Result Due Hold) → due_of p.driver.requests ≡ next
    → Issues (moment_of p a) (moment_of p' a') act next → is_ok next ≡ true → p'.engine ≡ p.engine → AreTied p → AreTied p' → p.regs.stopped ≡ false
    → p.driver.recovery ≡ driver.Calm → left_on_path p' < left_on_path p
issues_falls p p' a a' act (Ok due) is i some engine t t' running calm = issue_falls p p' a a' act due i is engine t t' running calm
issues_falls p p' a a' act (Err hold) is i some engine t t' running calm = absurd (false≢true some)

-- whatever the host had to do
calm_falls : (p p' : PathState) (a a' : ArrayState) (act : Act) (noticed stopped : Bool) → is_noticed p.regs ≡ noticed → p.regs.stopped ≡ stopped
    → Does CardMade (moment_of p a) (moment_of p' a') (cause_of p) act (cond noticed Collect (cond stopped Fail Issue))
    → is_possible (cond noticed Collect (cond stopped Fail Issue)) p.driver.requests ≡ true → p'.engine ≡ p.engine → AreTied p → AreTied p'
    → p.driver.recovery ≡ driver.Calm → left_on_path p' < left_on_path p
calm_falls p p' a a' act true stopped noticed is does can engine t t' calm = collect_falls p p' a a' act does engine t noticed calm
calm_falls p p' a a' act false true noticed is does can engine t t' calm = fail_falls p p' a a' act does engine t is calm
calm_falls p p' a a' act false false noticed is does can engine t t' calm =
    issues_falls p p' a a' act (due_of p.driver.requests) refl does can engine t t' is calm

recovers_falls : (p p' : PathState) (a a' : ArrayState) (act : Act) (state : RecoveryState) → p.driver.recovery ≡ state → is_recovering state ≡ true
    → Recovers CardMade (moment_of p a) (moment_of p' a') act → AreTied p → AreTied p' → left_on_path p' < left_on_path p
recovers_falls p p' a a' act state is recovering r t t' =
    let P : RecoveryState → Type 0 = λ s. IsAt s p.regs in
    let Q : RecoveryState → Type 0 = λ s. RecoveryEvent CardMade (behind_path p a) (behind_path p' a') s p'.driver.recovery p.regs p'.regs r.step in
    recover_falls p p' a a' state r.step is recovering (subst Q is r.event) r.requests t.script (subst P is t.recovery_at) t'.recovery_at

by_state : (p p' : PathState) (a a' : ArrayState) (act : Act) (state : RecoveryState) → p.driver.recovery ≡ state
    → Does CardMade (moment_of p a) (moment_of p' a') (cause_of p) act (work_of state p.regs)
    → is_possible (work_of state p.regs) p.driver.requests ≡ true → p'.engine ≡ p.engine → AreTied p → AreTied p' → left_on_path p' < left_on_path p
by_state p p' a a' act driver.Calm is does can engine t t' = calm_falls p p' a a' act (is_noticed p.regs) p.regs.stopped refl refl does can engine t t' is
by_state p p' a a' act driver.Halted is does can engine t t' = recovers_falls p p' a a' act driver.Halted is refl does t t'
by_state p p' a a' act driver.Cleared is does can engine t t' = recovers_falls p p' a a' act driver.Cleared is refl does t t'
by_state p p' a a' act driver.Discarded is does can engine t t' = recovers_falls p p' a a' act driver.Discarded is refl does t t'
by_state p p' a a' act driver.Cleaned is does can engine t t' = recovers_falls p p' a a' act driver.Cleaned is refl does t t'
by_state p p' a a' act driver.Resumed is does can engine t t' = recovers_falls p p' a a' act driver.Resumed is refl does t t'

pub host_falls : (p : PathState) (a : ArrayState) (p' : PathState) (a' : ArrayState) (act : Act) → HostEvent p a p' a' act → AreTied p → AreTied p'
    → has_work p.driver p.regs ≡ true → left_on_path p' < left_on_path p
host_falls p a p' a' act e t t' work = by_state p p' a a' act p.driver.recovery refl e.event work e.engine t t'

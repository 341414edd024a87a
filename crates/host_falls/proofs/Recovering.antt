-- Each step of a recovery leaves less to do.
use Rattle.std.proofs.Common.{◌≡◌, ◌≢◌, ◌<◌, ◌≤◌, ◌+◌, ◌-◌, ◌*◌, ◌&&◌, ◌==◌, ℕ, refl, sym, ◌∙◌, ap, arith, Bool, true, false, [], length}
use Rattle.std.specs.Prelude.{cond, is_some, not, sum_by, Option, Some, None, Result, Ok, Err}
use Rattle.std.specs.Bool.{MatchBool}
use Rattle.storage_machine.specs.declared.state.Stop.TheVariants as stop
use Rattle.storage_model.specs.declared.faults.BusKind.{BusKind}
use Rattle.storage_model.specs.declared.faults.BusKind.TheVariants.{Lost, NoResp, Bad, Late}
use Rattle.array_edge.specs.Array.{ArrayState}
use Rattle.bus_link.specs.Script.{Script}
use Rattle.bus_link.specs.declared.link.LinkEnd.{LinkEnd}
use Rattle.bus_link.specs.declared.link.LinkEnd.TheVariants.{Dark as NoPower}
use Rattle.card_core.specs.Card.{CardState}
use Rattle.card_core.specs.Response.{Responds, manage_response, refused, response_to}
use Rattle.card_core.specs.declared.ends.Dark.{Dark as DarkEnd}
use Rattle.card_link.specs.Behind.{Behind}
use Rattle.card_link.specs.Made.{Exchanges, IsHeard, IsLost, hit_on, is_lost, response_seen, sent}
use Rattle.cmd_words.specs.declared.command.Command.{Command}
use Rattle.cmd_words.specs.declared.status.TheConstants.Status.{ILLEGAL_COMMAND}
use Rattle.cq_regs.specs.Effects.{cleared, halt_complete, raised}
use Rattle.cq_regs.specs.Slots.{has_bit, progress_of}
use Rattle.cq_regs.specs.State.{Registers}
use Rattle.cq_regs.specs.declared.slots.Progress.TheVariants.{Active}
use Rattle.cq_schedule.specs.Held.{slots}
use Rattle.cq_schedule.specs.Order.{blocks_of as blocks_held, first_at, moved_of}
use Rattle.drv_core.specs.State.{is_recovering}
use Rattle.drv_jobs.specs.Changes.{given_back}
use Rattle.drv_recover.specs.Recovery.{discard_queue, registers_after}
use Rattle.drv_recover.specs.declared.recovery.RecoveryState.{RecoveryState}
use Rattle.drv_recover.specs.declared.recovery.RecoveryState.TheVariants as driver
use Rattle.world_state.specs.Path.{PathState, under_way}
use Rattle.world_state.specs.Reading.{stop_by, stop_of}
use Rattle.world_state.specs.Work.{doomed, events_left, hit_waits, hits_left, issued, left_on_path, recovery_left, stop_cost, stop_left, ticks_left, unanswered, waiting, work_left}
use Rattle.host_falls.proofs.Crossings.{Crosses, number_left}
use Rattle.host_falls.proofs.Numbers.{falls_by, words_left}
use Rattle.host_falls.proofs.Requests.{given_back_most, none_issued, number_issued, number_waiting}
use Rattle.host_falls.proofs.Sums.{slots_none}

-- where no slot is rung there is no work, and no data phase is under way
pub idle_work : (p : PathState) → p.regs.ring ≡ [] → work_left p ≡ 0
idle_work p e =
    ap (λ ring. sum_by (λ slot. events_left (progress_of ring slot) (blocks_held p.engine.held slot) (moved_of p.engine.held slot)) slots) e ∙ slots_none

nothing_either : (b : Bool) → cond b None (first_at Active []) ≡ None
nothing_either true = refl
nothing_either false = refl

pub idle_way : (p : PathState) → p.regs.ring ≡ [] → under_way p ≡ None
idle_way p e = ap (λ ring. cond p.regs.stopped None (first_at Active ring)) e ∙ nothing_either p.regs.stopped

pub stopped_way : (p : PathState) → p.regs.stopped ≡ true → under_way p ≡ None
stopped_way p e = ap (λ b. cond b None (first_at Active p.regs.ring)) e

pub quiet_hit : (p : PathState) → under_way p ≡ None → hit_waits p ≡ 0
quiet_hit p e = ap (λ way. cond (is_some way && is_some p.script.hit) (stop_cost + 1) 0) e

-- while the engine hasn't stopped, or a recovery is under way, no request is doomed
pub recovering_stop : (p : PathState) → is_recovering p.driver.recovery ≡ true → stop_of p ≡ stop.Running
recovering_stop p e = ap (λ b. cond b stop.Running (cond p.regs.stopped (stop_by p p.engine.cause) stop.Running)) e

running_if : (b : Bool) → cond b stop.Running stop.Running ≡ stop.Running
running_if true = refl
running_if false = refl

pub running_stop : (p : PathState) → p.regs.stopped ≡ false → stop_of p ≡ stop.Running
running_stop p e =
    ap (λ b. cond (is_recovering p.driver.recovery) stop.Running (cond b (stop_by p p.engine.cause) stop.Running)) e
    ∙ running_if (is_recovering p.driver.recovery)

pub all_unanswered : (p : PathState) → stop_of p ≡ stop.Running → unanswered p ≡ waiting p + issued p
all_unanswered p e =
    let none : doomed (stop_of p) ≡ 0 = ap doomed e in
    omega (arith, none)

pub stop_recovering : (p : PathState) (state : RecoveryState) → p.driver.recovery ≡ state → is_recovering state ≡ true
    → stop_left p ≡ 200000 * issued p + recovery_left state
stop_recovering p state is recovering =
    ap (λ s. cond (is_recovering s) (200000 * issued p + recovery_left s) (cond p.regs.stopped stop_cost 0)) is
    ∙ ap (λ b. cond b (200000 * issued p + recovery_left state) (cond p.regs.stopped stop_cost 0)) recovering

pub stop_calm : (p : PathState) (stopped : Bool) → p.driver.recovery ≡ driver.Calm → p.regs.stopped ≡ stopped
    → stop_left p ≡ cond stopped stop_cost 0
stop_calm p stopped calm is =
    ap (λ s. cond (is_recovering s) (200000 * issued p + recovery_left s) (cond p.regs.stopped stop_cost 0)) calm
    ∙ ap (λ b. cond b stop_cost 0) is

-- the interrupt coalescing stays
controlled_coalescing : (regs : Registers) (b h c : Bool)
    → (cond (not b) (record regs { halted = false }) (cond (not h) (raised (record regs { halted = true }) halt_complete) (cond c (cleared regs) regs))).coalescing
    ≡ regs.coalescing
controlled_coalescing regs false h c = refl
controlled_coalescing regs true false c = refl
controlled_coalescing regs true true true = refl
controlled_coalescing regs true true false = refl

pub after_coalescing : (state : RecoveryState) (regs : Registers) → (registers_after state regs).coalescing ≡ regs.coalescing
after_coalescing driver.Calm regs = controlled_coalescing regs (has_bit 1 0) regs.halted (has_bit 1 8)
after_coalescing driver.Halted regs = controlled_coalescing regs (has_bit 0x101 0) regs.halted (has_bit 0x101 8)
after_coalescing driver.Cleared regs = refl
after_coalescing driver.Discarded regs = refl
after_coalescing driver.Cleaned regs = controlled_coalescing regs (has_bit 0 0) regs.halted (has_bit 0 8)
after_coalescing driver.Resumed regs = refl

-- of a recovery that goes on
pub record GoesOn (p p' : PathState) (state state' : RecoveryState) : Type 0 where
  pub before : p.driver.recovery ≡ state
  pub after : p'.driver.recovery ≡ state'
  pub requests : p'.driver.requests ≡ p.driver.requests
  pub ready : words_left p' ≤ words_left p
  pub ring : p'.regs.ring ≡ []
  pub coalescing : p'.regs.coalescing ≡ p.regs.coalescing

step_numbers : (u h h' r r' w k i s s' b t : ℕ) → r' ≤ r → 12800200 * h' + s' < 12800200 * h + s
    → 12800200 * (u + h') + r' + 200000 * w + 3 * 0 + (200000 * i + s') + 0 + t < 12800200 * (u + h) + r + 200000 * w + 3 * k + (200000 * i + s) + b + t
step_numbers u h h' r r' w k i s s' b t words less = omega (arith, words, less)

pub step_falls : (p p' : PathState) (state state' : RecoveryState) → GoesOn p p' state state' → is_recovering state ≡ true → is_recovering state' ≡ true
    → 12800200 * hits_left p' + recovery_left state' < 12800200 * hits_left p + recovery_left state → left_on_path p' < left_on_path p
step_falls p p' state state' g recovering recovering' less =
    let u : ℕ = waiting p + issued p in
    let is : is_recovering p.driver.recovery ≡ true = ap is_recovering g.before ∙ recovering in
    let is' : is_recovering p'.driver.recovery ≡ true = ap is_recovering g.after ∙ recovering' in
    let same_waiting : waiting p' ≡ waiting p = ap (λ q. number_waiting q.waiting) g.requests in
    let same_issued : issued p' ≡ issued p = ap (λ q. number_issued q.holders) g.requests in
    let answers : unanswered p ≡ u = all_unanswered p (recovering_stop p is) in
    let answers' : unanswered p' ≡ u =
    all_unanswered p' (recovering_stop p' is') ∙ ap (λ n. n + issued p') same_waiting ∙ ap (λ n. waiting p + n) same_issued in
    falls_by p p' (u + hits_left p) (u + hits_left p') (words_left p) (words_left p') (waiting p) (waiting p) (work_left p) 0
    (200000 * issued p + recovery_left state) (200000 * issued p + recovery_left state') (hit_waits p) 0 (ticks_left p.regs) (ticks_left p.regs)
    (ap (λ n. n + hits_left p) answers) (ap (λ n. n + hits_left p') answers') refl refl refl same_waiting refl (idle_work p' g.ring)
    (stop_recovering p state g.before recovering)
    (stop_recovering p' state' g.after recovering' ∙ ap (λ n. 200000 * n + recovery_left state') same_issued)
    refl (quiet_hit p' (idle_way p' g.ring)) refl (ap (λ c. cond (c.counter == 0) 0 1) g.coalescing)
    (step_numbers u (hits_left p) (hits_left p') (words_left p) (words_left p') (waiting p) (work_left p) (issued p) (recovery_left state) (recovery_left state')
    (hit_waits p) (ticks_left p.regs) g.ready less)

-- the last step gives all requests back
over_numbers : (u u' h r w w' k i b t : ℕ) → u' ≤ u → w' ≤ w + i
    → 12800200 * (u' + h) + r + 200000 * w' + 3 * 0 + 0 + 0 + t < 12800200 * (u + h) + r + 200000 * w + 3 * k + (200000 * i + 2) + b + t
over_numbers u u' h r w w' k i b t answers waits = omega (arith, answers, waits)

pub over_falls : (p p' : PathState) → p.driver.recovery ≡ driver.Resumed → p'.driver.recovery ≡ driver.Calm
    → p'.driver.requests ≡ given_back p.driver.requests → p'.script ≡ p.script → p'.regs.ring ≡ [] → p'.regs.stopped ≡ false
    → p'.regs.coalescing ≡ p.regs.coalescing → left_on_path p' < left_on_path p
over_falls p p' before after requests script ring running coalescing =
    let q = p.driver.requests in
    let u : ℕ = waiting p + issued p in
    let w' : ℕ = number_waiting (given_back q).waiting in
    let waits : w' ≤ waiting p + issued p = given_back_most q.waiting q.holders in
    let now : waiting p' ≡ w' = ap (λ q. number_waiting q.waiting) requests in
    let free : issued p' ≡ 0 = ap (λ q. number_issued q.holders) requests ∙ none_issued in
    let answers : unanswered p ≡ u = all_unanswered p (recovering_stop p (ap is_recovering before)) in
    let answers' : unanswered p' ≡ w' = all_unanswered p' (running_stop p' running) ∙ omega (arith, now, free) in
    falls_by p p' (u + hits_left p) (w' + hits_left p) (words_left p) (words_left p) (waiting p) w' (work_left p) 0
    (200000 * issued p + 2) 0 (hit_waits p) 0 (ticks_left p.regs) (ticks_left p.regs)
    (ap (λ n. n + hits_left p) answers) (ap (λ n. n + hits_left p') answers' ∙ ap (λ (s : Script). w' + number_left s.hits s.sent) script)
    refl (ap (λ s. length s.ready - s.used) script) refl now refl (idle_work p' ring) (stop_recovering p driver.Resumed before refl)
    (stop_calm p' false after running) refl (quiet_hit p' (idle_way p' ring)) refl (ap (λ c. cond (c.counter == 0) 0 1) coalescing)
    (over_numbers u w' (hits_left p) (words_left p) (waiting p) w' (work_left p) (issued p) (hit_waits p) (ticks_left p.regs) waits waits)

-- CMD48 is answered, or befallen by a fault of the bus
said : (card : CardState) (word : ℕ) (after : CardState) (old new : ArrayState) (answer : Result ℕ DarkEnd) (h : Option BusKind) (result : Result ℕ LinkEnd)
    → answer ≡ Ok word → result ≡ response_seen h answer → result ≢ Err NoPower
said card word after old new answer h result ok seen = by h (seen ∙ ap (response_seen h) ok)
  where
    by : (h : Option BusKind) → result ≡ response_seen h (Ok word) → result ≢ Err NoPower
    by None e dark = absurd (cc (e, dark))
    by (Some Lost) e dark = absurd (cc (e, dark))
    by (Some NoResp) e dark = absurd (cc (e, dark))
    by (Some (Bad block)) e dark = absurd (cc (e, dark))
    by (Some Late) e dark = absurd (cc (e, dark))

manage_says : (queueing : Bool) (card : CardState) (old : ArrayState) (new : CardState) (new_array : ArrayState) (answer : Result ℕ DarkEnd)
    → Responds (cond queueing (manage_response card true 0) (refused card ILLEGAL_COMMAND)) card old new new_array answer
    → (word : ℕ) × (answer ≡ Ok word)
manage_says true card old new new_array answer r = (_, r.0)
manage_says false card old new new_array answer r = (_, r.0)

heard_lit : (old new : Behind) (result : Result ℕ LinkEnd) → IsHeard discard_queue old new result → result ≢ Err NoPower
unfolding response_to
heard_lit old new result h =
    let says = manage_says old.card.csd.command_queue old.card old.array new.card new.array h.answer h.responds in
    said old.card says.0 new.card old.array new.array h.answer (hit_on old discard_queue) result says.1 h.seen

pub discard_lit : (old new : Behind) (result : Result ℕ LinkEnd) → Exchanges discard_queue old new result → result ≢ Err NoPower
discard_lit old new result e = by (is_lost (hit_on old discard_queue)) e
  where
    by : (b : Bool) → MatchBool b (IsLost Lost old new (sent old discard_queue) result) (IsHeard discard_queue old new result) → result ≢ Err NoPower
    by true l dark = absurd (let e = l.answer in cc (e, dark))
    by false h dark = heard_lit old new result h dark

-- of a crossing: no more words and faults are left
pub crossed_words : (p p' : PathState) (old new : Behind) (command : Command) (answer : Result ℕ LinkEnd) → old.script ≡ p.script → new.script ≡ p'.script
    → Crosses old new command answer → words_left p' ≤ words_left p
crossed_words p p' old new command answer from to c =
    let ready : length p'.script.ready ≡ length p.script.ready =
    ap (λ (s : Script). length s.ready) (sym to) ∙ ap length c.ready ∙ ap (λ (s : Script). length s.ready) from in
    let less : old.script.used ≤ new.script.used = c.used in
    let was : old.script.used ≡ p.script.used = ap (λ (s : Script). s.used) from in
    let now : new.script.used ≡ p'.script.used = ap (λ (s : Script). s.used) to in
    omega (arith, ready, less, was, now)

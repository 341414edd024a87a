-- Each event of the engine in which a call crosses the bus, or a slot is dropped, leaves less to do.
use Rattle.std.proofs.Common.{◌≡◌, ◌<◌, ◌≤◌, ◌+◌, ◌-◌, ◌*◌, ◌==◌, ◌&&◌, ℕ, refl, sym, ◌∙◌, ap, subst, arith, Bool, true, false, List, [], ◌∷◌}
use Rattle.std.specs.Prelude.{cond, is_some, IfSome, MatchOption, Option, Some, None}
use Rattle.std.specs.List.{All, find}
use Rattle.std.specs.Option.{option_map_or, option_or}
use Rattle.std.proofs.lemmas.Bool.{eqb-true, false≢true}
use Rattle.std.proofs.lemmas.List.Elements.{All-head, All-tail}
use Rattle.bus_link.specs.Script.{Script}
use Rattle.bus_link.specs.declared.link.Cause.{Cause}
use Rattle.bus_link.specs.declared.link.Cause.TheVariants.{Bus as BusFault, Response, Dark}
use Rattle.card_core.specs.Card.{CardState}
use Rattle.cq_engine.specs.Outcome.{Host, stop_of as cause_in}
use Rattle.cq_engine.specs.declared.did.Did.{Did}
use Rattle.cq_engine.specs.declared.did.Did.TheVariants.{Stopped}
use Rattle.cq_regs.specs.Slots.{is_rung, progress_of}
use Rattle.cq_regs.specs.State.{Registers}
use Rattle.cq_regs.specs.declared.slots.Progress.TheVariants.{Idle}
use Rattle.cq_regs.specs.declared.slots.Ringed.{Ringed}
use Rattle.cq_schedule.specs.Held.{noted, remembered}
use Rattle.drv_core.specs.Judge.{error_of}
use Rattle.drv_core.specs.State.{DriverState, is_recovering}
use Rattle.drv_core.specs.declared.act.Stop.TheVariants as ending
use Rattle.drv_recover.specs.declared.recovery.RecoveryState.TheVariants as driver
use Rattle.world_state.specs.Engine.{is_dark, phase_left}
use Rattle.world_state.specs.Path.{PathState, holder, is_busy}
use Rattle.world_state.specs.Reading.{stop_by_word, stop_of}
use Rattle.world_state.specs.Ties.{AreTied, IsIssued, IsVacant, TagIsTied, named_by}
use Rattle.world_state.specs.Work.{doomed, hit_waits, hits_left, issued, left_on_path, ticks_left, unanswered, waiting, work_left}
use Rattle.fall_laws.specs.Falls.{IsEnding}
use Rattle.fall_laws.proofs.Charges.{Charges, waits}
use Rattle.host_falls.proofs.Dooms.{doom, doom_issued, doomed_calm}
use Rattle.host_falls.proofs.Hosting.{busy_begun, same_hits, same_waits, same_words}
use Rattle.host_falls.proofs.Numbers.{falls_by, words_left}
use Rattle.host_falls.proofs.Recovering.{all_unanswered, quiet_hit, running_stop, stop_calm, stopped_way}
use Rattle.host_falls.proofs.Requests.{number_issued, number_waiting}
use Rattle.fall_laws.proofs.Shapes.{Shape, is_bus}
use Rattle.fall_laws.proofs.Shapes.Shape.{Works, Stops}
use Rattle.fall_laws.proofs.Slots.{noted_most, remembered_most, tasks_left}

-- the driver rests, and the engine runs
pub record IsRunning (p p' : PathState) : Type 0 where
  pub host : p'.driver ≡ p.driver
  pub calm : p.driver.recovery ≡ driver.Calm
  pub running : p.regs.stopped ≡ false

pub calm_after : (p p' : PathState) → IsRunning p p' → p'.driver.recovery ≡ driver.Calm
calm_after p p' r = ap (λ (d : DriverState). d.recovery) r.host ∙ r.calm

ticks_most : (p : PathState) → ticks_left p.regs ≤ 1
ticks_most p = by (p.regs.coalescing.counter == 0)
  where
    by : (b : Bool) → cond b 0 1 ≤ 1
    by true = omega arith
    by false = omega arith

-- the engine goes on
works_numbers : (u h h' r r' w k k' b b' t t' : ℕ) → r' ≤ r → 12800200 * h' + b' ≤ 12800200 * h + b → 3 * k' + t' < 3 * k + t + 1 → r' + 3 * k' + t' < r + 3 * k + t
    → 12800200 * (u + h') + r' + 200000 * w + 3 * k' + 0 + b' + t' < 12800200 * (u + h) + r + 200000 * w + 3 * k + 0 + b + t
works_numbers u h h' r r' w k k' b b' t t' words spent work less = omega (arith, words, spent, work, less)

pub goes_falls : (p p' : PathState) → IsRunning p p' → p'.regs.stopped ≡ false
    → words_left p' ≤ words_left p → 12800200 * hits_left p' + hit_waits p' ≤ 12800200 * hits_left p + hit_waits p
    → 3 * work_left p' + ticks_left p'.regs ≤ 3 * work_left p + ticks_left p.regs
    → words_left p' + 3 * work_left p' + ticks_left p'.regs < words_left p + 3 * work_left p + ticks_left p.regs → left_on_path p' < left_on_path p
goes_falls p p' r running words spent work less =
    let u : ℕ = waiting p + issued p in
    let waits : waiting p' ≡ waiting p = ap (λ (d : DriverState). number_waiting d.requests.waiting) r.host in
    let holds : issued p' ≡ issued p = ap (λ (d : DriverState). number_issued d.requests.holders) r.host in
    let was : unanswered p ≡ u = all_unanswered p (running_stop p r.running) in
    let now : unanswered p' ≡ u = all_unanswered p' (running_stop p' running) ∙ ap (λ n. n + issued p') waits ∙ ap (λ n. waiting p + n) holds in
    falls_by p p' (u + hits_left p) (u + hits_left p') (words_left p) (words_left p') (waiting p) (waiting p) (work_left p) (work_left p') 0 0
    (hit_waits p) (hit_waits p') (ticks_left p.regs) (ticks_left p'.regs)
    (ap (λ n. n + hits_left p) was) (ap (λ n. n + hits_left p') now) refl refl refl waits refl refl
    (stop_calm p false r.calm r.running) (stop_calm p' false (calm_after p p' r) running) refl refl refl refl
    (works_numbers u (hits_left p) (hits_left p') (words_left p) (words_left p') (waiting p) (work_left p) (work_left p') (hit_waits p) (hit_waits p') (ticks_left p.regs) (ticks_left p'.regs)
    words spent (omega (arith, work)) less)

pub works_falls : (p p' : PathState) → IsRunning p p' → p'.regs.stopped ≡ false
    → words_left p' ≤ words_left p → 12800200 * hits_left p' + hit_waits p' ≤ 12800200 * hits_left p + hit_waits p
    → work_left p' + 1 ≤ work_left p → left_on_path p' < left_on_path p
works_falls p p' r running words spent work =
    let most = ticks_most p' in
    goes_falls p p' r running words spent (omega (arith, work, most)) (omega (arith, words, work, most))

-- the engine stopped
stops_numbers : (u d h h' r r' w k k' b t : ℕ) → r' ≤ r → 12800200 * h' + 6400101 ≤ 12800200 * h + b + 12800200 * d → d ≤ u → k' ≤ k
    → 12800200 * ((u - d) + h') + r' + 200000 * w + 3 * k' + 6400100 + 0 + t < 12800200 * (u + h) + r + 200000 * w + 3 * k + 0 + b + t
stops_numbers u d h h' r r' w k k' b t words pays most work = omega (arith, words, pays, most, work)

stops_falls : (p p' : PathState) (d : ℕ) → IsRunning p p' → p'.regs.stopped ≡ true → doomed (stop_of p') ≡ d → d ≤ issued p
    → words_left p' ≤ words_left p → 12800200 * hits_left p' + 6400101 ≤ 12800200 * hits_left p + hit_waits p + 12800200 * d
    → work_left p' ≤ work_left p → p'.regs.coalescing ≡ p.regs.coalescing → left_on_path p' < left_on_path p
stops_falls p p' d r stopped dooms most words pays work coalescing =
    let u : ℕ = waiting p + issued p in
    let waits : waiting p' ≡ waiting p = ap (λ (d : DriverState). number_waiting d.requests.waiting) r.host in
    let holds : issued p' ≡ issued p = ap (λ (d : DriverState). number_issued d.requests.holders) r.host in
    let was : unanswered p ≡ u = all_unanswered p (running_stop p r.running) in
    let now : unanswered p' ≡ u - d =
    ap (λ n. n + issued p' - doomed (stop_of p')) waits ∙ ap (λ n. waiting p + n - doomed (stop_of p')) holds ∙ ap (λ n. u - n) dooms in
    falls_by p p' (u + hits_left p) ((u - d) + hits_left p') (words_left p) (words_left p') (waiting p) (waiting p) (work_left p) (work_left p') 0 6400100
    (hit_waits p) 0 (ticks_left p.regs) (ticks_left p.regs)
    (ap (λ n. n + hits_left p) was) (ap (λ n. n + hits_left p') now) refl refl refl waits refl refl
    (stop_calm p false r.calm r.running) (stop_calm p' true (calm_after p p' r) stopped) refl (quiet_hit p' (stopped_way p' stopped)) refl
    (ap (λ c. cond (c.counter == 0) 0 1) coalescing)
    (stops_numbers u d (hits_left p) (hits_left p') (words_left p) (words_left p') (waiting p) (work_left p) (work_left p') (hit_waits p) (ticks_left p.regs)
    words pays (omega (arith, most)) work)

-- a rung slot is one of the 32
rung_here : (b : Bool) (r : Ringed) (ring : List Ringed) (slot : ℕ) → (r.slot == slot) ≡ b → r.slot < 32
    → (is_rung (progress_of ring slot) ≡ true → slot < 32)
    → is_rung (option_map_or (λ r. r.progress) (cond b (Some r) (find (λ r. r.slot == slot) ring)) Idle) ≡ true → slot < 32
rung_here true r ring slot e low rest is = let same = eqb-true r.slot slot e in omega (arith, same, low)
rung_here false r ring slot e low rest is = rest is

pub rung_below : (ring : List Ringed) (slot : ℕ) → All (λ r. r.slot < 32) ring → is_rung (progress_of ring slot) ≡ true → slot < 32
rung_below [] slot all is = absurd (false≢true is)
rung_below (r ∷ ring) slot all is =
    rung_here (r.slot == slot) r ring slot refl (All-head (λ r. r.slot < 32) r ring all)
    (λ is. rung_below ring slot (All-tail (λ r. r.slot < 32) r ring all) is) is

-- and the request of its tag is issued
rung_held : (p : PathState) (tag : ℕ) → TagIsTied p tag → is_rung (progress_of p.regs.ring tag) ≡ true → is_some (holder p tag) ≡ true
rung_held p tag tied rung = by (holder p tag) tied
  where
    by : (h : Option ℕ) → MatchOption h (IsVacant p tag) (IsIssued p tag) → is_some h ≡ true
    by None v = absurd (false≢true (sym (ap is_rung v.idle) ∙ rung))
    by (Some id) i = refl

-- so a stop by an error of the card ends it
word_if : (flash range : Bool) (h : Option ℕ) → is_some (cond flash (Some ending.Flash) (cond range (Some ending.Range) None)) ≡ true → is_some h ≡ true
    → doomed (stop_by_word (cond flash (Some ending.Flash) (cond range (Some ending.Range) None)) h) ≡ 1
word_if flash range None e some = absurd (false≢true some)
word_if true range (Some id) e some = refl
word_if false true (Some id) e some = refl
word_if false false (Some id) e some = absurd (false≢true e)

doomed_word : (word : ℕ) (h : Option ℕ) → is_some (error_of word) ≡ true → is_some h ≡ true → doomed (stop_by_word (error_of word) h) ≡ 1
doomed_word word h e some = word_if _ _ h e some

response_dooms : (p' : PathState) (word tag : ℕ) → AreTied p' → p'.driver.recovery ≡ driver.Calm → p'.regs.stopped ≡ true
    → p'.engine.cause ≡ Some (Response word tag) → is_some (error_of word) ≡ true → doomed (stop_of p') ≡ 1
response_dooms p' word tag t calm stopped cause error =
    let P : Option Cause → Type 0 = λ c. IfSome (named_by c) (λ tag. is_rung (progress_of p'.regs.ring tag) ≡ true) in
    let rung : is_rung (progress_of p'.regs.ring tag) ≡ true = subst P cause (t.names stopped) in
    let held = rung_held p' tag (t.tags (ap is_recovering calm) tag (rung_below p'.regs.ring tag t.regs.ring.below rung)) rung in
    doomed_calm p' true calm stopped ∙ ap (λ c. doom c p'.driver.requests.holders) cause ∙ doomed_word word (holder p' tag) error held

-- no stop by the bus dooms a request
bus_doom : (cause : Cause) (holders : List (Option ℕ)) → is_bus cause ≡ true → doom (Some cause) holders ≡ 0
bus_doom (BusFault kind tag) holders e = refl
bus_doom (Response word tag) holders e = absurd (false≢true e)
bus_doom Dark holders e = absurd (false≢true e)

-- a fault that is used up waits only in a data phase
pub phase_waits : (p : PathState) (busy : Bool) → (busy ≡ true → is_busy p ≡ true) → cond busy (waits p.script.hit) 0 ≤ hit_waits p
phase_waits p false h = omega arith
phase_waits p true h =
    let same : hit_waits p ≡ waits p.script.hit = ap (λ b. cond (b && is_some p.script.hit) 6400101 0) (h refl) in
    omega (arith, same)

pub waits_most : (p : PathState) → hit_waits p ≤ waits p.script.hit
waits_most p = by (is_busy p)
  where
    by : (b : Bool) → cond (b && is_some p.script.hit) 6400101 0 ≤ waits p.script.hit
    by true = omega arith
    by false = omega arith

-- what the event left
pub record Leaves (p p' : PathState) (did : Did) (left : Host) : Type 0 where
  pub registers : p'.regs ≡ left.regs
  pub held : p'.engine.held ≡ noted left.held left.regs
  pub cause : p'.engine.cause ≡ option_or (cause_in did) p.engine.cause

pub work_after : (p p' : PathState) (did : Did) (left : Host) → Leaves p p' did left → work_left p' ≤ tasks_left left.held left.regs.ring
work_after p p' did left l =
    let is : work_left p' ≡ tasks_left (noted left.held left.regs) left.regs.ring =
    ap (λ held. tasks_left held p'.regs.ring) l.held ∙ ap (λ (r : Registers). tasks_left (noted left.held left.regs) r.ring) l.registers in
    let most = noted_most left.held left.regs in
    omega (arith, is, most)

abbrev pub host_of : PathState → Host
host_of p = record { held = remembered p.engine.held p.regs; regs = p.regs }

by_cause : (p p' : PathState) (did : Did) (left : Host) (cause : Cause) (struck busy : Bool) → IsRunning p p' → AreTied p' → Leaves p p' did left → IsEnding did
    → did ≡ Stopped cause → p'.regs.stopped ≡ true → p'.regs.coalescing ≡ p.regs.coalescing → work_left p' ≤ work_left p → (is_bus cause ≡ true → struck ≡ true)
    → (busy ≡ true → is_busy p ≡ true) → Charges p.script p'.script busy struck → left_on_path p' < left_on_path p
by_cause p p' did left (BusFault kind tag) struck busy r t' l e is stopped coalescing work bus phase c =
    let cause : p'.engine.cause ≡ Some (BusFault kind tag) = l.cause ∙ ap (λ d. option_or (cause_in d) p.engine.cause) is in
    let dooms : doomed (stop_of p') ≡ 0 = doomed_calm p' true (calm_after p p' r) stopped ∙ ap (λ c. doom c p'.driver.requests.holders) cause in
    let pays = c.stops (bus refl) in
    let before = phase_waits p busy phase in
    stops_falls p p' 0 r stopped dooms (omega arith) c.words (omega (arith, pays, before)) work coalescing
by_cause p p' did left (Response word tag) struck busy r t' l e is stopped coalescing work bus phase c =
    let cause : p'.engine.cause ≡ Some (Response word tag) = l.cause ∙ ap (λ d. option_or (cause_in d) p.engine.cause) is in
    let dooms = response_dooms p' word tag t' (calm_after p p' r) stopped cause (e.words word tag is) in
    let spent = c.spent in
    let before = phase_waits p busy phase in
    let was : doomed (stop_of p') ≡ doom p'.engine.cause p'.driver.requests.holders = doomed_calm p' true (calm_after p p' r) stopped in
    let few : doom p'.engine.cause p'.driver.requests.holders ≤ issued p' = doom_issued p'.engine.cause p'.driver.requests.holders in
    let holds : issued p' ≡ issued p = ap (λ (d : DriverState). number_issued d.requests.holders) r.host in
    stops_falls p p' 1 r stopped dooms (omega (arith, dooms, was, few, holds)) c.words (omega (arith, spent, before)) work coalescing
by_cause p p' did left Dark struck busy r t' l e is stopped coalescing work bus phase c =
    absurd (false≢true (sym e.lit ∙ ap is_dark is))

-- a call crossed
pub called_falls : (p p' : PathState) (did : Did) (left : Host) (struck busy : Bool) → IsRunning p p' → AreTied p' → Leaves p p' did left → IsEnding did
    → (busy ≡ true → is_busy p ≡ true) → Charges p.script p'.script busy struck → Shape (host_of p) struck (record { did = did; host = left })
    → left_on_path p' < left_on_path p
called_falls p p' did left struck busy r t' l e phase c (Works stopped less) =
    let after = work_after p p' did left l in
    let before = remembered_most p.engine.held p.regs in
    let spent = c.spent in
    let now = waits_most p' in
    let was = phase_waits p busy phase in
    works_falls p p' r (ap (λ (x : Registers). x.stopped) l.registers ∙ stopped ∙ r.running) c.words (omega (arith, spent, now, was)) (omega (arith, after, before, less))
called_falls p p' did left struck busy r t' l e phase c (Stops cause is stopped held ring coalescing bus) =
    let after = work_after p p' did left l in
    let before = remembered_most p.engine.held p.regs in
    let same : tasks_left left.held left.regs.ring ≡ tasks_left (remembered p.engine.held p.regs) p.regs.ring =
    ap (λ h. tasks_left h left.regs.ring) held ∙ ap (λ r. tasks_left (remembered p.engine.held p.regs) r) ring in
    by_cause p p' did left cause struck busy r t' l e is (ap (λ (x : Registers). x.stopped) l.registers ∙ stopped) (ap (λ (x : Registers). x.coalescing) l.registers ∙ coalescing)
    (omega (arith, after, before, same)) bus phase c

-- nothing crossed: no data phase is under way that was not before
pub quiet_waits : (p p' : PathState) (card : CardState) (busy : Bool) → is_busy p' ≡ busy → AreTied p → AreTied p' → p'.card ≡ phase_left card busy → card ≡ p.card
    → p'.script ≡ p.script → hit_waits p' ≤ hit_waits p
quiet_waits p p' card true is t t' left same script =
    let begun : is_some p'.card.begun ≡ is_some p.card.begun = ap (λ (c : CardState). is_some c.begun) (left ∙ same) in
    let waits = same_waits p p' (busy_begun p' t' ∙ begun ∙ sym (busy_begun p t)) (ap (λ (s : Script). s.hit) script) in
    omega (arith, waits)
quiet_waits p p' card false is t t' left same script =
    let none : hit_waits p' ≡ 0 = ap (λ b. cond (b && is_some p'.script.hit) 6400101 0) is in
    omega (arith, none)

pub dropped_falls : (p p' : PathState) (did : Did) (left : Host) → IsRunning p p' → Leaves p p' did left → hit_waits p' ≤ hit_waits p → p'.script ≡ p.script
    → left.regs.stopped ≡ p.regs.stopped → tasks_left left.held left.regs.ring + 1 ≤ tasks_left (remembered p.engine.held p.regs) p.regs.ring
    → left_on_path p' < left_on_path p
dropped_falls p p' did left r l quiet script stopped less =
    let after = work_after p p' did left l in
    let before = remembered_most p.engine.held p.regs in
    let hits = same_hits p p' script in
    let words = same_words p p' script in
    works_falls p p' r (ap (λ (x : Registers). x.stopped) l.registers ∙ stopped ∙ r.running) (omega (arith, words)) (omega (arith, hits, quiet)) (omega (arith, after, before, less))

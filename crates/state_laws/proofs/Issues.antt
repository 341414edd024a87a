-- The request that may be issued next, and its tag.
use Rattle.std.proofs.Common.{◌≡◌, ℕ, zero, suc, ◌+◌, ◌<◌, ◌≤◌, Bool, true, false, cond, List, [], ◌∷◌, map, length, refl, sym, ap, ◌∙◌, arith}
use Rattle.std.specs.Prelude.{Option, Some, None, is_some, is_none, not, nat_lt, ◌&&◌, option_map, position, Result, Ok, Err}
use Rattle.std.specs.List.{All, find, fold, list_any, position_or_len, range_with_len}
use Rattle.std.specs.Option.{ok_or}
use Rattle.std.specs.Result.{result_ok}
use Rattle.std.proofs.lemmas.Bool.{true≢false, ltb-false, lt-ltb, le-ltb, ltb-true}
use Rattle.std.proofs.lemmas.Bool.Decides.{nat_tests}
use Rattle.std.proofs.lemmas.List.Elements.{All-head, All-tail}
use Rattle.std.proofs.lemmas.List.FromFn.{fill_by_all}
use Rattle.storage_model.specs.declared.plan.Job.{Job}
use Rattle.storage_model.specs.declared.plan.Plan.{Plan}
use Rattle.storage_model.specs.declared.plan.Job.TheVariants.{Read, Write, Flush, Barrier, Status}
use Rattle.storage_model.specs.Plan.{is_direct as plan_direct}
use Rattle.storage_machine.specs.Commands.{is_calm, is_running}
use Rattle.storage_machine.specs.Host.{below, issue_of, next_issue, next_place}
use Rattle.storage_machine.specs.Jobs.{is_direct, job_of}
use Rattle.storage_machine.specs.Slots.{asks, asks_of, has, slot_at, tag_of}
use Rattle.storage_machine.specs.declared.slots.Question.TheVariants as question
use Rattle.storage_machine.specs.declared.state.Standing.TheVariants as standing
use Rattle.storage_machine.specs.declared.state.State.{State}
use Rattle.storage_machine.specs.declared.state.Task.{Task}
use Rattle.cq_regs.specs.declared.slots.Progress.{Progress}
use Rattle.cq_regs.specs.declared.slots.Progress.TheVariants.{Idle, Rung, Named, Sent, Ready, Active}
use Rattle.cq_regs.specs.Slots.{progress_of}
use Rattle.cq_schedule.specs.Held.{slots}
use Rattle.cut_order.specs.Order.{OrderState}
use Rattle.drv_core.specs.State.{is_recovering}
use Rattle.drv_jobs.specs.Changes.{waits_again}
use Rattle.drv_jobs.specs.declared.next.Due.{Due}
use Rattle.drv_jobs.specs.declared.next.Hold.{Hold}
use Rattle.drv_jobs.specs.declared.next.Hold.TheVariants.{Behind, Full}
use Rattle.drv_jobs.specs.Next.{due_at, due_of, free_tag, next_place as first_waiting, tag_for as tag_of_job, with_tag}
use Rattle.drv_jobs.specs.Standings.{holder_of, is_any_issued, job_of as planned_job}
use Rattle.drv_recover.specs.declared.recovery.RecoveryState.{RecoveryState}
use Rattle.drv_recover.specs.declared.recovery.RecoveryState.TheVariants as driver
use Rattle.world_state.specs.Path.{PathState, holder, plan_of, runs}
use Rattle.world_state.specs.Reading.{Context, is_done, recovery_of, standing_of, state_of, task_at, tasks_of, waiting_of}
use Rattle.world_state.specs.Ties.{AreTied}
use Rattle.state_laws.proofs.Bars.{calm_if}
use Rattle.state_laws.proofs.ReadOff.{runs_calm}
use Rattle.state_laws.proofs.Searches.{any_mapped}
use Rattle.state_laws.proofs.Tags.{has_is, issued_task, slot_is, tasks_long, vacant_task}

-- a task of the path is issued until it is answered
rung_issued : (q : Progress) → asks_of question.Issued (standing_of q) ≡ true
rung_issued Idle = refl
rung_issued Rung = refl
rung_issued Named = refl
rung_issued Sent = refl
rung_issued Ready = refl
rung_issued Active = refl

any_issued : (recovers done : Bool) (q : Progress) → asks_of question.Issued (cond recovers standing.Held (cond done standing.Done (standing_of q))) ≡ true
any_issued true done q = refl
any_issued false true q = refl
any_issued false false q = rung_issued q

rung_occupied : (q : Progress) → asks_of question.Vacant (standing_of q) ≡ false
rung_occupied Idle = refl
rung_occupied Rung = refl
rung_occupied Named = refl
rung_occupied Sent = refl
rung_occupied Ready = refl
rung_occupied Active = refl

none_vacant : (recovers done : Bool) (q : Progress) → asks_of question.Vacant (cond recovers standing.Held (cond done standing.Done (standing_of q))) ≡ false
none_vacant true done q = refl
none_vacant false true q = refl
none_vacant false false q = rung_occupied q

issued_by : (p : PathState) (tag : ℕ) (h : Option ℕ) → holder p tag ≡ h → asks question.Issued (task_at p tag) ≡ is_some h
issued_by p tag None e = ap (asks question.Issued) (vacant_task p tag e)
issued_by p tag (Some id) e =
    ap (asks question.Issued) (issued_task p tag id e) ∙ any_issued (is_recovering p.driver.recovery) (is_done p tag) (progress_of p.regs.ring tag)

vacant_by : (p : PathState) (tag : ℕ) (h : Option ℕ) → holder p tag ≡ h → asks question.Vacant (task_at p tag) ≡ is_none h
vacant_by p tag None e = ap (asks question.Vacant) (vacant_task p tag e)
vacant_by p tag (Some id) e =
    ap (asks question.Vacant) (issued_task p tag id e) ∙ none_vacant (is_recovering p.driver.recovery) (is_done p tag) (progress_of p.regs.ring tag)

asks_issued : (p : PathState) (tag : ℕ) → tag < 32 → asks question.Issued (slot_at (tasks_of p) tag) ≡ is_some (holder p tag)
asks_issued p tag below = ap (asks question.Issued) (slot_is p tag below) ∙ issued_by p tag (holder p tag) refl

holders_listed : (holders : List (Option ℕ)) → length holders ≡ 32 → holders ≡ map (holder_of holders) slots
unfolding slots
holders_listed holders long = fill_by_all (holder_of holders) holders 32 None long (λ k low. refl)

pub issued_any : (p : PathState) → AreTied p → has question.Issued (tasks_of p) ≡ is_any_issued p.driver.requests.holders
issued_any p t =
    has_is p question.Issued (λ tag. is_some (holder p tag)) (λ tag low. asks_issued p tag low)
    ∙ (sym (any_mapped is_some (holder_of p.driver.requests.holders) slots)
    ∙ sym (ap (list_any is_some) (holders_listed p.driver.requests.holders t.sound.holders)))

-- the lowest number below a bound that passes a test, by the first place in a longer list
abbrev place : (ℕ → Bool) → ℕ → ℕ → ℕ
place test a n = position_or_len test (range_with_len a n)

first_below : (b : Bool) (a d l : ℕ) (rest : Option ℕ) → rest ≡ cond (nat_lt l d) (Some (a + 1 + l)) None
    → cond b (Some a) rest ≡ cond (nat_lt (cond (not b) (1 + l) 0) (suc d)) (Some (a + cond (not b) (1 + l) 0)) None
first_below true a d l rest e =
    let at : a ≡ a + 0 = omega arith in
    ap Some at ∙ sym (ap (λ b. cond b (Some (a + 0)) None) (lt-ltb 0 (suc d) (omega arith)))
first_below false a d l rest e =
    let at : a + 1 + l ≡ a + (1 + l) = omega arith in
    let step : nat_lt l d ≡ nat_lt (1 + l) (suc d) = grind (arith, nat_tests) in
    e ∙ (ap (λ b. cond b (Some (a + 1 + l)) None) step ∙ ap (λ n. cond (nat_lt (1 + l) (suc d)) (Some n) None) at)

lowest_below : (test : ℕ → Bool) (a d n : ℕ) → d ≤ n → find test (range_with_len a d) ≡ cond (nat_lt (place test a n) d) (Some (a + place test a n)) None
lowest_below test a zero n few = sym (ap (λ b. cond b (Some (a + place test a n)) None) (le-ltb (place test a n) 0 (omega arith)))
lowest_below test a (suc d) zero few = absurd (omega arith)
lowest_below test a (suc d) (suc n) few =
    first_below (test a) a d (place test (a + 1) n) (find test (range_with_len (a + 1) d)) (lowest_below test (a + 1) d n (omega arith))

place_mapped : {A : Type 0} (test : A → Bool) (f : ℕ → A) (other : ℕ → Bool) (xs : List ℕ) → All (λ x. test (f x) ≡ other x) xs
    → position_or_len test (map f xs) ≡ position_or_len other xs
place_mapped test f other [] alike = refl
place_mapped test f other (x ∷ xs) alike =
    ap (λ b. cond (not b) (1 + position_or_len test (map f xs)) 0) (All-head (λ x. test (f x) ≡ other x) x xs alike)
    ∙ ap (λ n. cond (not (other x)) (1 + n) 0) (place_mapped test f other xs (All-tail (λ x. test (f x) ≡ other x) x xs alike))

vacant_place : (p : PathState) → position_or_len (asks question.Vacant) (tasks_of p) ≡ place (λ tag. is_none (holder p tag)) 0 32
unfolding tasks_of slots
vacant_place p = place_mapped (asks question.Vacant) (task_at p) (λ tag. is_none (holder p tag)) slots (λ k d low. vacant_by p _ (holder p _) refl)

below_if : (b c : Bool) (depth l n : ℕ) → nat_lt l n ≡ b → nat_lt l depth ≡ c → depth ≤ n → below depth (cond (nat_lt l n) (Some l) None) ≡ cond (nat_lt l depth) (Some l) None
below_if true c depth l n e f few = ap (λ b. below depth (cond b (Some l) None)) e
below_if false true depth l n e f few = let low = ltb-true l depth f in let high = ltb-false l n e in absurd (omega (arith, low, high, few))
below_if false false depth l n e f few = ap (λ b. below depth (cond b (Some l) None)) e ∙ sym (ap (λ b. cond b (Some l) None) f)

vacant_below : (p : PathState) → AreTied p → below (plan_of p).depth (tag_of question.Vacant (tasks_of p)) ≡ free_tag p.driver.requests
vacant_below p t =
    let depth = (plan_of p).depth in
    let l = place (λ tag. is_none (holder p tag)) 0 32 in
    let few : depth ≤ 32 = omega (arith, t.sound.plan.depth.1) in
    let at : 0 + l ≡ l = omega arith in
    ap (λ n. below depth (cond (nat_lt n (length (tasks_of p))) (Some n) None)) (vacant_place p)
    ∙ (ap (λ n. below depth (cond (nat_lt l n) (Some l) None)) (tasks_long p)
    ∙ (below_if (nat_lt l 32) (nat_lt l depth) depth l 32 refl refl few
    ∙ (sym (ap (λ n. cond (nat_lt l depth) (Some n) None) at)
    ∙ sym (lowest_below (λ tag. is_none (holder p tag)) 0 depth 32 few))))

direct_same : (j : Job) → is_direct j ≡ plan_direct j
direct_same (Read sector blocks high) = refl
direct_same (Write sector blocks fill forced reliable high) = refl
direct_same Flush = refl
direct_same Barrier = refl
direct_same Status = refl

free_or : (free : Option ℕ) → free ≡ result_ok (ok_or free Full)
free_or None = refl
free_or (Some tag) = refl

-- a tag for a job, by whether it is direct, whether any request is issued, whether a direct one is, and the lowest free tag
tag_by : (direct any last : Bool) (free : Option ℕ)
    → cond direct (cond any None (Some 31)) (cond last None free)
    ≡ result_ok (cond direct (cond any (Err Behind) (Ok 31)) (cond last (Err Behind) (ok_or free Full)))
tag_by true true last free = refl
tag_by true false last free = refl
tag_by false any true free = refl
tag_by false any false free = free_or free

abbrev tag_in : State → Job → List (Option Task) → ℕ → Option ℕ
tag_in s j slots depth =
    cond (is_direct j) (cond (has question.Issued slots) None (Some 31))
    (cond (asks question.Issued (slot_at slots 31)) None (below depth (tag_of question.Vacant slots)))

tag_is : (p : PathState) (s : State) (j : Job) → AreTied p → tag_in s j (tasks_of p) (plan_of p).depth ≡ result_ok (tag_of_job p.driver.requests j)
tag_is p s j t =
    let free = below (plan_of p).depth (tag_of question.Vacant (tasks_of p)) in
    ap (λ b. cond b (cond (has question.Issued (tasks_of p)) None (Some 31)) (cond (asks question.Issued (slot_at (tasks_of p) 31)) None free)) (direct_same j)
    ∙ (ap (λ b. cond (plan_direct j) (cond b None (Some 31)) (cond (asks question.Issued (slot_at (tasks_of p) 31)) None free)) (issued_any p t)
    ∙ (ap (λ b. cond (plan_direct j) (cond (is_any_issued p.driver.requests.holders) None (Some 31)) (cond b None free)) (asks_issued p 31 (omega arith))
    ∙ (ap (λ o. cond (plan_direct j) (cond (is_any_issued p.driver.requests.holders) None (Some 31)) (cond (is_some (holder p 31)) None o)) (vacant_below p t)
    ∙ tag_by (plan_direct j) (is_any_issued p.driver.requests.holders) (is_some (holder p 31)) (free_tag p.driver.requests))))

-- a request and its tag
abbrev pub pair_of : Due → ℕ × ℕ
pair_of next = (next.id, next.tag)

abbrev paired : ℕ → ℕ → ℕ × ℕ
paired id tag = (id, tag)

with_by : (id : ℕ) (tag : Result ℕ Hold)
    → option_map (paired id) (result_ok tag) ≡ option_map pair_of (result_ok (with_tag id tag))
with_by id (Ok tag) = refl
with_by id (Err hold) = refl

issue_by : (p : PathState) (s : State) (o : Option ℕ) → s.slots ≡ tasks_of p → s.plan ≡ plan_of p → AreTied p
    → issue_of s o ≡ option_map pair_of (result_ok (due_at p.driver.requests o))
issue_by p s None same listed t = refl
issue_by p s (Some place) same listed t =
    ap (λ (q : Plan). option_map (paired (place + 1)) (tag_in s (job_of q.jobs (place + 1)) s.slots q.depth)) listed
    ∙ (ap (λ all. option_map (paired (place + 1)) (tag_in s (job_of (plan_of p).jobs (place + 1)) all (plan_of p).depth)) same
    ∙ (ap (option_map (paired (place + 1))) (tag_is p s (job_of (plan_of p).jobs (place + 1)) t)
    ∙ with_by (place + 1) (tag_of_job p.driver.requests (planned_job (plan_of p) (place + 1)))))

next_if : (s : State) → is_running s.stop ≡ true → is_calm s.recovery ≡ true → next_issue s ≡ issue_of s (next_place s)
unfolding next_issue
next_if s e f = ap (λ b. cond (b && is_calm s.recovery) (issue_of s (next_place s)) None) e ∙ ap (λ b. cond b (issue_of s (next_place s)) None) f

waiting_calm : (p : PathState) (recovers : Bool) → is_recovering p.driver.recovery ≡ recovers → recovers ≡ false → waiting_of p.driver ≡ p.driver.requests.waiting
waiting_calm p recovers e f = ap (λ b. cond b (fold waits_again p.driver.requests.waiting p.driver.requests.holders) p.driver.requests.waiting) (e ∙ f)

calm_of : (recovery : RecoveryState) → is_recovering recovery ≡ false → is_calm (recovery_of recovery) ≡ true
calm_of driver.Calm e = refl
calm_of driver.Halted e = absurd (true≢false e)
calm_of driver.Cleared e = absurd (true≢false e)
calm_of driver.Discarded e = absurd (true≢false e)
calm_of driver.Cleaned e = absurd (true≢false e)
calm_of driver.Resumed e = absurd (true≢false e)

pub issue_is : (p : PathState) (o : OrderState) (c : Context) → AreTied p → runs p ≡ true
    → next_issue (state_of p o c) ≡ option_map pair_of (result_ok (due_of p.driver.requests))
unfolding state_of due_of
issue_is p o c t goes =
    let parts = calm_if (is_recovering p.driver.recovery) p.regs.stopped goes in
    next_if (state_of p o c) (runs_calm p o c parts.0 ∙ ap not parts.1) (calm_of p.driver.recovery parts.0)
    ∙ (ap (λ all. issue_of (state_of p o c) (position (λ waits. waits) all)) (waiting_calm p (is_recovering p.driver.recovery) refl parts.0)
    ∙ issue_by p (state_of p o c) (first_waiting p.driver.requests) refl refl t)

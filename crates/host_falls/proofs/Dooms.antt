-- The request that a stop is going to end, when tasks are collected and when the stop is judged.
use Rattle.std.proofs.Common.{◌≡◌, ◌<◌, ◌≤◌, ◌+◌, ◌^◌, ◌==◌, ℕ, zero, suc, refl, sym, ◌∙◌, ap, arith, Bool, true, false, List, [], ◌∷◌}
use Rattle.std.specs.Prelude.{cond, is_some, nat_eq, nat_lt, not, IfSome, MatchOption, Option, Some, None}
use Rattle.std.proofs.lemmas.Bool.{false≢true, ltb-false, ltb-true}
use Rattle.std.proofs.lemmas.List.Sums.{sum_by-cons}
use Rattle.std.proofs.lemmas.Nat.Bits.{bit_at_above}
use Rattle.storage_machine.specs.declared.state.Stop.TheVariants as stop
use Rattle.bus_link.specs.declared.link.Cause.{Cause}
use Rattle.bus_link.specs.declared.link.Cause.TheVariants.{Bus as BusFault, Response, Dark}
use Rattle.cq_regs.specs.Slots.{has_bit, is_rung, progress_of}
use Rattle.drv_core.specs.Judge.{after_error, after_fault, after_word, ended, error_of, judged, retried}
use Rattle.drv_core.specs.State.{is_recovering}
use Rattle.drv_core.specs.declared.act.Stop.{Stop as Ending}
use Rattle.drv_core.specs.declared.act.Stop.TheVariants as ending
use Rattle.drv_jobs.specs.Changes.{faults_of, faulted, freed_from}
use Rattle.drv_jobs.specs.Standings.{Standings, holder_of}
use Rattle.drv_jobs.specs.declared.requests.TheConstants.{MOST_FAULTS}
use Rattle.drv_jobs.proofs.HolderLaws.{holder-freed_first}
use Rattle.drv_recover.specs.declared.recovery.RecoveryState.TheVariants as driver
use Rattle.world_state.specs.Path.{PathState, holder}
use Rattle.world_state.specs.Reading.{is_done, stop_by, stop_by_word, stop_of}
use Rattle.world_state.specs.Ties.{IsIssued, IsVacant, TagIsTied, named_by}
use Rattle.world_state.specs.Work.{doomed}
use Rattle.host_falls.proofs.Requests.{number_issued, one_if}
use Rattle.host_falls.proofs.Sums.{set_less, set_no_more}

-- 1 where the cause of a stop ends the request of its tag
abbrev pub doom : Option Cause → List (Option ℕ) → ℕ
doom (Some (Response word tag)) holders = doomed (stop_by_word (error_of word) (holder_of holders tag))
doom cause holders = 0

pub doomed_cause : (p : PathState) (cause : Option Cause) → doomed (stop_by p cause) ≡ doom cause p.driver.requests.holders
doomed_cause p None = refl
doomed_cause p (Some (BusFault kind None)) = refl
doomed_cause p (Some (BusFault kind (Some tag))) = refl
doomed_cause p (Some (Response word tag)) = refl
doomed_cause p (Some Dark) = refl

pub doomed_calm : (p : PathState) (stopped : Bool) → p.driver.recovery ≡ driver.Calm → p.regs.stopped ≡ stopped
    → doomed (stop_of p) ≡ cond stopped (doom p.engine.cause p.driver.requests.holders) 0
doomed_calm p stopped calm is =
    ap (λ s. doomed (cond (is_recovering s) stop.Running (cond p.regs.stopped (stop_by p p.engine.cause) stop.Running))) calm
    ∙ ap (λ b. doomed (cond b (stop_by p p.engine.cause) stop.Running)) is ∙ by stopped
  where
    by : (b : Bool) → doomed (cond b (stop_by p p.engine.cause) stop.Running) ≡ cond b (doom p.engine.cause p.driver.requests.holders) 0
    by true = doomed_cause p p.engine.cause
    by false = refl

-- it is issued
doomed_one : (why : Option Ending) (h : Option ℕ) → doomed (stop_by_word why h) ≤ one_if h
doomed_one None h = omega arith
doomed_one (Some ending.Flash) None = omega arith
doomed_one (Some ending.Flash) (Some id) = omega arith
doomed_one (Some ending.Range) None = omega arith
doomed_one (Some ending.Range) (Some id) = omega arith
doomed_one (Some ending.Retry) h = omega arith
doomed_one (Some ending.Bus) h = omega arith

issued_at : (holders : List (Option ℕ)) (tag : ℕ) → one_if (holder_of holders tag) ≤ number_issued holders
issued_at [] tag = omega arith
issued_at (holder ∷ holders) zero = let sum = sum_by-cons one_if holder holders in omega (arith, sum)
issued_at (holder ∷ holders) (suc tag) =
    let sum = sum_by-cons one_if holder holders in
    let rest = issued_at holders tag in
    omega (arith, sum, rest)

pub doom_issued : (cause : Option Cause) (holders : List (Option ℕ)) → doom cause holders ≤ number_issued holders
doom_issued None holders = omega arith
doom_issued (Some (BusFault kind tag)) holders = omega arith
doom_issued (Some Dark) holders = omega arith
doom_issued (Some (Response word tag)) holders =
    let one = doomed_one (error_of word) (holder_of holders tag) in
    let all = issued_at holders tag in
    omega (arith, one, all)

-- whatever the stop, the request that it dooms is issued
pub doomed_issued : (p : PathState) → doomed (stop_of p) ≤ number_issued p.driver.requests.holders
doomed_issued p = by (is_recovering p.driver.recovery) p.regs.stopped
  where
    by : (r s : Bool) → doomed (cond r stop.Running (cond s (stop_by p p.engine.cause) stop.Running)) ≤ number_issued p.driver.requests.holders
    by true s = omega arith
    by false true =
        let most = doom_issued p.engine.cause p.driver.requests.holders in
        let same = doomed_cause p p.engine.cause in
        omega (arith, most, same)
    by false false = omega arith

-- a task that is notified is issued
pub done_held : (p : PathState) (tag : ℕ) → TagIsTied p tag → is_done p tag ≡ true → is_some (holder p tag) ≡ true
done_held p tag tied done = by (holder p tag) tied
  where
    by : (h : Option ℕ) → MatchOption h (IsVacant p tag) (IsIssued p tag) → is_some h ≡ true
    by None v = let silent = v.silent in absurd (false≢true (sym silent ∙ done))
    by (Some id) i = refl

-- the slot of a stop is not notified
not_flip : (b : Bool) → not b ≡ true → b ≡ false
not_flip true e = absurd (false≢true e)
not_flip false e = refl

rung_silent : (p : PathState) (tag : ℕ) → TagIsTied p tag → is_rung (progress_of p.regs.ring tag) ≡ true → is_done p tag ≡ false
rung_silent p tag tied rung = by (holder p tag) tied
  where
    by : (h : Option ℕ) → MatchOption h (IsVacant p tag) (IsIssued p tag) → is_done p tag ≡ false
    by None v = v.silent
    by (Some id) i = not_flip (is_done p tag) (sym i.rung ∙ rung)

silent_within : (p : PathState) (tag : ℕ) (within : Bool) → nat_lt tag 32 ≡ within → p.regs.completed < 2 ^ 32 → (tag < 32 → TagIsTied p tag)
    → is_rung (progress_of p.regs.ring tag) ≡ true → is_done p tag ≡ false
silent_within p tag true e small tied rung = rung_silent p tag (tied (ltb-true tag 32 e)) rung
silent_within p tag false e small tied rung = ap (λ n. nat_eq n 1) (bit_at_above p.regs.completed 32 tag small (ltb-false tag 32 e))

freed_other : (word tag : ℕ) (holders : List (Option ℕ)) → has_bit word tag ≡ false → holder_of (freed_from word 0 holders) tag ≡ holder_of holders tag
freed_other word tag holders e = holder-freed_first word holders tag ∙ ap (λ b. cond b None (holder_of holders tag)) e

-- the notified tasks are collected: the same request is doomed
pub doom_freed : (p : PathState) (cause : Option Cause) → p.regs.completed < 2 ^ 32 → ((tag : ℕ) → tag < 32 → TagIsTied p tag)
    → IfSome (named_by cause) (λ tag. is_rung (progress_of p.regs.ring tag) ≡ true)
    → doom cause (freed_from p.regs.completed 0 p.driver.requests.holders) ≡ doom cause p.driver.requests.holders
doom_freed p None small tied names = refl
doom_freed p (Some (BusFault kind tag)) small tied names = refl
doom_freed p (Some Dark) small tied names = refl
doom_freed p (Some (Response word tag)) small tied names =
    ap (λ h. doomed (stop_by_word (error_of word) h))
    (freed_other p.regs.completed tag p.driver.requests.holders (silent_within p tag (nat_lt tag 32) refl small (tied tag) names))

-- the stop is judged: the doomed request is answered
counted_waits : (s : Standings) (tag id : ℕ) (last : Bool) → (cond last (ended s tag id ending.Bus) (retried s)).requests.waiting ≡ s.waiting
counted_waits s tag id true = refl
counted_waits s tag id false = refl

fault_waits : (s : Standings) (tag : ℕ) (h : Option ℕ) → (after_fault s tag h).requests.waiting ≡ s.waiting
fault_waits s tag None = refl
fault_waits s tag (Some id) = counted_waits (faulted s id) tag id (faults_of (faulted s id) id == MOST_FAULTS)

error_waits : (s : Standings) (tag : ℕ) (why : Ending) (h : Option ℕ) → (after_error s tag why h).requests.waiting ≡ s.waiting
error_waits s tag why None = refl
error_waits s tag why (Some id) = refl

word_waits : (s : Standings) (tag : ℕ) (why : Option Ending) → (after_word s tag why).requests.waiting ≡ s.waiting
word_waits s tag None = refl
word_waits s tag (Some why) = error_waits s tag why (holder_of s.holders tag)

pub judge_waits : (s : Standings) (cause : Option Cause) → (judged s cause).requests.waiting ≡ s.waiting
judge_waits s None = refl
judge_waits s (Some (BusFault kind None)) = refl
judge_waits s (Some (BusFault kind (Some tag))) = fault_waits s tag (holder_of s.holders tag)
judge_waits s (Some (Response word tag)) = word_waits s tag (error_of word)
judge_waits s (Some Dark) = refl

counted_most : (s : Standings) (tag id : ℕ) (last : Bool)
    → number_issued (cond last (ended s tag id ending.Bus) (retried s)).requests.holders ≤ number_issued s.holders
counted_most s tag id true = set_no_more is_some s.holders tag None refl
counted_most s tag id false = omega arith

fault_most : (s : Standings) (tag : ℕ) (h : Option ℕ) → number_issued (after_fault s tag h).requests.holders ≤ number_issued s.holders
fault_most s tag None = omega arith
fault_most s tag (Some id) = counted_most (faulted s id) tag id (faults_of (faulted s id) id == MOST_FAULTS)

error_most : (s : Standings) (tag : ℕ) (why : Ending) (h : Option ℕ) → holder_of s.holders tag ≡ h
    → number_issued (after_error s tag why h).requests.holders + doomed (stop_by_word (Some why) h) ≤ number_issued s.holders
error_most s tag why None is = let one = doomed_one (Some why) None in omega (arith, one)
error_most s tag why (Some id) is =
    let one = doomed_one (Some why) (Some id) in
    let less = set_less is_some s.holders tag None None refl refl (ap is_some is) in
    omega (arith, one, less)

word_most : (s : Standings) (tag : ℕ) (why : Option Ending)
    → number_issued (after_word s tag why).requests.holders + doomed (stop_by_word why (holder_of s.holders tag)) ≤ number_issued s.holders
word_most s tag None = omega arith
word_most s tag (Some why) = error_most s tag why (holder_of s.holders tag) refl

pub judge_most : (s : Standings) (cause : Option Cause)
    → number_issued (judged s cause).requests.holders + doom cause s.holders ≤ number_issued s.holders
judge_most s None = omega arith
judge_most s (Some (BusFault kind None)) = omega arith
judge_most s (Some (BusFault kind (Some tag))) =
    let most = fault_most s tag (holder_of s.holders tag) in omega (arith, most)
judge_most s (Some (Response word tag)) = word_most s tag (error_of word)
judge_most s (Some Dark) = omega arith

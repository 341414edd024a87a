-- Where the host has nothing to do and no slot is rung, a request that has no answer waits for the timer.
use Rattle.std.proofs.Common.{◌≡◌, ◌⊎◌, ◌<◌, ◌≤◌, ◌+◌, ◌==◌, ◌&&◌, ◌||◌, ℕ, zero, suc, refl, sym, ◌∙◌, ap, arith, Bool, true, false, List, [], ◌∷◌, length, inl, inr}
use Rattle.std.specs.Prelude.{cond, is_none, is_ok, is_some, nat_eq, nat_lt, not, MatchOption, Option, Some, None, Result, Ok, Err}
use Rattle.std.specs.Int.RustNames.{bit_and}
use Rattle.std.specs.List.{find, list_any, range_with_len}
use Rattle.std.specs.Option.{ok_or}
use Rattle.std.proofs.lemmas.Bool.{eqb-false, eqb-true, false≢true, ltb-false, ltb-true}
use Rattle.std.proofs.lemmas.List.{get_or_past}
use Rattle.std.proofs.lemmas.List.Sums.{sum_by-cons}
use Rattle.std.proofs.lemmas.Nat.Bits.{bit_at-zero}
use Rattle.storage_model.specs.Plan.{is_direct}
use Rattle.cq_regs.specs.Slots.{has_bit, is_rung, progress_of}
use Rattle.cq_regs.specs.State.{Registers}
use Rattle.drv_core.specs.State.{is_recovering}
use Rattle.drv_core.specs.Work.{has_work, is_noticed, is_possible, work_of}
use Rattle.drv_core.specs.declared.work.Work.TheVariants.{Collect, Fail, Issue}
use Rattle.drv_jobs.proofs.CountLaws.{lowest}
use Rattle.drv_jobs.proofs.NextLaws.{due-waits}
use Rattle.drv_jobs.specs.Next.{due_of, free_tag, tag_for, with_tag}
use Rattle.drv_jobs.specs.Standings.{Standings, holder_of, is_any_issued, is_used, job_of}
use Rattle.drv_jobs.specs.declared.next.Hold.{Hold}
use Rattle.drv_jobs.specs.declared.next.Hold.TheVariants.{Behind, Full}
use Rattle.drv_jobs.specs.declared.next.TheConstants.{DIRECT_TAG}
use Rattle.drv_recover.specs.declared.recovery.RecoveryState.TheVariants as driver
use Rattle.world_state.specs.Path.{PathState, holder}
use Rattle.world_state.specs.Reading.{is_done, is_free, notice_of}
use Rattle.world_state.specs.Ties.{AreTied, IsIssued, IsVacant, TagIsTied}
use Rattle.world_state.specs.Work.{issued, waiting}
use Rattle.host_falls.proofs.Requests.{number_issued, number_waiting, one_if}

-- no tag is issued
none_counted : (holders : List (Option ℕ)) → ((tag : ℕ) → is_some (holder_of holders tag) ≡ false) → number_issued holders ≡ 0
none_counted [] none = refl
none_counted (holder ∷ holders) none =
    let sum = sum_by-cons one_if holder holders in
    let first : one_if holder ≡ 0 = ap (λ b. cond b 1 0) (none 0) in
    let rest = none_counted holders (λ tag. none (suc tag)) in
    omega (arith, sum, first, rest)

none_any : (holders : List (Option ℕ)) → ((tag : ℕ) → is_some (holder_of holders tag) ≡ false) → is_any_issued holders ≡ false
none_any [] none = refl
none_any (holder ∷ holders) none = ap (λ b. b || list_any is_some holders) (none 0) ∙ none_any holders (λ tag. none (suc tag))

-- a request that waits is due then
some_lowest : (xs : List Bool) → 1 ≤ number_waiting xs → lowest xs < length xs
some_lowest [] some = absurd (omega (arith, some))
some_lowest (true ∷ xs) some = omega arith
some_lowest (false ∷ xs) some =
    let sum = sum_by-cons (λ waits. cond waits 1 0) false xs in
    let rest = some_lowest xs (omega (arith, sum, some)) in
    omega (arith, rest)

first_free : (depth : ℕ) (p : ℕ → Bool) → 1 ≤ depth → p 0 ≡ true → find p (range_with_len 0 depth) ≡ Some 0
first_free zero p some e = absurd (omega (arith, some))
first_free (suc depth) p some e = ap (λ b. cond b (Some 0) (find p (range_with_len (0 + 1) depth))) e

not_some : (h : Option ℕ) → is_some h ≡ false → is_none h ≡ true
not_some None e = refl
not_some (Some id) e = absurd (false≢true (sym e))

tag_if : (direct any used : Bool) (free : Option ℕ) → any ≡ false → used ≡ false → free ≡ Some 0
    → is_ok (cond direct (cond any (Err Behind) (Ok DIRECT_TAG)) (cond used (Err Behind) (ok_or free Full))) ≡ true
tag_if true true used free a u f = absurd (false≢true (sym a))
tag_if true false used free a u f = refl
tag_if false any true free a u f = absurd (false≢true (sym u))
tag_if false any false (Some tag) a u f = refl
tag_if false any false None a u f = absurd (cc f)

ok_with : (id : ℕ) (tag : Result ℕ Hold) → is_ok tag ≡ true → is_ok (with_tag id tag) ≡ true
ok_with id (Ok tag) e = refl
ok_with id (Err hold) e = absurd (false≢true e)

issues : (s : Standings) → 1 ≤ s.plan.depth → ((tag : ℕ) → is_some (holder_of s.holders tag) ≡ false) → 1 ≤ number_waiting s.waiting → is_ok (due_of s) ≡ true
issues s depth none some =
    let job = job_of s.plan (lowest s.waiting + 1) in
    let free : free_tag s ≡ Some 0 = first_free s.plan.depth (λ tag. is_none (holder_of s.holders tag)) depth (not_some (holder_of s.holders 0) (none 0)) in
    let ok : is_ok (tag_for s job) ≡ true = tag_if (is_direct job) (is_any_issued s.holders) (is_used s.holders DIRECT_TAG) (free_tag s) (none_any s.holders none) (none DIRECT_TAG) free in
    ap is_ok (due-waits s (some_lowest s.waiting some)) ∙ ok_with (lowest s.waiting + 1) (tag_for s job) ok

-- the work of a host that rests
work_if : (noticed stopped : Bool) (s : Standings) → stopped ≡ false → is_possible (cond noticed Collect (cond stopped Fail Issue)) s ≡ false
    → (noticed ≡ false) × (is_ok (due_of s) ≡ false)
work_if true stopped s running e = absurd (false≢true (sym e))
work_if false true s running e = absurd (false≢true (sym running))
work_if false false s running e = (refl, e)

pub no_work : (p : PathState) → p.driver.recovery ≡ driver.Calm → p.regs.stopped ≡ false → has_work p.driver p.regs ≡ false
    → (is_noticed p.regs ≡ false) × (is_ok (due_of p.driver.requests) ≡ false)
no_work p calm running e =
    work_if (is_noticed p.regs) p.regs.stopped p.driver.requests running
    (sym (ap (λ s. is_possible (work_of s p.regs) p.driver.requests) calm) ∙ e)

-- where nothing is notified, no tag is issued
none_at : (p : PathState) (tag : ℕ) → TagIsTied p tag → p.regs.ring ≡ [] → p.regs.completed ≡ 0 → is_some (holder p tag) ≡ false
none_at p tag tied ring none = by (holder p tag) tied
  where
    by : (h : Option ℕ) → MatchOption h (IsVacant p tag) (IsIssued p tag) → is_some h ≡ false
    by None v = refl
    by (Some id) i =
        let idle : is_rung (progress_of p.regs.ring tag) ≡ false = ap (λ ring. is_rung (progress_of ring tag)) ring in
        let silent : is_done p tag ≡ false = ap (λ n. has_bit n tag) none ∙ ap (λ n. nat_eq n 1) (bit_at-zero tag) in
        absurd (false≢true (sym idle ∙ i.rung ∙ ap not silent))

none_of : (p : PathState) (tag : ℕ) (within : Bool) → nat_lt tag 32 ≡ within → length p.driver.requests.holders ≡ 32 → (tag < 32 → TagIsTied p tag) → p.regs.ring ≡ []
    → p.regs.completed ≡ 0 → is_some (holder p tag) ≡ false
none_of p tag true e size tied ring none = none_at p tag (tied (ltb-true tag 32 e)) ring none
none_of p tag false e size tied ring none =
    let past = ltb-false tag 32 e in
    ap is_some (get_or_past p.driver.requests.holders tag None (omega (arith, past, size)))

-- so the counter is not 0
noticed_by : (regs : Registers) → (regs.completed == 0) ≡ false → regs.interrupts ≡ 2 → regs.signal_enable ≡ 2 → is_noticed regs ≡ true
noticed_by regs some up on =
    ap (λ b. not b && (not (bit_and regs.interrupts regs.signal_enable == 0) || regs.stopped)) some
    ∙ ap (λ n. not (bit_and n regs.signal_enable == 0) || regs.stopped) up ∙ ap (λ n. not (bit_and 2 n == 0) || regs.stopped) on

told_counts : (p : PathState) → AreTied p → p.driver.recovery ≡ driver.Calm → is_noticed p.regs ≡ false → (p.regs.completed == 0) ≡ false
    → (notice_of p ≡ true) ⊎ (0 < p.regs.coalescing.counter) → 0 < p.regs.coalescing.counter
told_counts p t calm quiet some (inr counts) = counts
told_counts p t calm quiet some (inl notice) = elim t.regs.notice [
  | inl none ↦
      absurd (false≢true (sym (ap (λ s. cond (is_free s) false (has_bit p.regs.interrupts 1)) calm ∙ ap (λ n. has_bit n 1) none) ∙ notice))
  | inr up ↦
      absurd (false≢true (sym quiet ∙ noticed_by p.regs some up (ap (λ (r : Registers). r.signal_enable) t.regs.same)))
]

counts_if : (p : PathState) (none : Bool) → (p.regs.completed == 0) ≡ none → AreTied p → p.driver.recovery ≡ driver.Calm
    → is_noticed p.regs ≡ false → is_ok (due_of p.driver.requests) ≡ false → p.regs.ring ≡ [] → 1 ≤ waiting p + issued p → 0 < p.regs.coalescing.counter
counts_if p true e t calm quiet idle ring some =
    let zero_is = eqb-true p.regs.completed 0 e in
    let none : (tag : ℕ) → is_some (holder p tag) ≡ false = λ tag. none_of p tag (nat_lt tag 32) refl t.sound.holders (t.tags (ap is_recovering calm) tag) ring zero_is in
    let free : issued p ≡ 0 = none_counted p.driver.requests.holders none in
    absurd (false≢true (sym idle ∙ issues p.driver.requests t.sound.plan.depth.0 none (omega (arith, free, some))))
counts_if p false e t calm quiet idle ring some = told_counts p t calm quiet e (t.told (eqb-false p.regs.completed 0 e))

pub counts : (p : PathState) → AreTied p → p.driver.recovery ≡ driver.Calm → p.regs.stopped ≡ false → has_work p.driver p.regs ≡ false → p.regs.ring ≡ []
    → 1 ≤ waiting p + issued p → 0 < p.regs.coalescing.counter
counts p t calm running idle ring some =
    let none = no_work p calm running idle in
    counts_if p (p.regs.completed == 0) refl t calm none.0 none.1 ring some

-- The ties after a stop is judged, and a recovery begins.
use Rattle.std.proofs.Common.{◌≡◌, ◌∙◌, ◌<◌, ◌-◌, ◌==◌, ℕ, Bool, true, false, List, Option, None, Some, is_some, get_or, slice_set, refl, ap, sym, subst, arith, get_or-set_other, get_or-set_same, eqb-true, nat_eq}
use Rattle.std.proofs.lemmas.Bool.{eqb-false, false≢true}
use Rattle.std.specs.Option.{IsSomeAnd}
use Rattle.storage_model.specs.declared.plan.Plan.{Plan}
use Rattle.drv_core.proofs.Plans.{judged-plan}
use Rattle.drv_core.specs.Judge.{Judged, judged}
use Rattle.drv_core.specs.State.{layout_of}
use Rattle.drv_jobs.proofs.HolderLaws.{AreFewer, fewer-set, holder-freed}
use Rattle.drv_jobs.specs.Changes.{answered, faulted, faults_of, one_more}
use Rattle.drv_jobs.specs.Sound.{IsSound}
use Rattle.drv_jobs.specs.Standings.{Standings, holder_of, is_waiting}
use Rattle.drv_jobs.specs.declared.requests.TheConstants.{MOST_FAULTS}
use Rattle.drv_recover.specs.declared.recovery.RecoveryState.TheVariants as driver
use Rattle.drv_ring.specs.Layout.{HasLayout}
use Rattle.host_laws.proofs.Held.{held_back}
use Rattle.host_laws.proofs.Judged.{Judgement, counts, exceeds, flash, judgement, leaves, range}
use Rattle.host_laws.proofs.Paths.{path_at, set_up_halted}
use Rattle.host_laws.proofs.Recovered.{begun_none, none_stopped}
use Rattle.bus_link.specs.declared.link.Cause.{Cause}
use Rattle.world_state.specs.Path.{PathState, plan_of}
use Rattle.world_state.specs.Ties.{AreBorne, AreTied, HasSetUp, IsCardOf}

-- how the requests stand: each that has no answer was named by fewer faults than end it
abbrev pub BearWaiting : Standings → Type 0
BearWaiting s = (id : ℕ) → is_waiting s.waiting id ≡ true → faults_of s id < MOST_FAULTS

abbrev pub BearIssued : Standings → Type 0
BearIssued s = (tag id : ℕ) → holder_of s.holders tag ≡ Some id → faults_of s id < MOST_FAULTS

-- the faults of another request stay, and of a request in its place they are as many
pub faulted_other : (s : Standings) (id j : ℕ) → ((j - 1) == (id - 1)) ≡ false → faults_of (faulted s id) j ≡ faults_of s j
faulted_other s id j e = get_or-set_other s.faults (id - 1) (j - 1) (one_more (faults_of s id)) 0 (eqb-false (j - 1) (id - 1) e)

pub faulted_same : (s : Standings) (id j : ℕ) → ((j - 1) == (id - 1)) ≡ true → faults_of (faulted s id) j ≡ faults_of (faulted s id) id
faulted_same s id j e = ap (λ n. get_or (faulted s id).faults n 0) (eqb-true (j - 1) (id - 1) e)

-- one whose place is that of an issued one doesn't wait
pub not_waiting : (s : Standings) (tag id j : ℕ) → IsSound s → holder_of s.holders tag ≡ Some id → ((j - 1) == (id - 1)) ≡ true → is_waiting s.waiting j ≡ true → false ≡ true
not_waiting s tag id j sound h e waits =
    sym (sound.held tag id h).waits ∙ (sym (ap (λ n. get_or s.waiting n false) (eqb-true (j - 1) (id - 1) e)) ∙ waits)

-- the place of an issued request is its alone
pub same_tag : (s : Standings) (tag id other j : ℕ) → IsSound s → holder_of s.holders tag ≡ Some id → holder_of s.holders other ≡ Some j
    → ((j - 1) == (id - 1)) ≡ true → other ≡ tag
same_tag s tag id other j sound h g e =
    let one = (sound.held tag id h).above in
    let two = (sound.held other j g).above in
    let at = eqb-true (j - 1) (id - 1) e in
    let same : j ≡ id = omega (arith, one, two, at) in
    (sound.held tag id h).apart other (g ∙ ap Some same)

noted_least : (n : ℕ) → (one_more n == MOST_FAULTS) ≡ false → one_more n < MOST_FAULTS
noted_least n e = let apart = eqb-false (one_more n) MOST_FAULTS e in omega (arith, apart)

pub noted_is : (s : Standings) (tag id : ℕ) → IsSound s → holder_of s.holders tag ≡ Some id → faults_of (faulted s id) id ≡ one_more (faults_of s id)
noted_is s tag id sound h =
    let held = sound.held tag id h in
    let above = held.above in
    let below = held.below in
    let waits = sound.waiting in
    let faults = sound.faults in
    get_or-set_same s.faults (id - 1) (one_more (faults_of s id)) 0 (omega (arith, above, below, waits, faults))

waiting_by : (s : Standings) (tag id j : ℕ) (b : Bool) → ((j - 1) == (id - 1)) ≡ b → IsSound s → holder_of s.holders tag ≡ Some id → BearWaiting s
    → is_waiting s.waiting j ≡ true → faults_of (faulted s id) j < MOST_FAULTS
waiting_by s tag id j true e sound h bear waits = absurd (false≢true (not_waiting s tag id j sound h e waits))
waiting_by s tag id j false e sound h bear waits = rw (faulted_other s id j e) (bear j waits)

bear_noted : (s : Standings) (tag id : ℕ) → IsSound s → holder_of s.holders tag ≡ Some id → BearWaiting s → BearWaiting (faulted s id)
bear_noted s tag id sound h bear j waits = waiting_by s tag id j ((j - 1) == (id - 1)) refl sound h bear waits

issued_by : (s : Standings) (tag id other j : ℕ) (b : Bool) → ((j - 1) == (id - 1)) ≡ b → IsSound s → holder_of s.holders tag ≡ Some id → BearIssued s
    → (faults_of (faulted s id) id == MOST_FAULTS) ≡ false → holder_of s.holders other ≡ Some j → faults_of (faulted s id) j < MOST_FAULTS
issued_by s tag id other j true e sound h bear few g =
    let is = noted_is s tag id sound h in
    rw (faulted_same s id j e, is) (noted_least (faults_of s id) (ap (λ n. nat_eq n MOST_FAULTS) (sym is) ∙ few))
issued_by s tag id other j false e sound h bear few g = rw (faulted_other s id j e) (bear other j g)

bear_counted : (s : Standings) (tag id : ℕ) → IsSound s → holder_of s.holders tag ≡ Some id → BearIssued s
    → (faults_of (faulted s id) id == MOST_FAULTS) ≡ false → BearIssued (faulted s id)
bear_counted s tag id sound h bear few other j g = issued_by s tag id other j ((j - 1) == (id - 1)) refl sound h bear few g

pub freed_none : (holders : List (Option ℕ)) (tag other j : ℕ) → holder_of (slice_set holders tag None) other ≡ Some j → other ≡ tag → false ≡ true
freed_none holders tag other j g e =
    let none : holder_of (slice_set holders tag None) other ≡ None = ap (λ n. holder_of (slice_set holders tag None) n) e ∙ holder-freed holders tag in
    absurd (cc (none, g))

ended_by : (s : Standings) (tag id other j : ℕ) (b : Bool) → ((j - 1) == (id - 1)) ≡ b → IsSound s → holder_of s.holders tag ≡ Some id → BearIssued s
    → holder_of (slice_set s.holders tag None) other ≡ Some j → faults_of (faulted s id) j < MOST_FAULTS
ended_by s tag id other j true e sound h bear g =
    absurd (false≢true (freed_none s.holders tag other j g (same_tag s tag id other j sound h (fewer-set s.holders tag other j g) e)))
ended_by s tag id other j false e sound h bear g = rw (faulted_other s id j e) (bear other j (fewer-set s.holders tag other j g))

bear_exceeded : (s : Standings) (tag id : ℕ) → IsSound s → holder_of s.holders tag ≡ Some id → BearIssued s → BearIssued (answered (faulted s id) tag)
bear_exceeded s tag id sound h bear other j g = ended_by s tag id other j ((j - 1) == (id - 1)) refl sound h bear g

bear_answered : (s : Standings) (tag : ℕ) → BearIssued s → BearIssued (answered s tag)
bear_answered s tag bear other j g = bear other j (fewer-set s.holders tag other j g)

-- as they stand after the stop
pub record StandAfter (old new : Standings) : Type 0 where
  pub waiting : BearWaiting new
  pub issued : BearIssued new
  pub fewer : AreFewer old.holders new.holders

pub stand_after : (p : PathState) (cause : Option Cause) → IsSound p.driver.requests → AreBorne p → Judgement p cause
    → StandAfter p.driver.requests (judged p.driver.requests cause).requests
stand_after p cause sound b (leaves s j) =
    subst (λ (x : Judged). StandAfter p.driver.requests x.requests) (sym j) (record { waiting = b.waiting; issued = b.issued; fewer = λ tag id e. e })
stand_after p cause sound b (counts tag id h s few j) =
    subst (λ (x : Judged). StandAfter p.driver.requests x.requests) (sym j) (record {
      waiting = bear_noted p.driver.requests tag id sound h b.waiting;
      issued = bear_counted p.driver.requests tag id sound h b.issued few;
      fewer = λ tag id e. e;
    })
stand_after p cause sound b (exceeds tag id h s last j) =
    subst (λ (x : Judged). StandAfter p.driver.requests x.requests) (sym j) (record {
      waiting = bear_noted p.driver.requests tag id sound h b.waiting;
      issued = bear_exceeded p.driver.requests tag id sound h b.issued;
      fewer = fewer-set p.driver.requests.holders tag;
    })
stand_after p cause sound b (flash tag id h s j) =
    subst (λ (x : Judged). StandAfter p.driver.requests x.requests) (sym j) (record {
      waiting = b.waiting;
      issued = bear_answered p.driver.requests tag b.issued;
      fewer = fewer-set p.driver.requests.holders tag;
    })
stand_after p cause sound b (range tag id h s j) =
    subst (λ (x : Judged). StandAfter p.driver.requests x.requests) (sym j) (record {
      waiting = b.waiting;
      issued = bear_answered p.driver.requests tag b.issued;
      fewer = fewer-set p.driver.requests.holders tag;
    })

-- a direct request that is left is alone still
some_is : (holder : Option ℕ) → is_some holder ≡ true → IsSomeAnd holder (λ id. holder ≡ Some id)
some_is None e = absurd (false≢true e)
some_is (Some id) e = refl

fewer_some : (old new : List (Option ℕ)) (tag : ℕ) (found : Option ℕ) → holder_of new tag ≡ found → AreFewer old new → is_some found ≡ true → is_some (holder_of old tag) ≡ true
fewer_some old new tag None h fewer e = absurd (false≢true e)
fewer_some old new tag (Some id) h fewer e = ap is_some (fewer tag id h)

fewer_none : (old new : List (Option ℕ)) (tag : ℕ) (found : Option ℕ) → holder_of new tag ≡ found → AreFewer old new → holder_of old tag ≡ None → found ≡ None
fewer_none old new tag None h fewer e = refl
fewer_none old new tag (Some id) h fewer e = absurd (cc (e, fewer tag id h))

pub alone_fewer : (old new : List (Option ℕ)) → AreFewer old new
    → (is_some (holder_of old 31) ≡ true → (tag : ℕ) → tag < 31 → holder_of old tag ≡ None)
    → is_some (holder_of new 31) ≡ true → (tag : ℕ) → tag < 31 → holder_of new tag ≡ None
alone_fewer old new fewer alone e tag low =
    fewer_none old new tag (holder_of new tag) refl fewer (alone (fewer_some old new 31 (holder_of new 31) refl fewer e) tag low)

-- the path after it
abbrev pub failed_at : PathState → Option Cause → PathState
failed_at p cause =
    path_at (judged p.driver.requests cause).requests driver.Halted (record p.regs { halted = true }) p.memory p.engine p.card p.script

pub tied_failed : (p : PathState) (cause : Option Cause) → AreTied p → p.regs.stopped ≡ true → p.regs.completed ≡ 0
    → IsSound (judged p.driver.requests cause).requests → AreTied (failed_at p cause)
tied_failed p cause t stopped none sound =
    let after = stand_after p cause t.sound t.borne (judgement p cause) in
    let plan = judged-plan p.driver.requests cause in
    held_back (failed_at p cause) (record {
      recovering = refl;
      sound = sound;
      layout_fits = subst (λ (plan : Plan). HasLayout p.memory (layout_of plan)) (sym plan) t.layout_fits;
      holds = record { cause = t.holds.cause; tasks = t.holds.tasks };
      lie = t.lie;
      counts = t.counts;
      one = t.one;
      regs = subst (λ (plan : Plan). HasSetUp plan (record p.regs { halted = true })) (sym plan) (set_up_halted (plan_of p) p.regs t.regs);
      card = subst (λ (plan : Plan). IsCardOf plan p.card) (sym plan) t.card;
      store = t.store;
      script = t.script;
      borne = record { waiting = after.waiting; issued = after.issued };
      recovery_at = refl;
      halts = λ e. stopped;
      completed = none;
      alone = alone_fewer p.driver.requests.holders (judged p.driver.requests cause).requests.holders after.fewer t.alone;
      emptied = λ e tag. absurd (false≢true e);
      begun = begun_none p t (none_stopped p stopped);
      names = t.names;
      none = none_stopped (failed_at p cause) stopped;
    })

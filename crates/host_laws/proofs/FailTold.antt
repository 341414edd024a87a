-- What a stop tells.
use Rattle.std.proofs.Common.{◌≡◌, ◌≢◌, ◌∙◌, ◌+◌, ◌-◌, ◌==◌, ◌&&◌, ◌||◌, ℕ, Bool, true, false, not, List, [], ◌∷◌, Option, None, Some, length, min, nat_eq, refl, ap, sym, subst, arith, eqb-true, eq-eqb, if◌then◌else◌}
use Rattle.std.proofs.lemmas.Bool.{eqb-false, false≢true}
use Rattle.storage_model.specs.declared.faults.Letter.TheVariants.{Host as HostActs}
use Rattle.storage_model.specs.declared.trace.Item.{Item}
use Rattle.storage_model.specs.declared.trace.Item.TheVariants.{Recover, Fault, Refused}
use Rattle.storage_model.specs.declared.trace.Limit.TheVariants.{Range as ByRange}
use Rattle.storage_model.specs.declared.trace.Why.{Why}
use Rattle.storage_model.specs.declared.trace.Why.TheVariants.{Bus as ByBus, Flash as ByFlash}
use Rattle.storage_machine.specs.Commands.{is_calm, is_running}
use Rattle.storage_machine.specs.Host.{has_work, is_fault_of, is_irq_due, is_silent, is_stopped, named_times}
use Rattle.storage_machine.specs.Slots.{has}
use Rattle.storage_machine.specs.declared.slots.Question.TheVariants.{Done as IsDone}
use Rattle.storage_machine.specs.declared.state.State.{State}
use Rattle.storage_machine.specs.declared.state.Stop.{Stop}
use Rattle.storage_machine.specs.declared.state.Stop.TheVariants as stop
use Rattle.storage_order.specs.Events.{Happens}
use Rattle.trace_effects.specs.Effects.{after_fault, after_recover}
use Rattle.trace_rules.specs.Lines.{fault_holds, is_fault, is_refusal, refused_holds}
use Rattle.array_edge.specs.Array.{ArrayState}
use Rattle.bus_link.specs.declared.link.Cause.{Cause}
use Rattle.cut_order.specs.Order.{OrderState}
use Rattle.drv_core.specs.Event.{Fails}
use Rattle.drv_core.specs.Judge.{Judged, ended, judged, retried}
use Rattle.drv_core.specs.State.{is_recovering}
use Rattle.drv_core.specs.Work.{is_possible, work_of}
use Rattle.drv_core.specs.declared.act.Act.{Act}
use Rattle.drv_core.specs.declared.act.Stop.TheVariants.{Bus, Flash, Range}
use Rattle.drv_core.specs.declared.work.Work.TheVariants.{Fail}
use Rattle.drv_jobs.proofs.HolderLaws.{fewer-set}
use Rattle.drv_jobs.specs.Changes.{answered, faulted, faults_of}
use Rattle.drv_jobs.specs.Sound.{IsSound}
use Rattle.drv_jobs.specs.Standings.{Standings, holder_of, is_waiting}
use Rattle.drv_recover.specs.declared.recovery.RecoveryState.TheVariants as driver
use Rattle.host_laws.proofs.Begun.{fault_happens, recover_happens, refusal_happens}
use Rattle.host_laws.proofs.FailTells.{ended_state, retried_state}
use Rattle.host_laws.proofs.Failed.{failed_at, faulted_other, not_waiting, noted_is}
use Rattle.host_laws.proofs.Judged.{Judgement, counts, exceeds, flash, leaves, range}
use Rattle.host_laws.proofs.Paths.{path_at, same_array}
use Rattle.host_laws.proofs.Quiet.{agrees_quiet, not_busy}
use Rattle.host_laws.proofs.Recovered.{none_stopped}
use Rattle.host_laws.proofs.Recoveries.{event_at, owed_at, placed, recovery_at}
use Rattle.host_laws.proofs.TiesKept.{IsCalm, fails_to, none_completed}
use Rattle.world_state.specs.Host.{HostEvent, cause_of, host_lines, moment_of}
use Rattle.world_state.specs.Laws.{StateLaws}
use Rattle.world_state.specs.Path.{PathState, holder, plan_of}
use Rattle.world_state.specs.Reading.{Context, recovery_of, state_of, stop_by, stop_of}
use Rattle.world_state.specs.Stands.{Agrees, AreNamed, named_at, names, sent_of}
use Rattle.world_state.specs.Ties.{AreTied}
use Rattle.world_state.specs.Told.{Tells, Told}

-- why the engine stands still
stop_at : (p : PathState) (o : OrderState) (c : Context) → (state_of p o c).stop ≡ stop_of p
unfolding state_of
stop_at p o c = refl

named_list : (p : PathState) (o : OrderState) (c : Context) → (state_of p o c).named ≡ c.named
unfolding state_of
named_list p o c = refl

stop_when : (recovering stopped : Bool) (by : Option Cause → Stop) (cause : Option Cause) → recovering ≡ false → stopped ≡ true
    → (if recovering then stop.Running else if stopped then by cause else stop.Running) ≡ by (if stopped then cause else None)
stop_when true stopped by cause a b = absurd (false≢true (sym a))
stop_when false true by cause a b = refl
stop_when false false by cause a b = absurd (false≢true b)

stopped_by : (p : PathState) → IsCalm p false true → stop_of p ≡ stop_by p (cause_of p)
stopped_by p c = stop_when (is_recovering p.driver.recovery) p.regs.stopped (stop_by p) p.engine.cause (ap is_recovering c.calm) c.stop

-- the engine stands still, and nothing is done
not_done : (done notice still : Bool) → (done && (notice || still)) ≡ false → still ≡ true → done ≡ false
not_done true true still e s = absurd (false≢true (sym e))
not_done true false still e s = absurd (false≢true (sym e ∙ s))
not_done false notice still e s = refl

stands_still : (s : State) → is_running s.stop ≡ false → is_calm s.recovery ≡ true → is_irq_due s ≡ false → is_stopped s ≡ true
stands_still s still calm quiet =
    rw (still, calm, not_done (has IsDone s.slots) s.notice (not (is_running s.stop)) quiet (ap not still)) refl

-- the stop of each judgement
not_moving : (p : PathState) (cause : Option Cause) → Judgement p cause → is_running (stop_by p cause) ≡ false
not_moving p cause (leaves s j) = ap is_running s
not_moving p cause (counts tag id h s few j) = ap is_running s
not_moving p cause (exceeds tag id h s last j) = ap is_running s
not_moving p cause (flash tag id h s j) = ap is_running s
not_moving p cause (range tag id h s j) = ap is_running s

-- how often faults named a request, before and after
sum_min : (n : ℕ) → min (n + 1) 4 ≡ min (min (n + 1) 4 + 0) 4
sum_min n = omega arith

names_if : (b : Bool) (named j : ℕ) → (named == j) ≡ b → names (stop.Bus (Some named)) j ≡ (if b then 1 else 0)
names_if b named j e = ap (λ x. if x then 1 else 0) e

unlike : (n m : ℕ) (b : Bool) → (n == m) ≡ b → n ≢ m → b ≡ false
unlike n m true e h = absurd (h (eqb-true n m e))
unlike n m false e h = refl

-- of a request that has a tag, where a fault named one
named_issued : (p : PathState) (named : List ℕ) (tag id other j : ℕ) (b : Bool) → ((j - 1) == (id - 1)) ≡ b → IsSound p.driver.requests → holder p tag ≡ Some id
    → holder p other ≡ Some j → stop_of p ≡ stop.Bus (Some id) → AreNamed p named → named_at named j ≡ min (faults_of (faulted p.driver.requests id) j + 0) 4
named_issued p named tag id other j true e sound h held s g =
    let r = p.driver.requests in
    let one = (sound.held tag id h).above in
    let two = (sound.held other j held).above in
    let at = eqb-true (j - 1) (id - 1) e in
    let same : j ≡ id = omega (arith, one, two, at) in
    let was : named_at named id ≡ min (faults_of r id + 1) 4 =
    g.issued tag id h ∙ ap (λ x. min (faults_of r id + x) 4) (ap (λ x. names x id) s ∙ names_if true id id (eq-eqb id id refl)) in
    subst (λ n. named_at named n ≡ min (faults_of (faulted r id) n + 0) 4) (sym same)
    (was ∙ (sum_min (faults_of r id) ∙ ap (λ n. min (n + 0) 4) (sym (noted_is r tag id sound h))))
named_issued p named tag id other j false e sound h held s g =
    let r = p.driver.requests in
    let apart : id ≢ j = λ x. absurd (eqb-false (j - 1) (id - 1) e (ap (λ n. n - 1) (sym x))) in
    g.issued other j held ∙ (ap (λ x. min (faults_of r j + x) 4) (ap (λ x. names x j) s ∙ names_if false id j (unlike id j (id == j) refl apart))
    ∙ ap (λ n. min (n + 0) 4) (sym (faulted_other r id j e)))

named_waiting : (p : PathState) (named : List ℕ) (tag id j : ℕ) (b : Bool) → ((j - 1) == (id - 1)) ≡ b → IsSound p.driver.requests → holder p tag ≡ Some id
    → is_waiting p.driver.requests.waiting j ≡ true → AreNamed p named → named_at named j ≡ min (faults_of (faulted p.driver.requests id) j) 4
named_waiting p named tag id j true e sound h waits g = absurd (false≢true (not_waiting p.driver.requests tag id j sound h e waits))
named_waiting p named tag id j false e sound h waits g = g.waiting j waits ∙ ap (λ n. min n 4) (sym (faulted_other p.driver.requests id j e))

-- the path after the stop, by the requests
abbrev pub failed_with : PathState → Standings → PathState
failed_with p r = path_at r driver.Halted (record p.regs { halted = true }) p.memory p.engine p.card p.script

named_same : (p : PathState) (r : Standings) (named : List ℕ) → AreNamed p named → r.plan ≡ plan_of p → r.waiting ≡ p.driver.requests.waiting
    → ((id : ℕ) → is_waiting p.driver.requests.waiting id ≡ true → named_at named id ≡ min (faults_of r id) 4)
    → ((tag id : ℕ) → holder_of r.holders tag ≡ Some id → named_at named id ≡ min (faults_of r id + 0) 4) → AreNamed (failed_with p r) named
named_same p r named g plan waiting waits holds = record {
  long = g.long ∙ ap (λ x. length x.jobs) (sym plan);
  waiting = λ id w. waits id (sym (ap (λ x. is_waiting x id) waiting) ∙ w);
  issued = holds;
}

-- the event with its lines, by the requests that are left
fail_told : (p : PathState) (a : ArrayState) (p' : PathState) (a' : ArrayState) (act : Act) (r : Standings) (items : List Item) (o : OrderState) (x : Context) → AreTied p' → IsCalm p false true
    → Agrees p a x → a' ≡ a → p' ≡ failed_with p r → r.plan ≡ plan_of p → host_lines p p' act ≡ items → AreNamed (failed_with p r) x.named
    → Happens (state_of p o x) HostActs items (state_of (failed_with p r) o x) → Told HostActs (state_of p o x) (host_lines p p' act) p' o a'
fail_told p a p' a' act r items o x t' c g array to plan lines named happens =
    let none = none_stopped p c.stop in
    record {
      context = x;
      agrees = subst (λ (y : ArrayState). Agrees p' y x) (sym array)
          (subst (λ (y : PathState). Agrees y a x) (sym to)
          (agrees_quiet p (failed_with p r) a x x.n x.named g none (subst AreTied to t') none refl plan (g.number ∙ ap (λ b. sent_of b x.n) (not_busy p none)) named));
      happens = subst (λ (y : List Item). Happens (state_of p o x) HostActs y (state_of p' o x)) (sym lines)
          (subst (λ (y : PathState). Happens (state_of p o x) HostActs items (state_of y o x)) (sym to) happens);
    }

-- what the machine has before it
record Before (s : State) : Type 0 where
  quiet : is_silent s.recovery ≡ false
  work : has_work s ≡ true
  stopped : is_stopped s ≡ true

before : (p : PathState) (o : OrderState) (x : Context) → StateLaws → AreTied p → work_of p.driver.recovery p.regs ≡ Fail → IsCalm p false true → Judgement p (cause_of p)
    → Before (state_of p o x)
before p o x laws t w c j =
    let s = state_of p o x in
    let recovery : s.recovery ≡ recovery_of driver.Calm = recovery_at p o x ∙ ap recovery_of c.calm in
    record {
      quiet = ap is_silent recovery;
      work = (laws.host p o x t).work ∙ ap (λ y. is_possible y p.driver.requests) w;
      stopped = stands_still s (ap is_running (stop_at p o x ∙ stopped_by p c) ∙ not_moving p (cause_of p) j) (ap is_calm recovery) ((laws.host p o x t).noticed ∙ c.notice);
    }

lines_of : (p p' : PathState) (act : Act) (judgement : Judged) (found : Judged) → act ≡ judgement.act → judgement ≡ found → host_lines p p' act ≡ host_lines p p' found.act
lines_of p p' act j found e is = ap (host_lines p p') (e ∙ ap (λ (y : Judged). y.act) is)

to_with : (p p' : PathState) (cause : Option Cause) (found : Judged) → p' ≡ failed_at p cause → judged p.driver.requests cause ≡ found → p' ≡ failed_with p found.requests
to_with p p' cause found to is = to ∙ ap (λ (y : Judged). failed_with p y.requests) is

fault_by : (s : State) (id : ℕ) (why : Why) → is_stopped s ≡ true → is_fault s id why s.stop ≡ true → fault_holds s id why ≡ true
unfolding fault_holds
fault_by s id why stopped is = rw (stopped, is) refl

refusal_by : (s : State) (id : ℕ) → is_stopped s ≡ true → is_refusal id ByRange s.stop ≡ true → refused_holds s id ByRange ≡ true
unfolding refused_holds
refusal_by s id stopped is = rw (stopped, is) refl

four_times : (n m : ℕ) → n ≡ m → (m == 4) ≡ true → (n == 4) ≡ true
four_times n m e is = ap (λ k. nat_eq k 4) e ∙ is

pub tells_failed : (p : PathState) (a : ArrayState) (p' : PathState) (a' : ArrayState) (act : Act) → StateLaws → HostEvent p a p' a' act → AreTied p → AreTied p'
    → work_of p.driver.recovery p.regs ≡ Fail → IsCalm p false true → Fails (moment_of p a) (moment_of p' a') (cause_of p) act → Judgement p (cause_of p)
    → Tells HostActs p a (host_lines p p' act) p' a'
tells_failed p a p' a' act laws e t t' w c f (leaves by is) o x g =
    let r = p.driver.requests in
    let s = state_of p o x in
    let b = before p o x laws t w c (leaves by is) in
    let at : stop_of p ≡ stop.Bus None = stopped_by p c ∙ by in
    let none = none_completed p c in
    fail_told p a p' a' act r (Recover ∷ []) o x t' c g (same_array p p' a a' f.aside.link) (to_with p p' (cause_of p) (retried r) (fails_to p a p' a' act e t c f) is) refl
    (lines_of p p' act (judged r (cause_of p)) (retried r) f.told is)
    (named_same p r x.named g.named refl refl g.named.waiting (λ tag id h. g.named.issued tag id h ∙ ap (λ y. min (faults_of r id + names y id) 4) at))
    (recover_happens s (state_of (failed_with p r) o x) (owed_at p o x) (event_at p o x) b.quiet b.work b.stopped (ap (is_fault_of s) (stop_at p o x ∙ at))
    (retried_state r r.faults p.regs p.memory p.engine p.card p.script o x none t.sound.holders ∙ ap (λ y. after_recover (state_of y o x)) (sym (placed p driver.Calm c.calm))))
tells_failed p a p' a' act laws e t t' w c f (counts tag id h by few is) o x g =
    let r = p.driver.requests in
    let s = state_of p o x in
    let b = before p o x laws t w c (counts tag id h by few is) in
    let at : stop_of p ≡ stop.Bus (Some id) = stopped_by p c ∙ by in
    let none = none_completed p c in
    let times : named_times s id ≡ faults_of (faulted r id) id =
    ap (λ xs. named_at xs id) (named_list p o x) ∙ (g.named.issued tag id h ∙ (ap (λ y. min (faults_of r id + y) 4) (ap (λ y. names y id) at ∙ names_if true id id (eq-eqb id id refl))
    ∙ sym (noted_is r tag id t.sound h))) in
    fail_told p a p' a' act (faulted r id) (Recover ∷ []) o x t' c g (same_array p p' a a' f.aside.link)
    (to_with p p' (cause_of p) (retried (faulted r id)) (fails_to p a p' a' act e t c f) is) refl
    (lines_of p p' act (judged r (cause_of p)) (retried (faulted r id)) f.told is)
    (named_same p (faulted r id) x.named g.named refl refl (λ j waits. named_waiting p x.named tag id j ((j - 1) == (id - 1)) refl t.sound h waits g.named)
    (λ other j held. named_issued p x.named tag id other j ((j - 1) == (id - 1)) refl t.sound h held at g.named))
    (recover_happens s (state_of (failed_with p (faulted r id)) o x) (owed_at p o x) (event_at p o x) b.quiet b.work b.stopped
    (ap (is_fault_of s) (stop_at p o x ∙ at) ∙ (ap (λ n. nat_eq n 4) times ∙ few))
    (retried_state r (faulted r id).faults p.regs p.memory p.engine p.card p.script o x none t.sound.holders ∙ ap (λ y. after_recover (state_of y o x)) (sym (placed p driver.Calm c.calm))))
tells_failed p a p' a' act laws e t t' w c f (exceeds tag id h by last is) o x g =
    let r = p.driver.requests in
    let s = state_of p o x in
    let b = before p o x laws t w c (exceeds tag id h by last is) in
    let at : stop_of p ≡ stop.Bus (Some id) = stopped_by p c ∙ by in
    let none = none_completed p c in
    let times : named_times s id ≡ faults_of (faulted r id) id =
    ap (λ xs. named_at xs id) (named_list p o x) ∙ (g.named.issued tag id h ∙ (ap (λ y. min (faults_of r id + y) 4) (ap (λ y. names y id) at ∙ names_if true id id (eq-eqb id id refl))
    ∙ sym (noted_is r tag id t.sound h))) in
    let left = answered (faulted r id) tag in
    fail_told p a p' a' act left (Fault id ByBus ∷ Recover ∷ []) o x t' c g (same_array p p' a a' f.aside.link)
    (to_with p p' (cause_of p) (ended (faulted r id) tag id Bus) (fails_to p a p' a' act e t c f) is) refl
    (lines_of p p' act (judged r (cause_of p)) (ended (faulted r id) tag id Bus) f.told is)
    (named_same p left x.named g.named refl refl (λ j waits. named_waiting p x.named tag id j ((j - 1) == (id - 1)) refl t.sound h waits g.named)
    (λ other j held. named_issued p x.named tag id other j ((j - 1) == (id - 1)) refl t.sound h (fewer-set r.holders tag other j held) at g.named))
    (fault_happens s (state_of (failed_with p left) o x) id ByBus (owed_at p o x) (event_at p o x) b.quiet b.work
    (fault_by s id ByBus b.stopped (ap (is_fault s id ByBus) (stop_at p o x ∙ at) ∙ rw (eq-eqb id id refl, four_times (named_times s id) (faults_of (faulted r id) id) times last) refl))
    (ended_state r (faulted r id).faults tag id p.regs p.memory p.engine p.card p.script o x none t.sound.holders h (t.sound.held tag id h).apart
    ∙ ap (λ y. after_recover (after_fault (state_of y o x) id)) (sym (placed p driver.Calm c.calm))))
tells_failed p a p' a' act laws e t t' w c f (flash tag id h by is) o x g =
    let r = p.driver.requests in
    let s = state_of p o x in
    let b = before p o x laws t w c (flash tag id h by is) in
    let at : stop_of p ≡ stop.Flash id = stopped_by p c ∙ by in
    let none = none_completed p c in
    let left = answered r tag in
    fail_told p a p' a' act left (Fault id ByFlash ∷ Recover ∷ []) o x t' c g (same_array p p' a a' f.aside.link)
    (to_with p p' (cause_of p) (ended r tag id Flash) (fails_to p a p' a' act e t c f) is) refl
    (lines_of p p' act (judged r (cause_of p)) (ended r tag id Flash) f.told is)
    (named_same p left x.named g.named refl refl g.named.waiting
    (λ other j held. g.named.issued other j (fewer-set r.holders tag other j held) ∙ ap (λ y. min (faults_of r j + names y j) 4) at))
    (fault_happens s (state_of (failed_with p left) o x) id ByFlash (owed_at p o x) (event_at p o x) b.quiet b.work
    (fault_by s id ByFlash b.stopped (ap (is_fault s id ByFlash) (stop_at p o x ∙ at) ∙ eq-eqb id id refl))
    (ended_state r r.faults tag id p.regs p.memory p.engine p.card p.script o x none t.sound.holders h (t.sound.held tag id h).apart
    ∙ ap (λ y. after_recover (after_fault (state_of y o x) id)) (sym (placed p driver.Calm c.calm))))
tells_failed p a p' a' act laws e t t' w c f (range tag id h by is) o x g =
    let r = p.driver.requests in
    let s = state_of p o x in
    let b = before p o x laws t w c (range tag id h by is) in
    let at : stop_of p ≡ stop.Range id = stopped_by p c ∙ by in
    let none = none_completed p c in
    let left = answered r tag in
    fail_told p a p' a' act left (Refused id ByRange ∷ Recover ∷ []) o x t' c g (same_array p p' a a' f.aside.link)
    (to_with p p' (cause_of p) (ended r tag id Range) (fails_to p a p' a' act e t c f) is) refl
    (lines_of p p' act (judged r (cause_of p)) (ended r tag id Range) f.told is)
    (named_same p left x.named g.named refl refl g.named.waiting
    (λ other j held. g.named.issued other j (fewer-set r.holders tag other j held) ∙ ap (λ y. min (faults_of r j + names y j) 4) at))
    (refusal_happens s (state_of (failed_with p left) o x) id ByRange (owed_at p o x) (event_at p o x) b.quiet b.work
    (refusal_by s id b.stopped (ap (is_refusal id ByRange) (stop_at p o x ∙ at) ∙ eq-eqb id id refl))
    (ended_state r r.faults tag id p.regs p.memory p.engine p.card p.script o x none t.sound.holders h (t.sound.held tag id h).apart
    ∙ ap (λ y. after_recover (after_fault (state_of y o x) id)) (sym (placed p driver.Calm c.calm))))

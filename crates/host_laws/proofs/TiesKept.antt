-- Every event of the host keeps the ties.
use Rattle.std.proofs.Common.{◌≡◌, ◌∙◌, ℕ, Bool, true, false, cond, not, ◌&&◌, ◌||◌, [], length, None, Result, Ok, Err, nat_eq, bit_and, inl, inr, refl, ap, sym, subst, eqb-true}
use Rattle.std.proofs.lemmas.Bool.{false≢true}
use Rattle.array_edge.specs.Array.{ArrayState}
use Rattle.bus_link.specs.Script.{Script, armed, struck}
use Rattle.card_core.specs.Card.{CardState}
use Rattle.storage_model.specs.declared.faults.BusKind.{BusKind}
use Rattle.task_queue.specs.Queue.{empty}
use Rattle.card_link.specs.Made.{CardMade}
use Rattle.cq_regs.specs.State.{Registers}
use Rattle.drv_core.specs.Event.{Collects, Does, Fails, Issues, Recovers, requests_after}
use Rattle.drv_core.specs.State.{DriverState, is_recovering, layout_of}
use Rattle.drv_core.specs.Work.{is_noticed, work_of}
use Rattle.drv_core.specs.declared.act.Act.{Act}
use Rattle.drv_core.specs.declared.act.Act.TheVariants.{Step as Stepped}
use Rattle.drv_core.specs.declared.work.Work.{Work}
use Rattle.drv_core.specs.declared.work.Work.TheVariants.{Recover, Collect, Fail, Issue}
use Rattle.drv_jobs.specs.Next.{due_of}
use Rattle.drv_jobs.specs.Sound.{IsSound}
use Rattle.drv_jobs.specs.Standings.{Standings}
use Rattle.drv_jobs.specs.declared.next.Due.{Due}
use Rattle.drv_jobs.specs.declared.next.Hold.{Hold}
use Rattle.drv_recover.specs.Recovery.{Does as Steps, discard_queue, IsAt, registers_after, resumed, state_after}
use Rattle.drv_recover.specs.declared.recovery.RecoveryState.{RecoveryState}
use Rattle.drv_recover.specs.declared.recovery.RecoveryState.TheVariants as driver
use Rattle.drv_recover.specs.declared.recovery.Step.{Step}
use Rattle.drv_recover.specs.declared.recovery.Step.TheVariants.{Moved, Discard, Again, Over}
use Rattle.drv_ring.specs.Layout.{HasLayout}
use Rattle.host_laws.proofs.Collected.{collected_at, tied_collected}
use Rattle.host_laws.proofs.Dues.{issuable}
use Rattle.host_laws.proofs.Failed.{failed_at, tied_failed}
use Rattle.host_laws.proofs.GivenBack.{given_back_at, tied_back}
use Rattle.host_laws.proofs.Issued.{belled_is, free_tag_is, issued_at}
use Rattle.host_laws.proofs.IssuedRuns.{tied_issued}
use Rattle.host_laws.proofs.Paths.{acknowledged_is, all_cleared_is, cleaned_is, halted_is, path_at, path_is, same_array, same_card, same_script}
use Rattle.host_laws.proofs.Recovered.{Discarding, at_place, card_emptied, cleared_at, discarding, done, emptied_at, missed, script_armed, script_struck, tied_asked, tied_cleaned, tied_cleared, tied_resumed, unheard}
use Rattle.world_state.specs.Host.{HostEvent, cause_of, moment_of}
use Rattle.world_state.specs.Path.{PathState, behind_path, plan_of}
use Rattle.world_state.specs.Ties.{AreTied}

-- what there was to do
calm_unless : (state : RecoveryState) (regs : Registers) (work : Work) → work_of state regs ≡ work → (work ≡ Recover → false ≡ true) → state ≡ driver.Calm
calm_unless driver.Calm regs work e not_this = refl
calm_unless driver.Halted regs work e not_this = absurd (false≢true (not_this (sym e)))
calm_unless driver.Cleared regs work e not_this = absurd (false≢true (not_this (sym e)))
calm_unless driver.Discarded regs work e not_this = absurd (false≢true (not_this (sym e)))
calm_unless driver.Cleaned regs work e not_this = absurd (false≢true (not_this (sym e)))
calm_unless driver.Resumed regs work e not_this = absurd (false≢true (not_this (sym e)))

-- without a recovery under way
pub record IsCalm (p : PathState) (noticed stopped : Bool) : Type 0 where
  pub calm : p.driver.recovery ≡ driver.Calm
  pub notice : is_noticed p.regs ≡ noticed
  pub stop : p.regs.stopped ≡ stopped

calm_work : (noticed stopped : Bool) → Work
calm_work noticed stopped = cond noticed Collect (cond stopped Fail Issue)

pub calm_fail : (p : PathState) → work_of p.driver.recovery p.regs ≡ Fail → IsCalm p false true
calm_fail p e =
    let calm = calm_unless p.driver.recovery p.regs Fail e (λ h. absurd (cc (h))) in
    by (is_noticed p.regs) p.regs.stopped refl refl calm (sym (ap (λ s. work_of s p.regs) calm) ∙ e)
  where
    by : (noticed stopped : Bool) → is_noticed p.regs ≡ noticed → p.regs.stopped ≡ stopped → p.driver.recovery ≡ driver.Calm
        → cond (is_noticed p.regs) Collect (cond p.regs.stopped Fail Issue) ≡ Fail → IsCalm p false true
    by true stopped n s calm w = absurd (cc (n, w))
    by false true n s calm w = record { calm = calm; notice = n; stop = s }
    by false false n s calm w = absurd (cc (n, s, w))

pub calm_issue : (p : PathState) → work_of p.driver.recovery p.regs ≡ Issue → IsCalm p false false
calm_issue p e =
    let calm = calm_unless p.driver.recovery p.regs Issue e (λ h. absurd (cc (h))) in
    by (is_noticed p.regs) p.regs.stopped refl refl calm (sym (ap (λ s. work_of s p.regs) calm) ∙ e)
  where
    by : (noticed stopped : Bool) → is_noticed p.regs ≡ noticed → p.regs.stopped ≡ stopped → p.driver.recovery ≡ driver.Calm
        → cond (is_noticed p.regs) Collect (cond p.regs.stopped Fail Issue) ≡ Issue → IsCalm p false false
    by true stopped n s calm w = absurd (cc (n, w))
    by false true n s calm w = absurd (cc (n, s, w))
    by false false n s calm w = record { calm = calm; notice = n; stop = s }

pub calm_collect : (p : PathState) → work_of p.driver.recovery p.regs ≡ Collect → (p.driver.recovery ≡ driver.Calm) × (is_noticed p.regs ≡ true)
calm_collect p e =
    let calm = calm_unless p.driver.recovery p.regs Collect e (λ h. absurd (cc (h))) in
    (calm, by (is_noticed p.regs) p.regs.stopped refl refl (sym (ap (λ s. work_of s p.regs) calm) ∙ e))
  where
    by : (noticed stopped : Bool) → is_noticed p.regs ≡ noticed → p.regs.stopped ≡ stopped
        → cond (is_noticed p.regs) Collect (cond p.regs.stopped Fail Issue) ≡ Collect → noticed ≡ true
    by true stopped n s w = refl
    by false true n s w = absurd (cc (n, s, w))
    by false false n s w = absurd (cc (n, w))

-- a stopped engine without a notice has no task completed
quiet_if : (none : Bool) (any : Bool) (n : ℕ) → (nat_eq n 0) ≡ none → (not none && any) ≡ false → any ≡ true → n ≡ 0
quiet_if true any n h e a = eqb-true n 0 h
quiet_if false any n h e a = absurd (false≢true (sym e ∙ a))

or_right : (b c : Bool) → c ≡ true → (b || c) ≡ true
or_right true c e = refl
or_right false c e = e

pub none_completed : (p : PathState) → IsCalm p false true → p.regs.completed ≡ 0
none_completed p c =
    quiet_if (nat_eq p.regs.completed 0) (not (nat_eq (bit_and p.regs.interrupts p.regs.signal_enable) 0) || p.regs.stopped) p.regs.completed refl c.notice
    (or_right (not (nat_eq (bit_and p.regs.interrupts p.regs.signal_enable) 0)) p.regs.stopped c.stop)

-- the path after each event, by its parts
pub fails_to : (p : PathState) (a : ArrayState) (p' : PathState) (a' : ArrayState) (act : Act) → HostEvent p a p' a' act → AreTied p → IsCalm p false true
    → Fails (moment_of p a) (moment_of p' a') (cause_of p) act → p' ≡ failed_at p (cause_of p)
fails_to p a p' a' act e t c f =
    path_is p' _ _ _ _ _ _ _ (ap (λ (d : DriverState). d.requests) f.driver) (ap (λ (d : DriverState). d.recovery) f.driver)
    (f.regs ∙ halted_is (plan_of p) p.regs t.regs (t.calm c.calm)) f.aside.memory e.engine (same_card p p' a a' f.aside.link) (same_script p p' a a' f.aside.link)

pub collects_to : (p : PathState) (a : ArrayState) (p' : PathState) (a' : ArrayState) (act : Act) → HostEvent p a p' a' act → AreTied p → p.driver.recovery ≡ driver.Calm
    → Collects (moment_of p a) (moment_of p' a') act → p' ≡ collected_at p
collects_to p a p' a' act e t calm c =
    path_is p' _ _ _ _ _ _ _ (ap (λ (d : DriverState). d.requests) c.driver) (ap (λ (d : DriverState). d.recovery) c.driver ∙ calm)
    (c.regs ∙ acknowledged_is (plan_of p) p.regs t.regs) c.aside.memory e.engine (same_card p p' a a' c.aside.link) (same_script p p' a a' c.aside.link)

-- an issue with what is due
pub issues_to : (p : PathState) (a : ArrayState) (p' : PathState) (a' : ArrayState) (act : Act) (due : Due) → HostEvent p a p' a' act → AreTied p → IsCalm p false false
    → due_of p.driver.requests ≡ Ok due → Issues (moment_of p a) (moment_of p' a') act (Ok due) → p' ≡ issued_at p due p'.memory
issues_to p a p' a' act due e t c d i =
    let x = issuable p.driver.requests due t.sound d in
    path_is p' _ _ _ _ _ _ _ (ap (λ (d : DriverState). d.requests) i.driver) (ap (λ (d : DriverState). d.recovery) i.driver ∙ c.calm)
    (i.regs ∙ belled_is p due.tag t x.low (free_tag_is p due t c.calm x).idle) refl e.engine (same_card p p' a a' i.link) (same_script p p' a a' i.link)

pub waits_to : (p : PathState) (a : ArrayState) (p' : PathState) (a' : ArrayState) (act : Act) (hold : Hold) → HostEvent p a p' a' act
    → Issues (moment_of p a) (moment_of p' a') act (Err hold) → p' ≡ p
waits_to p a p' a' act hold e i =
    path_is p' _ _ _ _ _ _ _ (ap (λ (d : DriverState). d.requests) i.driver) (ap (λ (d : DriverState). d.recovery) i.driver)
    i.regs i.written e.engine (same_card p p' a a' i.link) (same_script p p' a a' i.link)

sound_to : (p' q : PathState) → p' ≡ q → IsSound p'.driver.requests → IsSound q.driver.requests
sound_to p' q e s = subst (λ (x : PathState). IsSound x.driver.requests) e s

ties_issue : (p : PathState) (a : ArrayState) (p' : PathState) (a' : ArrayState) (act : Act) (next : Result Due Hold) → HostEvent p a p' a' act → AreTied p → IsCalm p false false
    → due_of p.driver.requests ≡ next → Issues (moment_of p a) (moment_of p' a') act next → AreTied p'
ties_issue p a p' a' act (Ok due) e t c d i =
    let to = issues_to p a p' a' act due e t c d i in
    let x = issuable p.driver.requests due t.sound d in
    subst AreTied (sym to)
    (tied_issued p due p'.memory t c.calm x i.written (sound_to p' (issued_at p due p'.memory) to e.sound)
    (subst (λ plan. HasLayout p'.memory (layout_of plan)) e.plan e.layout_fits))
ties_issue p a p' a' act (Err hold) e t c d i = subst AreTied (sym (waits_to p a p' a' act hold e i)) t

-- a step of the recovery from a place
pub record StepAt (p : PathState) (a : ArrayState) (p' : PathState) (a' : ArrayState) (act : Act) (state : RecoveryState) : Type 0 where
  pub step : Step
  pub told : act ≡ Stepped step
  pub does : Steps CardMade (behind_path p a) (behind_path p' a') state step
  pub place : p'.driver.recovery ≡ state_after state step
  pub regs : p'.regs ≡ registers_after state p.regs
  pub requests : p'.driver.requests ≡ requests_after step p.driver.requests
  pub memory : p'.memory ≡ p.memory

pub step_at : (p : PathState) (a : ArrayState) (p' : PathState) (a' : ArrayState) (act : Act) (state : RecoveryState) → p.driver.recovery ≡ state
    → Recovers CardMade (moment_of p a) (moment_of p' a') act → StepAt p a p' a' act state
step_at p a p' a' act state at r = record {
  step = r.step;
  told = r.told;
  does = subst (λ (s : RecoveryState). Steps CardMade (behind_path p a) (behind_path p' a') s r.step) at r.event.does;
  place = r.event.place ∙ ap (λ s. state_after s r.step) at;
  regs = r.event.registers ∙ ap (λ s. registers_after s p.regs) at;
  requests = r.requests;
  memory = r.memory;
}

-- a silent step
pub record IsSilentStep (p : PathState) (a : ArrayState) (p' : PathState) (a' : ArrayState) (act : Act) (step : Step) (q : PathState) : Type 0 where
  pub path : p' ≡ q
  pub told : act ≡ Stepped step
  pub array : a' ≡ a

pub halted_to : (p : PathState) (a : ArrayState) (p' : PathState) (a' : ArrayState) (act : Act) → HostEvent p a p' a' act → AreTied p → p.driver.recovery ≡ driver.Halted
    → StepAt p a p' a' act driver.Halted → IsSilentStep p a p' a' act Moved (at_place p driver.Cleared (record p.regs { ring = []; stopped = false }))
halted_to p a p' a' act e t at r = record {
  path = path_is p' _ _ _ _ _ _ _ (r.requests ∙ ap (λ s. requests_after s p.driver.requests) r.does.told) r.place
      (r.regs ∙ all_cleared_is (plan_of p) p.regs t.regs (subst (λ (s : RecoveryState). IsAt s p.regs) at t.recovery_at)) r.memory e.engine
      (same_card p p' a a' r.does.link) (same_script p p' a a' r.does.link);
  told = r.told ∙ ap Stepped r.does.told;
  array = same_array p p' a a' r.does.link;
}

pub discarded_to : (p : PathState) (a : ArrayState) (p' : PathState) (a' : ArrayState) (act : Act) → HostEvent p a p' a' act → AreTied p → p.driver.recovery ≡ driver.Discarded
    → StepAt p a p' a' act driver.Discarded → IsSilentStep p a p' a' act Moved (at_place p driver.Cleaned (record p.regs { interrupts = 0; completed = 0 }))
discarded_to p a p' a' act e t at r = record {
  path = path_is p' _ _ _ _ _ _ _ (r.requests ∙ ap (λ s. requests_after s p.driver.requests) r.does.told) r.place
      (r.regs ∙ cleaned_is (plan_of p) p.regs t.regs (t.held (ap is_recovering at))) r.memory e.engine
      (same_card p p' a a' r.does.link) (same_script p p' a a' r.does.link);
  told = r.told ∙ ap Stepped r.does.told;
  array = same_array p p' a a' r.does.link;
}

pub cleaned_to : (p : PathState) (a : ArrayState) (p' : PathState) (a' : ArrayState) (act : Act) → HostEvent p a p' a' act
    → StepAt p a p' a' act driver.Cleaned → IsSilentStep p a p' a' act Moved (at_place p driver.Resumed (resumed p.regs))
cleaned_to p a p' a' act e r = record {
  path = path_is p' _ _ _ _ _ _ _ (r.requests ∙ ap (λ s. requests_after s p.driver.requests) r.does.told) r.place r.regs r.memory e.engine
      (same_card p p' a a' r.does.link) (same_script p p' a a' r.does.link);
  told = r.told ∙ ap Stepped r.does.told;
  array = same_array p p' a a' r.does.link;
}

pub resumed_to : (p : PathState) (a : ArrayState) (p' : PathState) (a' : ArrayState) (act : Act) → HostEvent p a p' a' act
    → StepAt p a p' a' act driver.Resumed → IsSilentStep p a p' a' act Over (given_back_at p)
resumed_to p a p' a' act e r = record {
  path = path_is p' _ _ _ _ _ _ _ (r.requests ∙ ap (λ s. requests_after s p.driver.requests) r.does.told) r.place r.regs r.memory e.engine
      (same_card p p' a a' r.does.link) (same_script p p' a a' r.does.link);
  told = r.told ∙ ap Stepped r.does.told;
  array = same_array p p' a a' r.does.link;
}

-- CMD48, by what came of it
not_over : (kind : BusKind) (s : Standings) → requests_after (Again kind) s ≡ s
not_over kind s = refl

pub missed_to : (p : PathState) (a : ArrayState) (p' : PathState) (a' : ArrayState) (act : Act) (kind : BusKind) (card : CardState) (script : Script) → HostEvent p a p' a' act
    → (r : StepAt p a p' a' act driver.Cleared) → r.step ≡ Again kind → p'.card ≡ card → p'.script ≡ script
    → p' ≡ path_at p.driver.requests driver.Cleared p.regs p.memory p.engine card script
missed_to p a p' a' act kind card script e r told c s =
    path_is p' _ _ _ _ _ _ _ (r.requests ∙ ap (λ s. requests_after s p.driver.requests) told) (r.place ∙ ap (state_after driver.Cleared) told) r.regs r.memory e.engine c s

pub answered_to : (p : PathState) (a : ArrayState) (p' : PathState) (a' : ArrayState) (act : Act) (card : CardState) (script : Script) → HostEvent p a p' a' act
    → (r : StepAt p a p' a' act driver.Cleared) → r.step ≡ Discard → p'.card ≡ card → p'.script ≡ script
    → p' ≡ path_at p.driver.requests driver.Discarded p.regs p.memory p.engine card script
answered_to p a p' a' act card script e r told c s =
    path_is p' _ _ _ _ _ _ _ (r.requests ∙ ap (λ s. requests_after s p.driver.requests) told) (r.place ∙ ap (state_after driver.Cleared) told) r.regs r.memory e.engine c s

ties_discard : (p : PathState) (a : ArrayState) (p' : PathState) (a' : ArrayState) (act : Act) → HostEvent p a p' a' act → AreTied p → p.driver.recovery ≡ driver.Cleared
    → (r : StepAt p a p' a' act driver.Cleared) → Discarding p a p' a' r.step → AreTied p'
ties_discard p a p' a' act e t at r (missed hit told card script array) =
    subst AreTied (sym (missed_to p a p' a' act _ _ _ e r told card script))
    (tied_asked p driver.Cleared p.card (struck (armed p.script discard_queue 0)) t at (cleared_at p t at) refl t.card refl refl
    (λ tag h. absurd (cc (h))) (inr refl) (script_struck (armed p.script discard_queue 0) (script_armed p.script discard_queue 0 t.script)))
ties_discard p a p' a' act e t at r (unheard hit told card script array) =
    subst AreTied (sym (missed_to p a p' a' act _ _ _ e r told card script))
    (tied_asked p driver.Cleared (record p.card { queue = empty (length p.card.queue.slots); phase = None }) (struck (armed p.script discard_queue 0)) t at
    (cleared_at p t at) refl (card_emptied p t) refl refl
    (λ tag h. absurd (cc (h))) (inr refl) (script_struck (armed p.script discard_queue 0) (script_armed p.script discard_queue 0 t.script)))
ties_discard p a p' a' act e t at r (done not_lost not_silent told card script array) =
    subst AreTied (sym (answered_to p a p' a' act _ _ e r told card script))
    (tied_asked p driver.Discarded (record p.card { queue = empty (length p.card.queue.slots); phase = None }) (armed p.script discard_queue 0) t at
    (cleared_at p t at) refl (card_emptied p t) refl refl
    (λ tag h. emptied_at (length p.card.queue.slots) tag) (inl refl) (script_armed p.script discard_queue 0 t.script))

ties_recover : (p : PathState) (a : ArrayState) (p' : PathState) (a' : ArrayState) (act : Act) (state : RecoveryState) → HostEvent p a p' a' act → AreTied p
    → p.driver.recovery ≡ state → is_recovering state ≡ true → Recovers CardMade (moment_of p a) (moment_of p' a') act → AreTied p'
ties_recover p a p' a' act driver.Calm e t at busy r = absurd (false≢true busy)
ties_recover p a p' a' act driver.Halted e t at busy r =
    subst AreTied (sym (halted_to p a p' a' act e t at (step_at p a p' a' act driver.Halted at r)).path) (tied_cleared p t at)
ties_recover p a p' a' act driver.Cleared e t at busy r =
    let s = step_at p a p' a' act driver.Cleared at r in
    ties_discard p a p' a' act e t at s (discarding p a p' a' s.step t s.does)
ties_recover p a p' a' act driver.Discarded e t at busy r =
    subst AreTied (sym (discarded_to p a p' a' act e t at (step_at p a p' a' act driver.Discarded at r)).path) (tied_cleaned p t at)
ties_recover p a p' a' act driver.Cleaned e t at busy r =
    subst AreTied (sym (cleaned_to p a p' a' act e (step_at p a p' a' act driver.Cleaned at r)).path) (tied_resumed p t at)
ties_recover p a p' a' act driver.Resumed e t at busy r =
    let to = (resumed_to p a p' a' act e (step_at p a p' a' act driver.Resumed at r)).path in
    subst AreTied (sym to) (tied_back p t at (sound_to p' (given_back_at p) to e.sound))

pub recovering_work : (state : RecoveryState) (regs : Registers) → work_of state regs ≡ Recover → is_recovering state ≡ true
recovering_work driver.Calm regs e = absurd (by (is_noticed regs) regs.stopped e)
  where
    by : (noticed stopped : Bool) → cond noticed Collect (cond stopped Fail Issue) ≡ Recover → ⊥
    by true stopped w = cc (w)
    by false true w = cc (w)
    by false false w = cc (w)
recovering_work driver.Halted regs e = refl
recovering_work driver.Cleared regs e = refl
recovering_work driver.Discarded regs e = refl
recovering_work driver.Cleaned regs e = refl
recovering_work driver.Resumed regs e = refl

ties_by : (p : PathState) (a : ArrayState) (p' : PathState) (a' : ArrayState) (act : Act) (work : Work) → HostEvent p a p' a' act → AreTied p
    → work_of p.driver.recovery p.regs ≡ work → Does CardMade (moment_of p a) (moment_of p' a') (cause_of p) act work → AreTied p'
ties_by p a p' a' act Recover e t w d = ties_recover p a p' a' act p.driver.recovery e t refl (recovering_work p.driver.recovery p.regs w) d
ties_by p a p' a' act Collect e t w d =
    let to = collects_to p a p' a' act e t (calm_collect p w).0 d in
    subst AreTied (sym to) (tied_collected p t (calm_collect p w).0 (sound_to p' (collected_at p) to e.sound))
ties_by p a p' a' act Fail e t w d =
    let c = calm_fail p w in
    let to = fails_to p a p' a' act e t c d in
    subst AreTied (sym to) (tied_failed p (cause_of p) t c.stop (none_completed p c) (sound_to p' (failed_at p (cause_of p)) to e.sound))
ties_by p a p' a' act Issue e t w d = ties_issue p a p' a' act (due_of p.driver.requests) e t (calm_issue p w) refl d

pub ties_kept : (p : PathState) (a : ArrayState) (p' : PathState) (a' : ArrayState) (act : Act) → HostEvent p a p' a' act → AreTied p → AreTied p'
ties_kept p a p' a' act e t = ties_by p a p' a' act (work_of p.driver.recovery p.regs) e t refl e.event

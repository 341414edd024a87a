-- Every event of the host is one of the machine's host.
use Rattle.std.proofs.Common.{◌≡◌, true, false, Result, Ok, Err, refl}
use Rattle.std.proofs.lemmas.Bool.{false≢true}
use Rattle.storage_model.specs.declared.faults.Letter.TheVariants.{Host as HostActs}
use Rattle.array_edge.specs.Array.{ArrayState}
use Rattle.card_link.specs.Made.{CardMade}
use Rattle.drv_core.specs.Event.{Does, Issues, Recovers}
use Rattle.drv_core.specs.State.{is_recovering}
use Rattle.drv_core.specs.Work.{work_of}
use Rattle.drv_core.specs.declared.act.Act.{Act}
use Rattle.drv_core.specs.declared.work.Work.{Work}
use Rattle.drv_core.specs.declared.work.Work.TheVariants.{Recover, Collect, Fail, Issue}
use Rattle.drv_jobs.specs.Next.{due_of}
use Rattle.drv_jobs.specs.declared.next.Due.{Due}
use Rattle.drv_jobs.specs.declared.next.Hold.{Hold}
use Rattle.drv_recover.specs.declared.recovery.RecoveryState.{RecoveryState}
use Rattle.drv_recover.specs.declared.recovery.RecoveryState.TheVariants as driver
use Rattle.host_laws.proofs.CollectDone.{tells_collected}
use Rattle.host_laws.proofs.Discards.{tells_discard}
use Rattle.host_laws.proofs.FailTold.{tells_failed}
use Rattle.host_laws.proofs.IssueTold.{tells_issued, tells_nothing}
use Rattle.host_laws.proofs.Judged.{judgement}
use Rattle.host_laws.proofs.Recovered.{discarding}
use Rattle.host_laws.proofs.Recoveries.{tells_cleaned, tells_discarded, tells_halted, tells_resumed}
use Rattle.host_laws.proofs.TiesKept.{IsCalm, calm_collect, calm_fail, calm_issue, cleaned_to, discarded_to, halted_to, recovering_work, resumed_to, step_at, ties_kept}
use Rattle.world_state.specs.Host.{HostEvent, cause_of, host_lines, moment_of}
use Rattle.world_state.specs.Laws.{StateLaws}
use Rattle.world_state.specs.Path.{PathState}
use Rattle.world_state.specs.Steps.{HostStep}
use Rattle.world_state.specs.Ties.{AreTied, NamesRung}
use Rattle.world_state.specs.Told.{Tells}

tells_recover : (p : PathState) (a : ArrayState) (p' : PathState) (a' : ArrayState) (act : Act) (state : RecoveryState) → StateLaws → HostEvent p a p' a' act → AreTied p → AreTied p'
    → p.driver.recovery ≡ state → is_recovering state ≡ true → Recovers CardMade (moment_of p a) (moment_of p' a') act → Tells HostActs p a (host_lines p p' act) p' a'
tells_recover p a p' a' act driver.Calm laws e t t' at busy r = absurd (false≢true busy)
tells_recover p a p' a' act driver.Halted laws e t t' at busy r =
    tells_halted p a p' a' act t t' at (halted_to p a p' a' act e t at (step_at p a p' a' act driver.Halted at r))
tells_recover p a p' a' act driver.Cleared laws e t t' at busy r =
    let s = step_at p a p' a' act driver.Cleared at r in
    tells_discard p a p' a' act laws e t t' at s (discarding p a p' a' s.step t s.does)
tells_recover p a p' a' act driver.Discarded laws e t t' at busy r =
    tells_discarded p a p' a' act t t' at (discarded_to p a p' a' act e t at (step_at p a p' a' act driver.Discarded at r))
tells_recover p a p' a' act driver.Cleaned laws e t t' at busy r =
    tells_cleaned p a p' a' act t t' at (cleaned_to p a p' a' act e (step_at p a p' a' act driver.Cleaned at r))
tells_recover p a p' a' act driver.Resumed laws e t t' at busy r =
    tells_resumed p a p' a' act t t' at (resumed_to p a p' a' act e (step_at p a p' a' act driver.Resumed at r))

tells_issue : (p : PathState) (a : ArrayState) (p' : PathState) (a' : ArrayState) (act : Act) (next : Result Due Hold) → StateLaws → HostEvent p a p' a' act → AreTied p → AreTied p'
    → work_of p.driver.recovery p.regs ≡ Issue → IsCalm p false false → due_of p.driver.requests ≡ next → Issues (moment_of p a) (moment_of p' a') act next
    → Tells HostActs p a (host_lines p p' act) p' a'
tells_issue p a p' a' act (Ok due) laws e t t' w c d i = tells_issued p a p' a' act due laws e t t' w c d i
tells_issue p a p' a' act (Err hold) laws e t t' w c d i = tells_nothing p a p' a' act hold laws e t w c d i

tells_by : (p : PathState) (a : ArrayState) (p' : PathState) (a' : ArrayState) (act : Act) (work : Work) → StateLaws → HostEvent p a p' a' act → AreTied p → AreTied p' → NamesRung p
    → work_of p.driver.recovery p.regs ≡ work → Does CardMade (moment_of p a) (moment_of p' a') (cause_of p) act work → Tells HostActs p a (host_lines p p' act) p' a'
tells_by p a p' a' act Recover laws e t t' rung w d =
    tells_recover p a p' a' act p.driver.recovery laws e t t' refl (recovering_work p.driver.recovery p.regs w) d
tells_by p a p' a' act Collect laws e t t' rung w d =
    let c = calm_collect p w in
    tells_collected p a p' a' act laws e t t' rung w c.0 c.1 d
tells_by p a p' a' act Fail laws e t t' rung w d = tells_failed p a p' a' act laws e t t' w (calm_fail p w) d (judgement p (cause_of p))
tells_by p a p' a' act Issue laws e t t' rung w d = tells_issue p a p' a' act (due_of p.driver.requests) laws e t t' w (calm_issue p w) refl d

pub host_steps : (p : PathState) (a : ArrayState) (p' : PathState) (a' : ArrayState) (act : Act) → HostEvent p a p' a' act → AreTied p → HostStep p a p' a' act
host_steps p a p' a' act e t =
    let t' = ties_kept p a p' a' act e t in
    record { ties = t'; tells = λ laws. tells_by p a p' a' act (work_of p.driver.recovery p.regs) laws e t t' t.names refl e.event }

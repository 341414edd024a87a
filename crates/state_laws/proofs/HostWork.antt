-- What the host has to do.
use Rattle.std.proofs.Common.{◌≡◌, Bool, true, false, cond, refl, sym, ap, ◌∙◌}
use Rattle.std.specs.Prelude.{is_some, is_ok, not, ◌||◌, option_map, Result, Ok, Err}
use Rattle.std.specs.Result.{result_ok}
use Rattle.std.proofs.lemmas.Bool.{false≢true, true≢false}
use Rattle.storage_machine.specs.Commands.{is_calm, is_running}
use Rattle.storage_machine.specs.Host.{has_work as has_host_work, is_irq_due, next_issue}
use Rattle.storage_machine.specs.declared.state.State.{State}
use Rattle.cut_order.specs.Order.{OrderState}
use Rattle.cq_regs.specs.State.{Registers}
use Rattle.drv_core.specs.State.{is_recovering}
use Rattle.drv_core.specs.Work.{has_work, is_noticed, is_possible, work_of}
use Rattle.drv_core.specs.declared.work.Work.TheVariants.{Collect, Fail, Issue}
use Rattle.drv_jobs.specs.Next.{due_of}
use Rattle.drv_jobs.specs.Standings.{Standings}
use Rattle.drv_jobs.specs.declared.next.Due.{Due}
use Rattle.drv_jobs.specs.declared.next.Hold.{Hold}
use Rattle.drv_recover.specs.declared.recovery.RecoveryState.{RecoveryState}
use Rattle.drv_recover.specs.declared.recovery.RecoveryState.TheVariants as driver
use Rattle.world_state.specs.Laws.{HostLaws}
use Rattle.world_state.specs.Path.{PathState}
use Rattle.world_state.specs.Reading.{Context, recovery_of, state_of}
use Rattle.world_state.specs.Ties.{AreTied}
use Rattle.state_laws.proofs.Issues.{issue_is, pair_of}
use Rattle.state_laws.proofs.Notices.{mask_done, noticed_is}
use Rattle.state_laws.proofs.ReadOff.{runs_calm}

some_ok : (r : Result Due Hold) → is_some (option_map pair_of (result_ok r)) ≡ is_ok r
some_ok (Ok due) = refl
some_ok (Err hold) = refl

work_if : (s : State) (calm goes irq : Bool) → is_calm s.recovery ≡ calm → is_running s.stop ≡ goes → is_irq_due s ≡ irq
    → has_host_work s ≡ (not calm || (not goes || (irq || is_some (next_issue s))))
unfolding has_host_work
work_if s calm goes irq e f g =
    ap (λ b. not b || (not (is_running s.stop) || (is_irq_due s || is_some (next_issue s)))) e
    ∙ (ap (λ b. not calm || (not b || (is_irq_due s || is_some (next_issue s)))) f
    ∙ ap (λ b. not calm || (not goes || (b || is_some (next_issue s)))) g)

abbrev possible_by : Bool → Bool → Standings → Bool
possible_by noticed stopped requests = is_possible (cond noticed Collect (cond stopped Fail Issue)) requests

-- the rest of the work while no recovery is under way
calm_work : (noticed stopped next : Bool) (requests : Standings) → (stopped ≡ false → next ≡ is_ok (due_of requests))
    → (not (not stopped) || (noticed || next)) ≡ possible_by noticed stopped requests
calm_work true true next requests is = refl
calm_work true false next requests is = refl
calm_work false true next requests is = refl
calm_work false false next requests is = is refl

recovers_by : (recovery : RecoveryState) (regs : Registers) (requests : Standings) → is_recovering recovery ≡ true
    → (is_calm (recovery_of recovery) ≡ false) × (is_possible (work_of recovery regs) requests ≡ true)
recovers_by driver.Calm regs requests e = absurd (false≢true e)
recovers_by driver.Halted regs requests e = (refl, refl)
recovers_by driver.Cleared regs requests e = (refl, refl)
recovers_by driver.Discarded regs requests e = (refl, refl)
recovers_by driver.Cleaned regs requests e = (refl, refl)
recovers_by driver.Resumed regs requests e = (refl, refl)

calm_by : (recovery : RecoveryState) (regs : Registers) (requests : Standings) → is_recovering recovery ≡ false
    → (is_calm (recovery_of recovery) ≡ true) × (is_possible (work_of recovery regs) requests ≡ possible_by (is_noticed regs) regs.stopped requests)
calm_by driver.Calm regs requests e = (refl, refl)
calm_by driver.Halted regs requests e = absurd (true≢false e)
calm_by driver.Cleared regs requests e = absurd (true≢false e)
calm_by driver.Discarded regs requests e = absurd (true≢false e)
calm_by driver.Cleaned regs requests e = absurd (true≢false e)
calm_by driver.Resumed regs requests e = absurd (true≢false e)

work_by : (p : PathState) (o : OrderState) (c : Context) (recovers : Bool) → AreTied p → is_recovering p.driver.recovery ≡ recovers
    → has_host_work (state_of p o c) ≡ has_work p.driver p.regs
unfolding state_of
work_by p o c true t e =
    let parts = recovers_by p.driver.recovery p.regs p.driver.requests e in
    work_if (state_of p o c) false (is_running (state_of p o c).stop) (is_irq_due (state_of p o c)) parts.0 refl refl ∙ sym parts.1
work_by p o c false t e =
    let parts = calm_by p.driver.recovery p.regs p.driver.requests e in
    work_if (state_of p o c) true (not p.regs.stopped) (is_noticed p.regs) parts.0 (runs_calm p o c e) (noticed_is p o c t)
    ∙ (calm_work (is_noticed p.regs) p.regs.stopped (is_some (next_issue (state_of p o c))) p.driver.requests
    (λ goes. ap is_some (issue_is p o c t (ap (λ b. cond b false (not p.regs.stopped)) e ∙ ap not goes)) ∙ some_ok (due_of p.driver.requests))
    ∙ sym parts.1)

pub host_laws : (p : PathState) (o : OrderState) (c : Context) → AreTied p → HostLaws p o c
host_laws p o c t = record {
  work = work_by p o c (is_recovering p.driver.recovery) t refl;
  noticed = noticed_is p o c t;
  mask = mask_done p o c t;
  issue = issue_is p o c t;
}

-- Each event of the engine in a run that isn't over leaves less to do.
use Rattle.std.proofs.Common.{◌≡◌, ◌<◌, ◌≤◌, ◌+◌, refl, sym, ◌∙◌, ap, Bool, true, false}
use Rattle.std.specs.Prelude.{cond, is_some, Option, None}
use Rattle.std.proofs.lemmas.Bool.{false≢true}
use Rattle.array_edge.specs.Array.{ArrayState}
use Rattle.card_core.specs.declared.phase.Phase.{Phase}
use Rattle.card_link.specs.Behind.{Behind, behind}
use Rattle.cq_engine.proofs.Places.{length-remembered}
use Rattle.cq_engine.specs.Outcome.{Holding, Outcome}
use Rattle.cq_engine.specs.declared.did.Did.{Did}
use Rattle.cq_regs.specs.State.{Registers}
use Rattle.cq_regs.specs.declared.slots.Progress.TheVariants.{Active}
use Rattle.cq_schedule.specs.Held.{remembered}
use Rattle.cq_schedule.specs.Order.{first_at}
use Rattle.drv_core.specs.Work.{has_work, is_noticed, is_possible, work_of}
use Rattle.drv_core.specs.declared.work.Work.TheVariants.{Collect, Fail, Issue}
use Rattle.drv_jobs.specs.Standings.{Standings}
use Rattle.drv_recover.specs.declared.recovery.RecoveryState.{RecoveryState}
use Rattle.drv_recover.specs.declared.recovery.RecoveryState.TheVariants as driver
use Rattle.world_state.specs.Engine.{EngineEvent}
use Rattle.world_state.specs.Path.{PathState, behind_path, is_busy}
use Rattle.world_state.specs.Ties.{AreTied}
use Rattle.world_state.specs.Work.{issued, left_on_path, waiting}
use Rattle.fall_laws.specs.Falls.{IsEnding}
use Rattle.fall_laws.proofs.Coming.{Comes, active_some, comes, is_phase}
use Rattle.fall_laws.proofs.Coming.Comes.{Called, Dropped, Rests, Polls}
use Rattle.fall_laws.proofs.Engines.{IsRunning, Leaves, called_falls, dropped_falls, host_of, quiet_waits}
use Rattle.fall_laws.proofs.Polls.{poll_falls}
use Rattle.fall_laws.proofs.Ticks.{tick_falls}

-- the host has no work only while it rests and the engine hasn't stopped
calm_of : (state : RecoveryState) (regs : Registers) (s : Standings) → is_possible (work_of state regs) s ≡ false → state ≡ driver.Calm
calm_of driver.Calm regs s e = refl
calm_of driver.Halted regs s e = absurd (false≢true (sym e))
calm_of driver.Cleared regs s e = absurd (false≢true (sym e))
calm_of driver.Discarded regs s e = absurd (false≢true (sym e))
calm_of driver.Cleaned regs s e = absurd (false≢true (sym e))
calm_of driver.Resumed regs s e = absurd (false≢true (sym e))

running_of : (noticed stopped : Bool) (s : Standings) → is_possible (cond noticed Collect (cond stopped Fail Issue)) s ≡ false → stopped ≡ false
running_of true stopped s e = absurd (false≢true (sym e))
running_of false true s e = absurd (false≢true (sym e))
running_of false false s e = refl

pub is_running : (p p' : PathState) → p'.driver ≡ p.driver → has_work p.driver p.regs ≡ false → IsRunning p p'
is_running p p' same idle =
    let calm = calm_of p.driver.recovery p.regs p.driver.requests idle in
    record {
      host = same;
      calm = calm;
      running = running_of (is_noticed p.regs) p.regs.stopped p.driver.requests (sym (ap (λ s. is_possible (work_of s p.regs) p.driver.requests) calm) ∙ idle);
    }

by_coming : (p p' : PathState) (a a' : ArrayState) (did : Did) (phase : Option Phase) (e : EngineEvent p a p' a' did phase) → IsRunning p p' → AreTied p → AreTied p'
    → Leaves p p' did e.event.left → has_work p.driver p.regs ≡ false → 1 ≤ waiting p + issued p → IsEnding did
    → Comes (host_of p) (behind_path p a) (behind e.card a' p'.script) (is_phase e.event.acts.due) (record { did = did; host = e.event.left }) e.event.acts.due
    → left_on_path p' < left_on_path p
by_coming p p' a a' did phase e r t t' l idle some ending (Called struck shape charges) =
    called_falls p p' did e.event.left struck (is_phase e.event.acts.due) r t' l ending
    (λ is. ap (λ b. is_some (cond b None (first_at Active p.regs.ring))) r.running
    ∙ active_some (remembered p.engine.held p.regs) p.regs p.memory e.event.acts.due e.event.acts.is_due is) charges shape
by_coming p p' a a' did phase e r t t' l idle some ending (Dropped link stopped less) =
    let script : p'.script ≡ p.script = ap (λ (b : Behind). b.script) link in
    dropped_falls p p' did e.event.left r l (quiet_waits p p' e.card (is_busy p') refl t t' e.left (ap (λ (b : Behind). b.card) link) script) script stopped less
by_coming p p' a a' did phase e r t t' l idle some ending (Rests still) = tick_falls p p' a a' did phase e r t t' l idle some still
by_coming p p' a a' did phase e r t t' l idle some ending (Polls is) = poll_falls p p' a a' did phase e r t t' l ending is

pub engine_falls : (p : PathState) (a : ArrayState) (p' : PathState) (a' : ArrayState) (did : Did) (phase : Option Phase)
    → EngineEvent p a p' a' did phase → AreTied p → AreTied p' → has_work p.driver p.regs ≡ false → 1 ≤ waiting p + issued p → IsEnding did
    → left_on_path p' < left_on_path p
engine_falls p a p' a' did phase e t t' idle some ending =
    let outcome : Outcome = record { did = did; host = e.event.left } in
    by_coming p p' a a' did phase e (is_running p p' e.driver idle) t t'
    (record { registers = e.event.registers; held = ap (λ (h : Holding). h.held) e.event.keeps; cause = ap (λ (h : Holding). h.cause) e.event.keeps })
    idle some ending
    (comes (behind_path p a) (behind e.card a' p'.script) (host_of p) p.memory p'.memory outcome e.event.acts.due (length-remembered p.engine.held p.regs) t.script
    e.event.acts.slot e.event.acts.does)

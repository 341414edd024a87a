-- An event of a host that has no work leaves as much to do.
use Rattle.std.proofs.Common.{◌≡◌, ℕ, sym, ◌∙◌, ap, Bool, true, false}
use Rattle.std.specs.Prelude.{cond, is_ok, Result, Ok, Err}
use Rattle.std.proofs.lemmas.Bool.{false≢true}
use Rattle.array_edge.specs.Array.{ArrayState}
use Rattle.bus_link.specs.Script.{Script}
use Rattle.card_link.specs.Behind.{Behind}
use Rattle.card_link.specs.Made.{CardMade}
use Rattle.cq_engine.specs.Outcome.{Holding}
use Rattle.cq_regs.specs.State.{Registers}
use Rattle.drv_core.specs.Event.{Does as HostDoes, Issues}
use Rattle.drv_core.specs.State.{DriverState}
use Rattle.drv_core.specs.Work.{has_work, is_noticed, is_possible, work_of}
use Rattle.drv_core.specs.declared.act.Act.{Act}
use Rattle.drv_core.specs.declared.work.Work.TheVariants.{Collect, Fail, Issue}
use Rattle.drv_jobs.specs.Next.{due_of}
use Rattle.drv_jobs.specs.declared.next.Due.{Due as NextDue}
use Rattle.drv_jobs.specs.declared.next.Hold.{Hold}
use Rattle.drv_recover.specs.declared.recovery.RecoveryState.{RecoveryState}
use Rattle.drv_recover.specs.declared.recovery.RecoveryState.TheVariants as driver
use Rattle.world_state.specs.Host.{HostEvent, cause_of, moment_of}
use Rattle.world_state.specs.Path.{PathState}
use Rattle.world_state.specs.Work.{left_on_path}

-- what is left is read off driver, registers, engine and script
pub same_left : (p p' : PathState) → p'.driver ≡ p.driver → p'.regs ≡ p.regs → p'.engine ≡ p.engine → p'.script ≡ p.script → left_on_path p' ≡ left_on_path p
unfolding left_on_path
same_left p p' d r e s =
    let with_all : DriverState → Registers → Holding → Script → ℕ =
    λ d r e s. left_on_path (record { driver = d; regs = r; memory = p.memory; engine = e; card = p.card; script = s }) in
    ap (λ x. with_all x p'.regs p'.engine p'.script) d ∙ ap (λ x. with_all p.driver x p'.engine p'.script) r
    ∙ ap (λ x. with_all p.driver p.regs x p'.script) e ∙ ap (λ x. with_all p.driver p.regs p.engine x) s

-- an event of a host that has no work changes nothing
issue_none : (p p' : PathState) (a a' : ArrayState) (act : Act) (next : Result NextDue Hold) → Issues (moment_of p a) (moment_of p' a') act next → is_ok next ≡ false
    → p'.engine ≡ p.engine → left_on_path p' ≡ left_on_path p
issue_none p p' a a' act (Ok due) i none engine = absurd (false≢true (sym none))
issue_none p p' a a' act (Err hold) i none engine = same_left p p' i.driver i.regs engine (ap (λ (b : Behind). b.script) i.link)

calm_none : (p p' : PathState) (a a' : ArrayState) (act : Act) (noticed stopped : Bool)
    → HostDoes CardMade (moment_of p a) (moment_of p' a') (cause_of p) act (cond noticed Collect (cond stopped Fail Issue))
    → is_possible (cond noticed Collect (cond stopped Fail Issue)) p.driver.requests ≡ false → p'.engine ≡ p.engine → left_on_path p' ≡ left_on_path p
calm_none p p' a a' act true stopped does idle engine = absurd (false≢true (sym idle))
calm_none p p' a a' act false true does idle engine = absurd (false≢true (sym idle))
calm_none p p' a a' act false false does idle engine = issue_none p p' a a' act (due_of p.driver.requests) does idle engine

host_none : (p p' : PathState) (a a' : ArrayState) (act : Act) (state : RecoveryState)
    → HostDoes CardMade (moment_of p a) (moment_of p' a') (cause_of p) act (work_of state p.regs)
    → is_possible (work_of state p.regs) p.driver.requests ≡ false → p'.engine ≡ p.engine → left_on_path p' ≡ left_on_path p
host_none p p' a a' act driver.Calm does idle engine = calm_none p p' a a' act (is_noticed p.regs) p.regs.stopped does idle engine
host_none p p' a a' act driver.Halted does idle engine = absurd (false≢true (sym idle))
host_none p p' a a' act driver.Cleared does idle engine = absurd (false≢true (sym idle))
host_none p p' a a' act driver.Discarded does idle engine = absurd (false≢true (sym idle))
host_none p p' a a' act driver.Cleaned does idle engine = absurd (false≢true (sym idle))
host_none p p' a a' act driver.Resumed does idle engine = absurd (false≢true (sym idle))

pub host_rests : (p : PathState) (a : ArrayState) (p' : PathState) (a' : ArrayState) (act : Act) → HostEvent p a p' a' act → has_work p.driver p.regs ≡ false
    → left_on_path p' ≡ left_on_path p
host_rests p a p' a' act e idle = host_none p p' a a' act p.driver.recovery e.event idle e.engine

-- What is to do, read off the path.
use Rattle.std.proofs.Common.{◌≡◌, ◌==◌, refl, sym, ◌∙◌, ap, Bool, true, false}
use Rattle.std.specs.Prelude.{cond, fold, is_some, not, ◌||◌}
use Rattle.std.specs.List.{list_any}
use Rattle.storage_machine.specs.Commands.{is_calm}
use Rattle.storage_machine.specs.Host.{to_do}
use Rattle.storage_machine.specs.Slots.{has}
use Rattle.storage_machine.specs.declared.slots.Question.TheVariants.{Issued}
use Rattle.cut_order.specs.Order.{OrderState}
use Rattle.drv_core.specs.State.{is_recovering}
use Rattle.drv_jobs.specs.Changes.{waits_again}
use Rattle.drv_recover.specs.declared.recovery.RecoveryState.{RecoveryState}
use Rattle.drv_recover.specs.declared.recovery.RecoveryState.TheVariants as driver
use Rattle.state_laws.proofs.Issues.{issued_any}
use Rattle.world_state.specs.Path.{PathState}
use Rattle.world_state.specs.Reading.{Context, recovery_of, state_of, tasks_of, waiting_of}
use Rattle.world_state.specs.Ties.{AreTied}
use Rattle.world_state.specs.Work.{issued, waiting}
use Rattle.world_steps.specs.World.{is_to_do}
use Rattle.world_steps.proofs.Counts.{any_counts}

busy_is : (state : RecoveryState) → not (is_calm (recovery_of state)) ≡ is_recovering state
busy_is driver.Calm = refl
busy_is driver.Halted = refl
busy_is driver.Cleared = refl
busy_is driver.Discarded = refl
busy_is driver.Cleaned = refl
busy_is driver.Resumed = refl

or_last : (a b : Bool) → (a || (b || true)) ≡ true
or_last true b = refl
or_last false true = refl
or_last false false = refl

either_way : (a a' b b' recovers : Bool) → (recovers ≡ false → a ≡ a') → b ≡ b' → (a || (b || recovers)) ≡ (a' || (b' || recovers))
either_way a a' b b' true waits holds = or_last a b ∙ sym (or_last a' b')
either_way a a' b b' false waits holds = ap (λ x. x || (b || false)) (waits refl) ∙ ap (λ x. a' || (x || false)) holds

any_waits : (p : PathState) → is_recovering p.driver.recovery ≡ false → list_any (λ waits. waits) (waiting_of p.driver) ≡ not (waiting p == 0)
any_waits p calm =
    ap (λ b. list_any (λ waits. waits) (cond b (fold waits_again p.driver.requests.waiting p.driver.requests.holders) p.driver.requests.waiting)) calm
    ∙ any_counts (λ waits. waits) p.driver.requests.waiting

any_issued : (p : PathState) → AreTied p → has Issued (tasks_of p) ≡ not (issued p == 0)
any_issued p t = issued_any p t ∙ any_counts is_some p.driver.requests.holders

pub to_do_is : (p : PathState) (o : OrderState) (c : Context) → AreTied p → to_do (state_of p o c) ≡ is_to_do p
unfolding state_of to_do is_to_do
to_do_is p o c t =
    ap (λ b. list_any (λ waits. waits) (waiting_of p.driver) || (has Issued (tasks_of p) || b)) (busy_is p.driver.recovery)
    ∙ either_way (list_any (λ waits. waits) (waiting_of p.driver)) (not (waiting p == 0)) (has Issued (tasks_of p)) (not (issued p == 0))
    (is_recovering p.driver.recovery) (any_waits p) (any_issued p t)

-- No event that prints nothing changes the plan, and none as it begins.
use Rattle.std.proofs.Common.{◌≡◌, Bool, true, false, cond, refl}
use Rattle.storage_machine.specs.Host.{has_work, is_silent, recovery_step}
use Rattle.storage_machine.specs.declared.state.Event.{Event}
use Rattle.storage_machine.specs.declared.state.Event.TheVariants.{Untold, Told, Due}
use Rattle.storage_machine.specs.declared.state.Owed.TheVariants.{Nothing}
use Rattle.storage_machine.specs.declared.state.State.{State}
use Rattle.storage_model.specs.declared.faults.Letter.{Letter}
use Rattle.storage_model.specs.declared.faults.Letter.TheVariants.{Host, Engine, Card, Cut as PowerActs}
use Rattle.storage_order.specs.Events.{ended, ended_by}
use Rattle.storage_runs.proofs.Hushes.{engine_kept, recovery_kept}
use Rattle.trace_effects.specs.Effects.{begun, begun_by}

ended_plan_by : (m : State) (event : Event) → (ended_by m event).plan ≡ m.plan
ended_plan_by m Untold = refl
ended_plan_by m Due = refl
ended_plan_by m (Told Host) = refl
ended_plan_by m (Told Engine) = (engine_kept (record m { event = Untold })).plan
ended_plan_by m (Told Card) = refl
ended_plan_by m (Told PowerActs) = refl

pub ended_plan : (m : State) → (ended m).plan ≡ m.plan
unfolding ended
ended_plan m = ended_plan_by m m.event

host_plan : (s : State) (silent work : Bool) → (cond silent (record (recovery_step s) { event = Untold }) (record s { event = cond work (Told Host) Untold })).plan ≡ s.plan
host_plan s true work = (recovery_kept s).plan
host_plan s false work = refl

pub begun_by_plan : (s : State) (actor : Letter) → (begun_by s actor).plan ≡ s.plan
begun_by_plan s Host = host_plan s (is_silent s.recovery) (has_work s)
begun_by_plan s Engine = refl
begun_by_plan s Card = refl
begun_by_plan s PowerActs = refl

pub begun_plan : (s : State) (actor : Letter) → (begun s actor).plan ≡ s.plan
unfolding begun
begun_plan s actor = begun_by_plan (record s { owed = Nothing }) actor

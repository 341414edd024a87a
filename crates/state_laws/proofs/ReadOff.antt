-- The state that a path stands for, read off it.
use Rattle.std.proofs.Common.{◌≡◌, ℕ, Bool, true, false, cond, [], refl, ap, ◌∙◌}
use Rattle.std.specs.Prelude.{Option, Some, None, not}
use Rattle.storage_machine.specs.Commands.{is_running}
use Rattle.storage_machine.specs.declared.state.Stop.TheVariants as stop
use Rattle.bus_link.specs.declared.link.Cause.{Cause}
use Rattle.bus_link.specs.declared.link.Cause.TheVariants.{Bus as BusFault, Response, Dark}
use Rattle.cq_schedule.specs.Order.{order_of}
use Rattle.cut_order.specs.Order.{OrderState}
use Rattle.drv_core.specs.Judge.{error_of}
use Rattle.drv_core.specs.State.{is_recovering}
use Rattle.drv_core.specs.declared.act.Stop.{Stop as Ending}
use Rattle.drv_core.specs.declared.act.Stop.TheVariants.{Retry, Bus, Flash, Range}
use Rattle.world_state.specs.Path.{PathState, holder, is_busy}
use Rattle.world_state.specs.Reading.{Context, state_of, stop_by, stop_by_word, tasks_of}
use Rattle.state_laws.proofs.Dues.{Reads}

pub slots_of : (p : PathState) (o : OrderState) (c : Context) → (state_of p o c).slots ≡ tasks_of p
unfolding state_of
slots_of p o c = refl

pub busy_of : (p : PathState) (o : OrderState) (c : Context) → (state_of p o c).busy ≡ is_busy p
unfolding state_of
busy_of p o c = refl

pub order_by : (p : PathState) (o : OrderState) (c : Context) (recovers : Bool) → is_recovering p.driver.recovery ≡ recovers
    → (state_of p o c).order ≡ cond recovers [] (order_of p.regs.ring)
unfolding state_of
order_by p o c recovers e = ap (λ b. cond b [] (order_of p.regs.ring)) e

pub reads : (p : PathState) (o : OrderState) (c : Context) → is_recovering p.driver.recovery ≡ false → Reads (state_of p o c) p
unfolding state_of
reads p o c calm = record { slots = slots_of p o c; order = order_by p o c false calm; plan = refl; busy = busy_of p o c }

-- a stop is one
word_stops : (ending : Option Ending) (id : Option ℕ) → is_running (stop_by_word ending id) ≡ false
word_stops None id = refl
word_stops (Some Retry) None = refl
word_stops (Some Retry) (Some id) = refl
word_stops (Some Bus) None = refl
word_stops (Some Bus) (Some id) = refl
word_stops (Some Flash) None = refl
word_stops (Some Flash) (Some id) = refl
word_stops (Some Range) None = refl
word_stops (Some Range) (Some id) = refl

cause_stops : (p : PathState) (cause : Option Cause) → is_running (stop_by p cause) ≡ false
cause_stops p None = refl
cause_stops p (Some (BusFault kind None)) = refl
cause_stops p (Some (BusFault kind (Some tag))) = refl
cause_stops p (Some (Response word tag)) = word_stops (error_of word) (holder p tag)
cause_stops p (Some Dark) = refl

stop_by_case : (p : PathState) (stopped : Bool) → is_running (cond stopped (stop_by p p.engine.cause) stop.Running) ≡ not stopped
stop_by_case p true = cause_stops p p.engine.cause
stop_by_case p false = refl

-- while no recovery is under way the state runs where the engine has not stopped
pub runs_calm : (p : PathState) (o : OrderState) (c : Context) → is_recovering p.driver.recovery ≡ false → is_running (state_of p o c).stop ≡ not p.regs.stopped
unfolding state_of
runs_calm p o c calm =
    ap (λ b. is_running (cond b stop.Running (cond p.regs.stopped (stop_by p p.engine.cause) stop.Running))) calm ∙ stop_by_case p p.regs.stopped

pub runs_recovering : (p : PathState) (o : OrderState) (c : Context) → is_recovering p.driver.recovery ≡ true → is_running (state_of p o c).stop ≡ true
unfolding state_of
runs_recovering p o c recovers = ap (λ b. is_running (cond b stop.Running (cond p.regs.stopped (stop_by p p.engine.cause) stop.Running))) recovers

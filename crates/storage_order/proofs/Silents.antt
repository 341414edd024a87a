-- Events that print nothing change these parts alone.
use Rattle.std.proofs.Common.{◌≡◌, ◌∙◌, Bool, true, false, cond, refl}
use Rattle.storage_machine.specs.Commands.{due}
use Rattle.storage_machine.specs.Host.{recovery_steps, recovery_steps_at}
use Rattle.storage_order.specs.Events.{ended, ended_by, engine_step, passed}
use Rattle.storage_machine.specs.declared.commands.DueCommand.{DueCommand}
use Rattle.storage_machine.specs.declared.commands.DueCommand.TheVariants.{Idle, Address, Params, Direct, Execute, Poll}
use Rattle.storage_machine.specs.declared.state.Event.{Event}
use Rattle.storage_machine.specs.declared.state.Event.TheVariants.{Untold, Told, Due}
use Rattle.storage_machine.specs.declared.state.Recovery.{Recovery}
use Rattle.storage_machine.specs.declared.state.Recovery.TheVariants.{Calm, Halted, Cleared, Discarded, Cleaned, Resumed}
use Rattle.storage_machine.specs.declared.state.State.{State}
use Rattle.storage_model.specs.declared.faults.Letter.TheVariants.{Host, Engine, Card, Cut}
use Rattle.storage_model.specs.declared.trace.Item.{Item}
use Rattle.storage_order.specs.Order.{engine_first, forced, settled, left_behind, untold_steps, with_due}
use Rattle.storage_order.specs.Silent.{with_silent}
use Rattle.storage_order.specs.declared.order.Silent.{Silent}

either : (b : Bool) (s t u : State) (silent : Silent) → with_silent s silent ≡ with_silent u silent → with_silent t silent ≡ with_silent u silent → with_silent (cond b s t) silent ≡ with_silent u silent
either true s t u silent left right = left
either false s t u silent left right = right

passed_silent : (s : State) (command : DueCommand) (silent : Silent) → with_silent (passed s command) silent ≡ with_silent s silent
passed_silent s Idle silent = either _ _ _ s silent refl refl
passed_silent s (Address tag) silent = either _ _ _ s silent refl refl
passed_silent s (Params tag) silent = either _ _ _ s silent refl refl
passed_silent s (Direct tag) silent = either _ _ _ s silent refl refl
passed_silent s (Execute tag) silent = either _ _ _ s silent refl refl
passed_silent s Poll silent = either _ _ _ s silent refl refl

engine_silent : (s : State) (silent : Silent) → with_silent (engine_step s) silent ≡ with_silent s silent
unfolding engine_step
engine_silent s silent = passed_silent s (due s) silent

ended_silent_by : (s : State) (event : Event) (silent : Silent) → with_silent (ended_by s event) silent ≡ with_silent s silent
ended_silent_by s Untold silent = refl
ended_silent_by s Due silent = refl
ended_silent_by s (Told Host) silent = refl
ended_silent_by s (Told Engine) silent = engine_silent (record s { event = Untold }) silent
ended_silent_by s (Told Card) silent = refl
ended_silent_by s (Told Cut) silent = refl

ended_silent : (s : State) (silent : Silent) → with_silent (ended s) silent ≡ with_silent s silent
unfolding ended
ended_silent s silent = ended_silent_by s s.event silent

recovery_silent_at : (s : State) (recovery : Recovery) (silent : Silent) → with_silent (recovery_steps_at s recovery) silent ≡ with_silent s silent
recovery_silent_at s Calm silent = refl
recovery_silent_at s Halted silent = refl
recovery_silent_at s Cleared silent = refl
recovery_silent_at s Discarded silent = refl
recovery_silent_at s Cleaned silent = refl
recovery_silent_at s Resumed silent = refl

recovery_silent : (s : State) (silent : Silent) → with_silent (recovery_steps s) silent ≡ with_silent s silent
unfolding recovery_steps
recovery_silent s silent = recovery_silent_at s s.recovery silent

first_silent : (s : State) (item : Item) (silent : Silent) → with_silent (engine_first s item) silent ≡ with_silent s silent
first_silent s item silent = either _ _ _ s silent (engine_silent s silent) refl

untold_silent : (s : State) (item : Item) (silent : Silent) → with_silent (untold_steps s item) silent ≡ with_silent s silent
untold_silent s item silent = either _ _ _ s silent refl (first_silent (recovery_steps s) item silent ∙ recovery_silent s silent)

due_silent : (s : State) (item : Item) (silent : Silent) → with_silent (with_due s item) silent ≡ with_silent s silent
due_silent s item silent = either _ _ _ s silent refl refl

forced_silent : (s : State) (item : Item) (silent : Silent) → with_silent (forced s item) silent ≡ with_silent s silent
unfolding forced
forced_silent s item silent = due_silent (untold_steps s item) item silent ∙ untold_silent s item silent

behind_silent : (s : State) (item : Item) (silent : Silent) → with_silent (left_behind s item) silent ≡ with_silent s silent
behind_silent s item silent = either _ _ _ s silent refl refl

pub settled_silent : (s : State) (item : Item) (silent : Silent) → with_silent (settled s item) silent ≡ with_silent s silent
unfolding settled
settled_silent s item silent = either _ _ _ s silent (forced_silent (left_behind (ended s) item) item silent ∙ (behind_silent (ended s) item silent ∙ ended_silent s silent)) refl

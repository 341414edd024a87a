-- What a state in which power is lost says of the lines behind the cut.
use Rattle.std.specs.Prelude.{IfSome}
use Rattle.storage_machine.specs.declared.state.State.{State}
use Rattle.storage_model.specs.declared.trace.Item.TheVariants.{Cut}
use Rattle.trace_effects.specs.Effects.{effect}
use Rattle.array_edge.specs.Array.{ArrayState}
use Rattle.intent_store.specs.Intent.{shown_by}
use Rattle.cut_laws.specs.Laws.{IsCut}
use Rattle.cut_order.specs.Order.{OrderState}
use Rattle.drv_jobs.specs.Sound.{IsSound}
use Rattle.left_laws.specs.Lines.{CanBeLeft}
use Rattle.world_state.specs.Path.{PathState}
use Rattle.world_state.specs.Told.{IsLosing}

-- the issued requests are still to be lost, and none of them waits with the driver
abbrev pub IsCutHere : State → PathState → OrderState → ArrayState → Type 0
IsCutHere s p o a = IsSound p.driver.requests → IsLosing s p o a → IsCut p.driver.requests.waiting (effect s Cut)

-- what the array shows may be left
abbrev pub ArePagesLeft : State → PathState → OrderState → ArrayState → Type 0
ArePagesLeft s p o a = IsLosing s p o a → IfSome (shown_by a) (CanBeLeft s.base s.pend)

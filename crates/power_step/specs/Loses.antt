-- What a loss of power makes of the path, and the lines that it prints.
use Rattle.std.specs.Prelude.{◌≡◌, ◌++◌, ◌∷◌, ℕ, List, [], Result, Ok, Err}
use Rattle.storage_machine.specs.declared.state.State.{State}
use Rattle.storage_model.specs.declared.ends.Halt.{Halt}
use Rattle.storage_model.specs.declared.ends.Halt.TheVariants.{SinkFailed, OpenFault, PowerGone, BadImage}
use Rattle.storage_model.specs.declared.trace.End.{End}
use Rattle.storage_model.specs.declared.trace.End.TheVariants.{Fault, Dead, Image}
use Rattle.storage_model.specs.declared.trace.Item.{Item}
use Rattle.storage_model.specs.declared.trace.Item.TheVariants.{Cut, Off}
use Rattle.storage_runs.specs.Runs.{StaysSo}
use Rattle.trace_effects.specs.Effects.{effect}
use Rattle.trace_print.specs.Prints.{HasCauses}
use Rattle.array_edge.specs.Array.{ArrayState}
use Rattle.cut_order.specs.Order.{OrderState}
use Rattle.fall_laws.specs.Falls.{IsAnew}
use Rattle.intent_store.specs.Intent.{ShowsImage}
use Rattle.power_step.specs.Wrote.{Wrote}
use Rattle.world_state.specs.Path.{PathState, plan_of}
use Rattle.world_state.specs.Ties.{IsReady}
use Rattle.world_state.specs.Told.{ComesBack, IsLosing, StaysDark}

-- the lines behind the cut lead to a state that the path stands for, or to the end of the run
abbrev pub Leaves : State → List Item → Result (Unit {0}) Halt → PathState → ArrayState → Type 0
Leaves s items (Ok done) p a = ComesBack s items p a
Leaves s items (Err halt) p a = StaysDark s items a

-- the last of the lines is this end's
abbrev pub EndsBy : End → List Item → Type 0
EndsBy end items = (before : List Item) × (items ≡ before ++ Off end ∷ [])

-- a run that ends otherwise than by its sink has its end's line
abbrev pub HasEnd : List Item → Result (Unit {0}) Halt → Type 0
HasEnd items (Ok done) = Unit {0}
HasEnd items (Err SinkFailed) = Unit {0}
HasEnd items (Err OpenFault) = EndsBy Fault items
HasEnd items (Err PowerGone) = EndsBy Dead items
HasEnd items (Err BadImage) = EndsBy Image items

-- the cut and the lines behind it; the sink may fail in the cut's own line; what was an image is one
pub record Loses {K : Type 0} (took : K → List ℕ → K → Type 0) (p : PathState) (a : ArrayState) (old : K) (result : Result (Unit {0}) Halt) (p' : PathState) (a' : ArrayState) (new : K) : Type 0 where
  pub items : List Item
  pub wrote : Wrote took old (Cut ∷ items) result new
  pub end : HasEnd items result
  pub leaves : (s : State) (o : OrderState) → IsLosing s p o a → Leaves s items result p' a'
  pub stays : (s : State) (o : OrderState) → IsLosing s p o a → StaysSo (effect s Cut) items
  pub causes : HasCauses 1 a a' (Cut ∷ items) result
  pub image : ShowsImage a → ShowsImage a'

-- where the power is on again, the path is ready and anew, whatever the array tells
pub record IsBackOn (p : PathState) (a : ArrayState) (p' : PathState) (a' : ArrayState) : Type 0 where
  pub ready : IsReady p' a'
  pub anew : IsAnew p p'
  pub plan : plan_of p' ≡ plan_of p
  pub empty : p'.card.store.cache.lines ≡ []

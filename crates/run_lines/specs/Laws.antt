-- The first line of an event that no letter tells.
use Rattle.std.specs.Prelude.{◌≡◌, true, false, List, ◌∷◌}
use Rattle.storage_machine.specs.declared.state.Event.TheVariants.{Untold}
use Rattle.storage_machine.specs.declared.state.State.{State}
use Rattle.storage_model.specs.declared.trace.Item.{Item}
use Rattle.storage_order.specs.Accept.{accept_from}
use Rattle.storage_order.specs.Events.{Fits, is_untold, shows_phase}
use Rattle.storage_runs.specs.Laws.{StandsAt}
use Rattle.storage_runs.specs.Runs.{chosen, is_shown}
use Rattle.trace_effects.specs.Effects.{begun_by, effect}
use Rattle.trace_rules.specs.Steps.{yields_to_cut}

-- an event has begun, and this line may be its first
pub record Sets (b : State) (item : Item) : Type 0 where
  pub told : is_untold b.event ≡ false
  pub fits : Fits b item
  pub phase : shows_phase b item ≡ true
  pub yields : yields_to_cut b item ≡ true

-- it is taken, where the acceptor has seen the end of the event before
abbrev pub IsFirstTaken : State → State → Item → Type 0
IsFirstTaken m s item = StandsAt m s → m.event ≡ Untold → is_shown s (chosen s) ≡ false → Sets (begun_by s (chosen s)) item
    → (more : List Item) → accept_from (item ∷ more) m ≡ accept_from more (effect (begun_by s (chosen s)) item)

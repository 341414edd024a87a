-- Lines that tell nothing of what is left.
use Rattle.std.proofs.Common.{◌++◌, ◌∷◌, ℕ, zero, suc, List, [], refl}
use Rattle.cut_laws.specs.Laws.{further_cuts}
use Rattle.cut_laws.specs.Lost.{lost_lines}
use Rattle.storage_machine.specs.declared.state.State.{State}
use Rattle.storage_model.specs.declared.trace.Item.{Item}
use Rattle.storage_model.specs.declared.trace.Item.TheVariants.{Cut, Lost}
use Rattle.storage_runs.specs.Runs.{StaysSo}
use Rattle.trace_effects.specs.Effects.{effect}

pub stays_lost : (s : State) (ids : List ℕ) (more : List Item) → ((t : State) → StaysSo t more) → StaysSo s (lost_lines ids ++ more)
stays_lost s [] more rest = rest s
stays_lost s (id ∷ ids) more rest = (refl, stays_lost (effect s (Lost id)) ids more rest)

pub stays_cuts : (s : State) (cuts : ℕ) (more : List Item) → ((t : State) → StaysSo t more) → StaysSo s (further_cuts cuts ++ more)
stays_cuts s zero more rest = rest s
stays_cuts s (suc cuts) more rest = (refl, stays_cuts (effect s Cut) cuts more rest)

-- The last flush loses power, while nothing is to do: the cut and the lines behind it.
use Rattle.std.specs.Prelude.{◌≡◌, ◌++◌, ◌∷◌, false, IfSome, List, []}
use Rattle.run_laws.specs.Whole.{Dropped, DropsFirst}
use Rattle.storage_machine.specs.Host.{to_do}
use Rattle.storage_machine.specs.declared.state.Owed.TheVariants.{End as Ended}
use Rattle.storage_machine.specs.declared.state.State.{State}
use Rattle.storage_model.specs.declared.trace.End.{End}
use Rattle.storage_model.specs.declared.trace.Item.{Item}
use Rattle.storage_model.specs.declared.trace.Item.TheVariants.{Cut, Off}
use Rattle.array_edge.specs.Array.{ArrayState}
use Rattle.intent_store.specs.Intent.{shown_by}
use Rattle.join_laws.specs.Joins.{before}
use Rattle.world_state.specs.Path.{PathState}
use Rattle.world_state.specs.Reading.{Context}
use Rattle.world_state.specs.Stands.{IsNear}
use Rattle.world_state.specs.Told.{ComesBack, StaysDark}
use Rattle.world_state.specs.Ties.{AreTied}
use Rattle.world_steps.specs.Reading.{Reads}
use Rattle.world_steps.specs.World.{StandsFor, WorldState}

-- the last flush is under way: nothing is to do
pub record IsAtLast (w : WorldState) (c : Context) : Type 0 where
  pub reads : Reads w c
  pub tied : AreTied w.path
  pub none : to_do (before w c) ≡ false

-- the power comes back
abbrev pub IsFlushBackOn : WorldState → Context → List Item → PathState → ArrayState → Type 0
IsFlushBackOn w c more p a =
    IsAtLast w c → ComesBack (before w c) more p a → (t : State) × Dropped (before w c) (Cut ∷ more) t × StandsFor (record { path = p; order = w.order }) a t

-- it stays off, and the run ends
abbrev pub IsFlushEnded : WorldState → Context → List Item → End → ArrayState → Type 0
IsFlushEnded w c first end a =
    IsAtLast w c → StaysDark (before w c) (first ++ Off end ∷ []) a
    → (t : State) × Dropped (before w c) (Cut ∷ (first ++ Off end ∷ [])) t × (t.owed ≡ Ended) × IfSome (shown_by a) (IsNear t)

-- the sink fails in the cut's line, or in the last of those behind it
abbrev pub IsFlushStopped : WorldState → Context → List Item → ArrayState → Type 0
IsFlushStopped w c whole a =
    IsAtLast w c → StaysDark (before w c) whole a → (first : DropsFirst (before w c) (Cut ∷ whole)) × IfSome (shown_by a) (IsNear first.1)

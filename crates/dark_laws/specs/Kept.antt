-- Where nothing of the cache was staged when power was lost, each sector is left as it was kept.
use Rattle.std.specs.Prelude.{◌≤◌, ℕ, List, [], ◌∷◌, ◌++◌, length}
use Rattle.storage_machine.specs.declared.state.State.{State}
use Rattle.storage_model.specs.declared.block.Block.{Block}
use Rattle.storage_model.specs.declared.trace.End.TheVariants.{Fault}
use Rattle.storage_model.specs.declared.trace.Item.TheVariants.{Cut, Off, On}
use Rattle.trace_effects.specs.Effects.{effect}
use Rattle.array_edge.specs.Array.{ArrayState}
use Rattle.cut_laws.specs.Laws.{further_cuts}
use Rattle.cut_laws.specs.Lost.{lost_lines}
use Rattle.cut_order.specs.Order.{OrderState}
use Rattle.left_laws.specs.Lines.{lines_below}
use Rattle.storage_runs.specs.Runs.{StaysSo}
use Rattle.dark_laws.specs.Anew.{Leads, Outlasts, back_lines}
use Rattle.world_state.specs.Path.{PathState}
use Rattle.world_state.specs.Told.{IsLosing}

-- the lines tell so: all, those of the sectors below n, and those with an end in place of the next
pub record LeavesSo (s : State) (ids : List ℕ) (cuts : ℕ) (after : List Block) : Type 0 where
  pub all : StaysSo (effect s Cut) (back_lines s ids cuts after)
  pub below : (n : ℕ) → n ≤ length after → StaysSo (effect s Cut) (lost_lines ids ++ (further_cuts cuts ++ On ∷ lines_below s.pend after n))
  pub unread : (n : ℕ) → n ≤ length after → StaysSo (effect s Cut) (lost_lines ids ++ (further_cuts cuts ++ On ∷ (lines_below s.pend after n ++ Off Fault ∷ [])))

abbrev pub IsLeftSo : State → PathState → OrderState → ArrayState → Type 0
IsLeftSo s p o a = Outlasts p → IsLosing s p o a → (ids : List ℕ) (cuts : ℕ) (after : List Block) → Leads p a ids cuts after → LeavesSo s ids cuts after

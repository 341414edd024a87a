-- A run that ends behind a loss of power, in whatever line: the pages are near the state after the last one.
use Rattle.std.specs.Prelude.{◌≡◌, ◌≤◌, ◌<◌, ℕ, Bool, true, Some, List, [], ◌∷◌, ◌++◌, length}
use Rattle.storage_machine.specs.declared.state.State.{State}
use Rattle.storage_model.specs.declared.block.Block.{Block}
use Rattle.storage_model.specs.declared.trace.End.{End}
use Rattle.storage_model.specs.declared.trace.End.TheVariants.{Fault}
use Rattle.storage_model.specs.declared.trace.Item.TheVariants.{Off, On}
use Rattle.array_edge.specs.Array.{ArrayState}
use Rattle.intent_store.specs.Intent.{shown_by}
use Rattle.cut_laws.specs.Laws.{further_cuts, may_end}
use Rattle.cut_laws.specs.Lost.{AreLost, lost_lines}
use Rattle.cut_order.specs.Order.{OrderState}
use Rattle.left_laws.specs.Lines.{has_put, lines_below}
use Rattle.dark_laws.specs.Anew.{Outlasts}
use Rattle.world_state.specs.Path.{PathState}
use Rattle.world_state.specs.Told.{IsLosing, StaysDark}

-- so many of the issued requests were lost, and the array shows then what it showed
pub record LosesSome (s : State) (p : PathState) (o : OrderState) (a a' : ArrayState) (all : Bool) (ids : List ℕ) : Type 0 where
  pub out : Outlasts p
  pub losing : IsLosing s p o a
  pub kept : shown_by a' ≡ shown_by a
  pub lost : AreLost 0 p.driver.requests.holders all ids

-- it ends in or behind one of their lines
abbrev pub EndsLosing : State → PathState → OrderState → ArrayState → ArrayState → Type 0
EndsLosing s p o a a' = (all : Bool) (ids : List ℕ) → LosesSome s p o a a' all ids → StaysDark s (lost_lines ids) a'

-- behind further cuts
abbrev pub EndsInCuts : State → PathState → OrderState → ArrayState → ArrayState → Type 0
EndsInCuts s p o a a' = (ids : List ℕ) (cuts : ℕ) → LosesSome s p o a a' true ids → cuts ≤ 8 → StaysDark s (lost_lines ids ++ further_cuts cuts) a'

-- in the line of an opening that failed
abbrev pub EndsClosed : State → PathState → OrderState → ArrayState → ArrayState → Type 0
EndsClosed s p o a a' = (ids : List ℕ) (cuts : ℕ) (end : End) → LosesSome s p o a a' true ids → may_end cuts end ≡ true → StaysDark s (lost_lines ids ++ (further_cuts cuts ++ Off end ∷ [])) a'

-- behind lines of what is left, of the sectors below n
pub record ShowsSome (s : State) (p : PathState) (o : OrderState) (a a' : ArrayState) (ids : List ℕ) (cuts : ℕ) (after : List Block) : Type 0 where
  pub loses : LosesSome s p o a a' true ids
  pub few : cuts ≤ 7
  pub shows : shown_by a ≡ Some after

abbrev pub EndsLeaving : State → PathState → OrderState → ArrayState → ArrayState → Type 0
EndsLeaving s p o a a' = (ids : List ℕ) (cuts : ℕ) (after : List Block) (n : ℕ) → ShowsSome s p o a a' ids cuts after → n ≤ length after
    → StaysDark s (lost_lines ids ++ (further_cuts cuts ++ On ∷ lines_below s.pend after n)) a'

-- and in place of the line of sector n, which can't be read
abbrev pub EndsUnread : State → PathState → OrderState → ArrayState → ArrayState → Type 0
EndsUnread s p o a a' = (ids : List ℕ) (cuts : ℕ) (after : List Block) (n : ℕ) → ShowsSome s p o a a' ids cuts after → n < length after → has_put n s.pend ≡ true
    → StaysDark s (lost_lines ids ++ (further_cuts cuts ++ On ∷ (lines_below s.pend after n ++ Off Fault ∷ []))) a'

pub record EndsDark (s : State) (p : PathState) (o : OrderState) (a a' : ArrayState) : Type 0 where
  pub losing : EndsLosing s p o a a'
  pub cuts : EndsInCuts s p o a a'
  pub closed : EndsClosed s p o a a'
  pub leaving : EndsLeaving s p o a a'
  pub unread : EndsUnread s p o a a'

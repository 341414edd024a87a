-- The lines behind the first `cut`: requests that are lost, further cuts, the line that the power is on and what is left, or an end.
use Rattle.std.specs.Prelude.{◌≡◌, ◌≢◌, ◌⊎◌, ◌≤◌, ◌<◌, ℕ, ◌+◌, ◌-◌, ◌==◌, nat_le, All, Bool, true, false, Option, None, Some, IfSome, List, [], ◌∷◌, ◌++◌, length, replicate, slice_index_or}
use Rattle.storage_machine.specs.Slots.{asks_of, id_of, no_tasks, slot_at}
use Rattle.storage_machine.specs.declared.slots.Question.TheVariants.{Issued as IsIssued}
use Rattle.storage_machine.specs.declared.state.Event.TheVariants.{Untold}
use Rattle.storage_machine.specs.declared.state.Owed.TheVariants.{Dark, End as Ended}
use Rattle.storage_machine.specs.declared.state.State.{State}
use Rattle.storage_machine.specs.declared.state.Task.{Task}
use Rattle.storage_model.specs.declared.block.Block.{Block}
use Rattle.storage_model.specs.Contents.{IsWithin}
use Rattle.storage_model.specs.declared.trace.End.{End}
use Rattle.storage_model.specs.declared.trace.End.TheVariants.{Good, Fault, Dead, Image}
use Rattle.storage_model.specs.declared.trace.Item.{Item}
use Rattle.storage_model.specs.declared.trace.Item.TheVariants.{Cut, Off, On}
use Rattle.storage_order.specs.Events.{More}
use Rattle.storage_runs.specs.Runs.{StaysSo}
use Rattle.trace_effects.specs.Effects.{over}
use Rattle.left_laws.specs.Laws.{after_power}
use Rattle.left_laws.specs.Lines.{CanBeLeft, has_put, left_lines, lines_below}
use Rattle.cut_laws.specs.Lost.{AreLost, ids_in, lost_lines}

-- a slot's task is issued, and its request doesn't wait
pub record IsHeldBy (waiting : List Bool) (task : Task) : Type 0 where
  pub above : 1 ≤ task.id
  pub issued : asks_of IsIssued task.standing ≡ true
  pub waits : slice_index_or waiting (task.id - 1) false ≡ false

-- no two slots have the same request
abbrev pub AreApart : List (Option Task) → Type 0
AreApart slots = (tag other : ℕ) (task that : Task) → slot_at slots tag ≡ Some task → slot_at slots other ≡ Some that → task.id ≡ that.id → tag ≡ other

-- power is lost, and the issued requests are still to be; without them these wait
pub record IsCut (waiting : List Bool) (s : State) : Type 0 where
  pub owed : s.owed ≡ Dark 0
  pub event : s.event ≡ Untold
  pub slots : length s.slots ≡ 32
  pub held : (tag : ℕ) → IfSome (slot_at s.slots tag) (IsHeldBy waiting)
  pub apart : AreApart s.slots
  pub long : length s.waiting ≡ length waiting
  pub waits : (place : ℕ) → ((tag : ℕ) → id_of (slot_at s.slots tag) ≢ place + 1) → slice_index_or s.waiting place false ≡ slice_index_or waiting place false
  pub kept : length s.data ≡ 32
  pub empty : (tag : ℕ) → slot_at s.slots tag ≡ None → slice_index_or s.data tag [] ≡ []

abbrev pub no_data : List (List Block)
no_data = replicate 32 []

-- all of them are lost
abbrev pub all_lost : State → List Bool → State
all_lost s waiting = record s { slots = no_tasks; waiting = waiting; «data» = no_data }

-- lines that follow, and tell no other value of a sector than the kept one where none was staged
pub record Follow (s : State) (items : List Item) (t : State) : Type 0 where
  pub more : More s items t
  pub stays : StaysSo s items

-- so many requests are lost
pub record LosesRequests (s : State) (waiting : List Bool) (all : Bool) (items : List Item) : Type 0 where
  pub last : State
  pub follow : Follow s items last
  pub whole : all ≡ true → last ≡ all_lost s waiting
  pub base : last.base ≡ s.base
  pub pend : last.pend ≡ s.pend

abbrev pub AreLostShown : List Bool → State → Bool → List ℕ → Type 0
AreLostShown waiting s all ids = IsCut waiting s → AreLost 0 (ids_in s.slots) all ids → LosesRequests s waiting all (lost_lines ids)

-- so many further cuts came
abbrev pub dark : State → ℕ → State
dark s cuts = record s { owed = Dark cuts }

abbrev pub further_cuts : ℕ → List Item
further_cuts cuts = replicate cuts Cut

-- an end line that may stand behind so many
abbrev pub may_end : ℕ → End → Bool
may_end cuts Good = false
may_end cuts Fault = nat_le cuts 7
may_end cuts Image = nat_le cuts 7
may_end cuts Dead = cuts == 8

-- the issued requests were lost
pub record AreGone (s : State) : Type 0 where
  pub slots : s.slots ≡ no_tasks
  pub event : s.event ≡ Untold

abbrev pub AreCutsShown : State → ℕ → Type 0
AreCutsShown s cuts = AreGone s → cuts ≤ 8 → More (dark s 0) (further_cuts cuts) (dark s cuts)

abbrev pub IsEndShown : State → ℕ → End → Type 0
IsEndShown s cuts end = AreGone s → may_end cuts end ≡ true → More (dark s cuts) (Off end ∷ []) (over (dark s cuts) Ended)

-- contents that a cut may leave, where the power is on again
pub record MayBeShown (s : State) (cuts : ℕ) (after : List Block) : Type 0 where
  pub gone : AreGone s
  pub few : cuts ≤ 7
  pub within : All (IsWithin s.base) s.pend
  pub can : CanBeLeft s.base s.pend after

abbrev pub IsPowerShown : State → ℕ → List Block → Type 0
IsPowerShown s cuts after = MayBeShown s cuts after → More (dark s cuts) (On ∷ left_lines s.pend after) (after_power s after)

-- lines lead to a state whose contents and marks are those of before, or the contents that are left, without marks
pub record LeadsNear (s : State) (items : List Item) (after : List Block) : Type 0 where
  pub last : State
  pub more : More s items last
  pub near : ((last.base ≡ s.base) × (last.pend ≡ s.pend)) ⊎ ((last.base ≡ after) × (last.pend ≡ []))

-- the lines of the sectors below n
abbrev pub IsPartShown : State → ℕ → List Block → ℕ → Type 0
IsPartShown s cuts after n = MayBeShown s cuts after → n ≤ length after → LeadsNear (dark s cuts) (On ∷ lines_below s.pend after n) after

-- and the end in place of the line of sector n
abbrev pub IsUnreadShown : State → ℕ → List Block → ℕ → Type 0
IsUnreadShown s cuts after n =
    MayBeShown s cuts after → n < length after → has_put n s.pend ≡ true → LeadsNear (dark s cuts) (On ∷ (lines_below s.pend after n ++ Off Fault ∷ [])) after

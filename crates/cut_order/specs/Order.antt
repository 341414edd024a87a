-- The letters of a fault text, which tell whose event comes, and its `cut` lines: what of both a run has used.
use Rattle.std.specs.Prelude.{◌≡◌, ℕ, ◌+◌, ◌-◌, ◌≤◌, ◌&&◌, nat_le, min, Bool, true, false, not, if◌then◌else◌, Option, List, ◌++◌, is_some, length, position, replicate, slice_get, zip}
use Rattle.std.specs.List.{count_by}
use Rattle.storage_machine.specs.Cuts.{is_due, sent_so_far}
use Rattle.storage_machine.specs.declared.state.Event.{Event}
use Rattle.storage_machine.specs.declared.state.Event.TheVariants.{Due}
use Rattle.storage_machine.specs.declared.state.Owed.{Owed}
use Rattle.storage_machine.specs.declared.state.Owed.TheVariants.{Dark}
use Rattle.storage_machine.specs.declared.state.State.{State}
use Rattle.storage_model.specs.Faults.{AreRising}
use Rattle.storage_model.specs.declared.faults.Letter.{Letter}
use Rattle.storage_model.specs.declared.faults.Letter.TheVariants.{Cut as PowerActs}
use Rattle.storage_model.specs.declared.trace.Item.{Item}
use Rattle.storage_model.specs.declared.trace.Item.TheVariants.{Cut, Turn}
use Rattle.trace_effects.specs.Cuts.{used as used_at}
use Rattle.trace_rules.specs.Lines.{same_letter}

-- `letters`: how many letters are used; `used`: of each `cut` line whether it is
pub record OrderState : Type 0 where
  pub turns : List Letter
  pub letters : ℕ
  pub cuts : List ℕ
  pub used : List Bool

-- that of a state of the storage machine
abbrev pub order_of : State → OrderState
order_of s = record { turns = s.faults.turns; letters = s.letters; cuts = s.faults.cuts; used = s.cuts }

-- the first lines are used, and no others
abbrev pub front : (first lines : ℕ) → List Bool
front first lines = replicate first true ++ replicate (lines - first) false

-- the used lines are the first ones
pub record IsFront (order : OrderState) : Type 0 where
  pub first : ℕ
  pub within : first ≤ length order.cuts
  pub is : order.used ≡ front first (length order.cuts)

-- nothing is used
abbrev pub fresh : List Letter → List ℕ → OrderState
fresh turns cuts = record { turns = turns; letters = 0; cuts = cuts; used = replicate (length cuts) false }

-- the letter that comes next, where one is left
abbrev pub next_letter : OrderState → Option Letter
next_letter order = slice_get order.turns order.letters

-- the first line that isn't used and whose number has come, where so many commands were sent
abbrev pub due_at : (cuts : List ℕ) (used : List Bool) (sent : ℕ) → Option ℕ
due_at cuts used sent = position (λ line. not line.1 && nat_le line.0 sent) (zip cuts used)

abbrev pub line_at : OrderState → ℕ → Option ℕ
line_at order sent = due_at order.cuts order.used sent

abbrev pub is_line_due : OrderState → ℕ → Bool
is_line_due order sent = is_some (line_at order sent)

-- one letter more is used, where one is left
abbrev pub with_letter : OrderState → OrderState
with_letter order = record order { letters = min (order.letters + 1) (length order.turns) }

-- the due line is used, where one is due
abbrev pub with_line : OrderState → ℕ → OrderState
with_line order sent = record order { used = used_at order.used (line_at order sent) }

-- power is lost in an event: the due line that forced it is used, and none where none did
abbrev pub cut_in : Event → OrderState → ℕ → OrderState
cut_in Due order sent = with_line order sent
cut_in event order sent = order

-- a loss of power that is told already: further cuts use no line
abbrev pub is_dark : Owed → Bool
is_dark (Dark cuts) = true
is_dark owed = false

-- an event of power uses the line that is due at its begin, and another event none
abbrev pub uses_line : State → Letter → Bool
uses_line s actor = same_letter actor PowerActs && is_due s

abbrev pub order_after : State → Letter → OrderState
order_after s actor = if uses_line s actor then with_line (order_of s) (sent_so_far s) else order_of s

-- the lines that tell of a use
abbrev pub tells_of_use : Item → Bool
tells_of_use (Turn letter) = true
tells_of_use Cut = true
tells_of_use item = false

-- what is left of both
abbrev pub letters_left : OrderState → ℕ
letters_left order = length order.turns - order.letters

abbrev pub lines_left : OrderState → ℕ
lines_left order = count_by not order.used

-- no more is used than there is, and the lines' numbers rise
pub record IsWithin (turns : List Letter) (letters : ℕ) (cuts : List ℕ) (first : ℕ) : Type 0 where
  pub turns_left : letters ≤ length turns
  pub cuts_left : first ≤ length cuts
  pub rising : AreRising cuts

-- The lines of what a cut left are those that the contents may be left by, and no others.
use Rattle.std.specs.Prelude.{◌≡◌, ◌≤◌, ◌<◌, ℕ, ◌+◌, Bool, true, false, if◌then◌else◌, Some, None, is_none, All, List, [], ◌∷◌, length, take}
use Rattle.left_laws.specs.Lines.{CanBeLeft, OwesLeft, all_shown, has_put, left_line, left_lines, lines_below, shown_below}
use Rattle.storage_machine.specs.Cuts.{next_left}
use Rattle.storage_machine.specs.declared.state.Event.TheVariants.{Untold}
use Rattle.storage_machine.specs.declared.state.Owed.TheVariants.{Nothing, End as Ended}
use Rattle.storage_machine.specs.declared.state.State.{State}
use Rattle.storage_model.specs.Contents.{IsWithin}
use Rattle.storage_model.specs.Left.{is_left}
use Rattle.storage_model.specs.declared.block.Block.{Block}
use Rattle.storage_model.specs.declared.marks.Mark.{Mark}
use Rattle.storage_model.specs.declared.trace.End.TheVariants.{Fault as FaultEnd}
use Rattle.storage_model.specs.declared.trace.Item.{Item}
use Rattle.storage_model.specs.declared.trace.Item.TheVariants.{Left, On, Off}
use Rattle.storage_order.specs.Events.{More}
use Rattle.trace_effects.specs.Cuts.{is_deferred}
use Rattle.trace_effects.specs.Effects.{effect, over, powered}
use Rattle.trace_rules.specs.Lines.{line_rule}
use Rattle.trace_rules.specs.Steps.{is_left_so}

-- Each block has its 512 bytes. Then a sector without a put is left as it was kept.
abbrev pub AreWhole : List Block → Type 0
AreWhole blocks = All (λ block. length block.0 ≡ 512) blocks

abbrev pub IsRestKept : List Block → List Mark → List Block → Type 0
IsRestKept base pend after = AreWhole base → AreWhole after → length after ≡ length base → is_left base pend after ≡ true → CanBeLeft base pend after

-- `on`: with a put what is left is owed, without one nothing is
pub record IsCalm (s t : State) : Type 0 where
  pub owed : t.owed ≡ Nothing
  pub event : t.event ≡ Untold
  pub base : t.base ≡ s.base
  pub pend : t.pend ≡ []

pub record TurnsOn (s : State) : Type 0 where
  pub some : (k : ℕ) → has_put k s.pend ≡ true → All (IsWithin s.base) s.pend → OwesLeft (effect s On)
  pub base : (effect s On).base ≡ s.base
  pub pend : (k : ℕ) → has_put k s.pend ≡ true → (effect s On).pend ≡ s.pend
  pub deferred : (k : ℕ) → has_put k s.pend ≡ true → (effect s On).deferred ≡ is_deferred s
  pub none : ((k : ℕ) → has_put k s.pend ≡ false) → IsCalm s (effect s On)

-- where `after` may be left its lines may stand
abbrev pub IsShown : State → List Block → Type 0
IsShown s after = OwesLeft s → CanBeLeft s.base s.pend after → More s (left_lines s.pend after) (all_shown s after)

-- the first of them too, up to a sector, or so many
abbrev pub IsShownBelow : State → List Block → ℕ → Type 0
IsShownBelow s after n = OwesLeft s → CanBeLeft s.base s.pend after → n ≤ length after → More s (lines_below s.pend after n) (shown_below s after n)

abbrev pub AreFirstShown : State → List Block → ℕ → Type 0
AreFirstShown s after k = OwesLeft s → CanBeLeft s.base s.pend after → (u : State) × More s (take k (left_lines s.pend after)) u

-- with the line that the power is on in front; where there is no put that line is the only one
abbrev pub after_power : State → List Block → State
after_power s after =
    if is_none (next_left s.pend 0) then record (powered s) { base = after; pend = []; kept = false; owed = Nothing; event = Untold } else all_shown (powered s) after

abbrev pub IsOnShown : State → List Block → Type 0
IsOnShown s after = s.event ≡ Untold → line_rule s On ≡ None → All (IsWithin s.base) s.pend → CanBeLeft s.base s.pend after → More s (On ∷ left_lines s.pend after) (after_power s after)

-- Line by line: the states between are those of `shown_below`, from the first on.
abbrev pub IsFirstState : State → List Block → Type 0
IsFirstState s after = OwesLeft s → shown_below s after 0 ≡ s

-- the next sector with a put, and that there is none
abbrev pub IsNextSector : List Mark → ℕ → ℕ → Type 0
IsNextSector pend n k = n ≤ k → has_put k pend ≡ true → ((j : ℕ) → n ≤ j → j < k → has_put j pend ≡ false) → next_left pend n ≡ Some k

abbrev pub IsNoSector : List Block → List Mark → ℕ → Type 0
IsNoSector base pend n = All (IsWithin base) pend → ((j : ℕ) → n ≤ j → j < length base → has_put j pend ≡ false) → next_left pend n ≡ None

-- one line, from the state where those of the sectors before are shown
abbrev pub IsNextShown : State → List Block → ℕ → ℕ → Type 0
IsNextShown s after n k = OwesLeft s → CanBeLeft s.base s.pend after → next_left s.pend n ≡ Some k
    → More (shown_below s after n) (left_line after k ∷ []) (shown_below s after (k + 1))

-- a sector without a put is passed, and behind the last sector with one all is shown
abbrev pub IsSectorPassed : State → List Block → ℕ → Type 0
IsSectorPassed s after n = CanBeLeft s.base s.pend after → has_put n s.pend ≡ false → shown_below s after (n + 1) ≡ shown_below s after n

abbrev pub IsLastState : State → List Block → ℕ → Type 0
IsLastState s after n = next_left s.pend n ≡ None → shown_below s after n ≡ all_shown s after

-- in place of such a line the trace may end, where the sector can't be read
abbrev pub IsFaultShown : State → List Block → ℕ → ℕ → Type 0
IsFaultShown s after n k = next_left s.pend n ≡ Some k → More (shown_below s after n) (Off FaultEnd ∷ []) (over (shown_below s after n) Ended)

-- where nothing of the cache was staged, what is left is what was kept
abbrev pub IsShownSo : State → List Block → ℕ → ℕ → Type 0
IsShownSo s after n k = OwesLeft s → (s.deferred ≡ true → after ≡ s.base) → next_left s.pend n ≡ Some k → is_left_so (shown_below s after n) (left_line after k) ≡ true

-- And back: the lines may stand one after the other, each by its own rule, and all are lines of what is left.
abbrev pub Steps : State → List Item → State → Type 0
Steps s [] t = t ≡ s
Steps s (item ∷ items) t = (line_rule s item ≡ None) × Steps (effect s item) items t

abbrev pub is_left_line : Item → Bool
is_left_line (Left sector value) = true
is_left_line item = false

-- then what they show may be left, and they are its lines
pub record ShowsLeft (s : State) (lines : List Item) (t : State) : Type 0 where
  pub can : CanBeLeft s.base s.pend t.base
  pub shown : lines ≡ left_lines s.pend t.base
  pub state : t ≡ all_shown s t.base

abbrev pub IsLeftShown : State → List Item → State → Type 0
IsLeftShown s lines t = OwesLeft s → All (λ item. is_left_line item ≡ true) lines → Steps s lines t → t.owed ≡ Nothing → ShowsLeft s lines t

-- and where nothing of the cache was staged, it is what was kept
abbrev pub AreKept : State → List Item → State → Type 0
AreKept s lines t = ShowsLeft s lines t → s.deferred ≡ true → All (λ item. is_left_so s item ≡ true) lines → t.base ≡ s.base

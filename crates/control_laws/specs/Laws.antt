-- Control stands alone. What a line reads of contents and does to them is in few functions; all other rules are those of control.
use Rattle.control_laws.specs.Parts.{Contents, SameControl, SameOutline, contents_of, with_contents}
use Rattle.std.specs.Prelude.{◌≡◌, ℕ, ⊤, Bool, true, false, None, Result, Ok, Err, List, [], ◌∷◌}
use Rattle.storage_machine.specs.declared.state.State.{State}
use Rattle.storage_model.specs.declared.trace.Item.{Item}
use Rattle.storage_model.specs.declared.trace.Item.TheVariants.{Phase, Sector, Lost, On, Left, Off}
use Rattle.storage_order.specs.Accept.{accept_from, accepted, broken_rule}
use Rattle.storage_order.specs.Order.{order_rule, settled}
use Rattle.trace_effects.specs.Effects.{effect}
use Rattle.trace_rules.specs.Lines.{holds, line_rule}
use Rattle.trace_rules.specs.Steps.{event_rule, is_left_so}

-- the lines whose rules read contents: `sector_holds`, `left_holds` and `is_left_so`
abbrev pub reads_contents : Item → Bool
reads_contents (Sector value) = true
reads_contents (Left sector value) = true
reads_contents item = false

-- the lines that change contents: `after_blocks` and `data_with`, `shown_on`, `without_data`, `left_from`, `after_left`, `kept_at`
abbrev pub changes_contents : Item → Bool
changes_contents (Phase n id count kept) = true
changes_contents (Sector value) = true
changes_contents (Lost id) = true
changes_contents On = true
changes_contents (Left sector value) = true
changes_contents (Off end) = true
changes_contents item = false

-- other contents answer the same: to the line's own rule, and where nothing of the cache was staged
pub record SameAnswers (s : State) (c : Contents) (item : Item) : Type 0 where
  pub own : holds (with_contents c s) item ≡ holds s item
  pub so : is_left_so (with_contents c s) item ≡ is_left_so s item

-- with other contents a line breaks the same rules
pub record SameRules (s : State) (c : Contents) (item : Item) : Type 0 where
  pub line : line_rule (with_contents c s) item ≡ line_rule s item
  pub event : event_rule (with_contents c s) item ≡ event_rule s item

abbrev pub IsControlRule : State → Contents → Item → Type 0
IsControlRule s c item = SameOutline c (contents_of s) → (reads_contents item ≡ true → SameAnswers s c item) → SameRules s c item

-- the order of events reads no contents, and changes none
pub record IsControlOrder (s : State) (c : Contents) (item : Item) : Type 0 where
  pub rule : order_rule (with_contents c s) item ≡ order_rule s item
  pub settled : settled (with_contents c s) item ≡ with_contents c (settled s item)

-- what a line does to control
abbrev pub IsControlEffect : State → Contents → Item → Type 0
IsControlEffect s c item = SameOutline c (contents_of s) → SameControl (effect s item) (effect (with_contents c s) item)

-- the other lines leave contents as they are
abbrev pub AreContentsKept : State → Item → Type 0
AreContentsKept s item = changes_contents item ≡ false → contents_of (effect s item) ≡ contents_of s

-- a step of the acceptance
pub record SameStep (s : State) (c : Contents) (item : Item) : Type 0 where
  pub rule : broken_rule (with_contents c s) item ≡ broken_rule s item
  pub control : SameControl (accepted s item) (accepted (with_contents c s) item)

abbrev pub IsControlStep : State → Contents → Item → Type 0
IsControlStep s c item = SameOutline c (contents_of s) → (reads_contents item ≡ true → SameAnswers (settled s item) c item) → SameStep s c item

-- A trace from two states with the same control, as long as their outlines are the same and their contents answer the same. It is refused at
-- the same line by the same rule, or it leads to the same control again.
abbrev pub Agrees : State → State → List Item → Type 0
Agrees s t [] = ⊤
Agrees s t (item ∷ items) =
    SameOutline (contents_of t) (contents_of s) × (reads_contents item ≡ true → SameAnswers (settled s item) (contents_of t) item)
    × (broken_rule s item ≡ None → Agrees (accepted s item) (accepted t item) items)

abbrev pub SameEnd : Result State ℕ → Result State ℕ → Type 0
SameEnd (Ok s) (Ok t) = SameControl s t
SameEnd (Err rule) (Err other) = other ≡ rule
SameEnd end other = ⊥

abbrev pub IsControlTrace : State → State → List Item → Type 0
IsControlTrace s t items = SameControl s t → Agrees s t items → SameEnd (accept_from items s) (accept_from items t)

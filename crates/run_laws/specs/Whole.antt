-- Whole runs: the card line, then one event after the other, then the end's line. Where nothing is to do and the last flush loses power, the lines of its cut
-- come, and the run goes on.
use Rattle.std.specs.Prelude.{◌≡◌, ◌⊎◌, ℕ, true, false, if◌then◌else◌, Option, Some, None, Ok, List, [], ◌∷◌, ◌++◌, length}
use Rattle.storage_machine.specs.Host.{to_do}
use Rattle.storage_machine.specs.declared.state.Owed.TheVariants.{Nothing, End as Ended}
use Rattle.storage_machine.specs.declared.state.State.{State}
use Rattle.storage_model.specs.Plan.{IsValidPlan}
use Rattle.storage_model.specs.declared.block.Block.{Block}
use Rattle.storage_model.specs.declared.faults.Faults.{Faults}
use Rattle.storage_model.specs.declared.plan.Plan.{Plan}
use Rattle.storage_model.specs.declared.trace.End.{End}
use Rattle.storage_model.specs.declared.trace.Item.{Item}
use Rattle.storage_model.specs.declared.trace.Item.TheVariants.{Card, Cut, Off}
use Rattle.storage_order.specs.Accept.{accept, started}
use Rattle.storage_order.specs.Events.{More, closed, is_over}
use Rattle.storage_runs.specs.Laws.{Opens, joined}
use Rattle.storage_runs.specs.Runs.{Comes}
use Rattle.trace_effects.specs.Effects.{effect}
use Rattle.trace_rules.specs.Lines.{is_free, line_rule}

-- the first line: the sectors, the depth, and the lines of the cache or that it is off
abbrev pub lines_shown : Plan → Option ℕ
lines_shown plan = if plan.through then None else Some plan.lines

abbrev pub card_line : List Block → Plan → Item
card_line base plan = Card (length base) plan.depth (lines_shown plan)

-- the state behind it
abbrev pub opened : List Block → Plan → Faults → State
opened base plan faults = record (started base plan faults) { owed = Nothing }

-- Nothing is to do and no phase is under way, and the last flush loses power. These lines stand behind the cut.
pub record Drops (s : State) (items : List Item) (last : State) : Type 0 where
  pub free : is_free s.owed ≡ true
  pub none : to_do s ≡ false
  pub idle : s.busy ≡ false
  pub more : More (effect s Cut) items last

-- they are all that follow from it
pub record Dropped (s : State) (lines : List Item) (t : State) : Type 0 where
  pub items : List Item
  pub last : State
  pub printed : lines ≡ Cut ∷ items
  pub drops : Drops s items last
  pub over : is_over last.owed ≡ true
  pub state : t ≡ record last { owed = closed last.owed }

-- a part of a run: the next event, or a last flush that loses power
abbrev pub Part : State → List Item → State → Type 0
Part s lines t = Comes s lines t ⊎ Dropped s lines t

-- one part after the other
abbrev pub Course : State → List (List Item) → State → Type 0
Course s [] t = t ≡ s
Course s (lines ∷ parts) t = (u : State) × Part s lines u × Course u parts t

-- how a run ends: by the end's line where nothing is to do, or by one among the lines of a cut
abbrev pub Finishes : State → Option End → State → Type 0
Finishes s None t = (s.owed ≡ Ended) × (t ≡ s)
Finishes s (Some end) t = (is_free s.owed ≡ true) × (to_do s ≡ false) × (line_rule s (Off end) ≡ None) × (t ≡ effect s (Off end))

abbrev pub off_lines : Option End → List Item
off_lines None = []
off_lines (Some end) = Off end ∷ []

-- the lines of a whole run, and the state behind them
pub record Whole (base : List Block) (plan : Plan) (faults : Faults) (lines : List Item) (t : State) : Type 0 where
  pub parts : List (List Item)
  pub last : State
  pub end : Option End
  pub printed : lines ≡ card_line base plan ∷ (joined parts ++ off_lines end)
  pub course : Course (opened base plan faults) parts last
  pub finishes : Finishes last end t

abbrev pub IsWholeTaken : List Block → Plan → Faults → List Item → State → Type 0
IsWholeTaken base plan faults lines t = IsValidPlan plan → Whole base plan faults lines t → accept base plan faults lines ≡ Ok t

-- the first lines of such a flush, or of any part, and no more of it
abbrev pub DropsFirst : State → List Item → Type 0
DropsFirst s lines = (items : List Item) × (last : State) × (lines ≡ Cut ∷ items) × Drops s items last

abbrev pub Begun : State → List Item → Type 0
Begun s lines = (lines ≡ []) ⊎ (((last : State) × Opens s lines last) ⊎ DropsFirst s lines)

-- the lines that a run wrote up to the failure of its sink: those of its parts, and the first of one more
pub record Front (base : List Block) (plan : Plan) (faults : Faults) (lines : List Item) : Type 0 where
  pub parts : List (List Item)
  pub last : State
  pub first : List Item
  pub printed : lines ≡ card_line base plan ∷ (joined parts ++ first)
  pub course : Course (opened base plan faults) parts last
  pub begun : Begun last first

abbrev pub IsAccepted : List Block → Plan → Faults → List Item → Type 0
IsAccepted base plan faults lines = (t : State) × (accept base plan faults lines ≡ Ok t)

-- they are taken; a run whose sink fails at once wrote none
abbrev pub IsWholeFrontTaken : List Block → Plan → Faults → List Item → Type 0
IsWholeFrontTaken base plan faults lines = IsValidPlan plan → (lines ≡ []) ⊎ Front base plan faults lines → IsAccepted base plan faults lines

-- One trace. Where the fault text names no bus fault, no cut and no letter, a state that is reached without `flash` and `cut` has at most one next line
-- other than these, `off fault` and an incomplete phase. So without faults there is one trace from the card line to `off ok`.
use Rattle.std.specs.Prelude.{◌≡◌, Bool, true, false, Ok, None, Some, All, List, [], ◌∷◌, ◌++◌}
use Rattle.run_laws.specs.Whole.{Whole}
use Rattle.storage_machine.specs.Jobs.{job_of}
use Rattle.storage_machine.specs.declared.state.State.{State}
use Rattle.storage_model.specs.Plan.{IsValidPlan}
use Rattle.storage_model.specs.declared.block.Block.{Block}
use Rattle.storage_model.specs.declared.faults.Faults.{Faults}
use Rattle.storage_model.specs.declared.plan.Plan.{Plan}
use Rattle.storage_model.specs.declared.trace.End.TheVariants.{Good, Fault as FaultEnd}
use Rattle.storage_model.specs.declared.trace.Item.{Item}
use Rattle.storage_model.specs.declared.trace.Item.TheVariants.{Phase, Flash, Cut, Off}
use Rattle.storage_order.specs.Accept.{accept, broken_rule}
use Rattle.trace_rules.specs.Phases.{is_whole}

-- a fault text without bus faults, cuts and letters; of the words of its polls nothing is asked
pub record IsFaultless (faults : Faults) : Type 0 where
  pub bus : faults.bus ≡ []
  pub cuts : faults.cuts ≡ []
  pub turns : faults.turns ≡ []

-- A line that comes without a fault of the flash and without a loss of power. An incomplete phase owes one of the two.
abbrev pub is_plain : Item → Bool
is_plain (Flash id) = false
is_plain Cut = false
is_plain line = true

-- a line of a run without faults: a plain one, a phase that moved all blocks and kept what must be kept, an end but `off fault`
abbrev pub is_expected : Plan → Item → Bool
is_expected plan (Flash id) = false
is_expected plan Cut = false
is_expected plan (Off FaultEnd) = false
is_expected plan (Phase n id count kept) = is_whole plan.through (job_of plan.jobs id) count kept
is_expected plan line = true

-- plain lines are accepted, and lead to this state
pub record Reaches (base : List Block) (plan : Plan) (faults : Faults) (lines : List Item) (s : State) : Type 0 where
  pub plain : All (λ line. is_plain line ≡ true) lines
  pub taken : accept base plan faults lines ≡ Ok s

-- a next line
pub record IsNext (plan : Plan) (s : State) (line : Item) : Type 0 where
  pub expected : is_expected plan line ≡ true
  pub taken : broken_rule s line ≡ None

-- a reached state has at most one
abbrev pub IsOneNext : List Block → Plan → Faults → List Item → State → Type 0
IsOneNext base plan faults lines s = IsFaultless faults → Reaches base plan faults lines s → (line other : Item) → IsNext plan s line → IsNext plan s other → line ≡ other

-- two traces to `off ok` are the same, and so are the states that they lead to
abbrev pub IsOneTrace : List Block → Plan → Faults → List Item → List Item → State → State → Type 0
IsOneTrace base plan faults lines others s t =
    IsFaultless faults → Reaches base plan faults (lines ++ Off Good ∷ []) s → Reaches base plan faults (others ++ Off Good ∷ []) t → (lines ≡ others) × (s ≡ t)

-- and lines that are accepted and lead to any state are the first of that trace
abbrev pub IsFront : List Block → Plan → Faults → List Item → List Item → State → State → Type 0
IsFront base plan faults lines others s t =
    IsFaultless faults → All (λ line. is_expected plan line ≡ true) lines → accept base plan faults lines ≡ Ok s → Reaches base plan faults (others ++ Off Good ∷ []) t
    → (rest : List Item) × (others ++ Off Good ∷ [] ≡ lines ++ rest)

-- a whole run with such lines, to `off ok`
pub record IsGoodRun (base : List Block) (plan : Plan) (faults : Faults) (lines : List Item) (s : State) : Type 0 where
  pub plain : All (λ line. is_plain line ≡ true) lines
  pub whole : Whole base plan faults lines s
  pub good : whole.end ≡ Some Good

-- there is at most one
abbrev pub IsOneRun : List Block → Plan → Faults → List Item → List Item → State → State → Type 0
IsOneRun base plan faults lines others s t =
    IsValidPlan plan → IsFaultless faults → IsGoodRun base plan faults lines s → IsGoodRun base plan faults others t → (lines ≡ others) × (s ≡ t)

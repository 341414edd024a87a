-- The answers of a run's requests. In a trace without loss of power and without flash faults each request has one answer: its own, or
-- that it is past the last sector, or that four bus faults named it.
use Rattle.std.specs.Prelude.{◌≡◌, ◌≤◌, ◌<◌, ◌⊎◌, ℕ, ◌==◌, nat_le, Bool, true, false, if◌then◌else◌, Option, Some, None, All, List, [], ◌∷◌, ◌++◌, filter, length}
use Rattle.one_trace.specs.Traces.{Reaches, is_plain}
use Rattle.run_laws.specs.Whole.{Whole}
use Rattle.storage_machine.specs.Jobs.{is_in_range, job_of}
use Rattle.storage_machine.specs.declared.state.State.{State}
use Rattle.storage_model.specs.Plan.{IsValidPlan}
use Rattle.storage_model.specs.declared.block.Block.{Block}
use Rattle.storage_model.specs.declared.faults.Faults.{Faults}
use Rattle.storage_model.specs.declared.plan.Job.{Job}
use Rattle.storage_model.specs.declared.plan.Job.TheVariants.{Read as ReadJob, Status as StatusJob}
use Rattle.storage_model.specs.declared.plan.Plan.{Plan}
use Rattle.storage_model.specs.declared.trace.End.{End}
use Rattle.storage_model.specs.declared.trace.Item.{Item}
use Rattle.storage_model.specs.declared.trace.Item.TheVariants.{Bus, Done, Read, Status, Fault, Refused, Lost, Off}
use Rattle.storage_model.specs.declared.trace.Limit.TheVariants.{Range}
use Rattle.storage_model.specs.declared.trace.Why.TheVariants.{Bus as ByBus}

-- the line answers the request; `lost` does behind a loss of power
abbrev pub is_answer_to : ℕ → Item → Bool
is_answer_to id (Done other) = other == id
is_answer_to id (Read other) = other == id
is_answer_to id (Status other word) = other == id
is_answer_to id (Fault other why) = other == id
is_answer_to id (Refused other limit) = other == id
is_answer_to id (Lost other) = other == id
is_answer_to id line = false

-- its answers in a trace, in order
abbrev pub answers_to : ℕ → List Item → List Item
answers_to id lines = filter (is_answer_to id) lines

-- the line is a bus fault that names the request
abbrev pub is_named : ℕ → Option ℕ → Bool
is_named id None = false
is_named id (Some other) = other == id

abbrev pub is_bus_fault_of : ℕ → Item → Bool
is_bus_fault_of id (Bus n kind named) = is_named id named
is_bus_fault_of id line = false

-- how many there are
abbrev pub bus_faults_of : ℕ → List Item → ℕ
bus_faults_of id lines = length (filter (is_bus_fault_of id) lines)

-- the answer of a request that is served
abbrev pub own_answer : ℕ → Job → Item
own_answer id (ReadJob sector blocks high) = Read id
own_answer id StatusJob = Status id 0x900
own_answer id job = Done id

-- its own, where it ends at or below the last sector
abbrev pub answer_inside : ℕ → Job → ℕ → Item
answer_inside id job sectors = if is_in_range job sectors then own_answer id job else Refused id Range

-- and the bus fault's at the fourth one that named it
abbrev pub answer_of : ℕ → Job → ℕ → ℕ → Item
answer_of id job sectors bus_faults = if nat_le 4 bus_faults then Fault id ByBus else answer_inside id job sectors

-- an accepted trace without loss of power and without flash faults, up to the line of its end
pub record IsEndedTrace (base : List Block) (plan : Plan) (faults : Faults) (lines : List Item) : Type 0 where
  pub last : State
  pub reached : Reaches base plan faults lines last
  pub front : List Item
  pub end : End
  pub ends : lines ≡ front ++ Off end ∷ []

-- a whole run of that kind prints such a trace
abbrev pub IsPrinted : List Block → Plan → Faults → List Item → State → End → Type 0
IsPrinted base plan faults lines s end =
    IsValidPlan plan → All (λ line. is_plain line ≡ true) lines → (run : Whole base plan faults lines s) → run.end ≡ Some end → IsEndedTrace base plan faults lines

-- the request has one answer there
abbrev pub IsAnswered : List Block → Plan → Faults → List Item → ℕ → Type 0
IsAnswered base plan faults lines id =
    IsEndedTrace base plan faults lines → 1 ≤ id → id ≤ length plan.jobs
    → answers_to id lines ≡ answer_of id (job_of plan.jobs id) (length base) (bus_faults_of id lines) ∷ []

-- no more than four bus faults name it
abbrev pub HasFewFaults : List Block → Plan → Faults → List Item → ℕ → Type 0
HasFewFaults base plan faults lines id = IsEndedTrace base plan faults lines → bus_faults_of id lines ≤ 4

-- there is no answer of another number
abbrev pub IsOfRequest : List Block → Plan → Faults → List Item → ℕ → Type 0
IsOfRequest base plan faults lines id = IsEndedTrace base plan faults lines → (id < 1) ⊎ (length plan.jobs < id) → answers_to id lines ≡ []

-- without bus faults in the fault text no answer is a fault
abbrev pub IsFaultless : List Block → Plan → Faults → List Item → ℕ → Type 0
IsFaultless base plan faults lines id =
    faults.bus ≡ [] → IsEndedTrace base plan faults lines → 1 ≤ id → id ≤ length plan.jobs → answers_to id lines ≡ answer_inside id (job_of plan.jobs id) (length base) ∷ []

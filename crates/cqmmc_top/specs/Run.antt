-- What a run promises, in words of the storage machine: the lines that it writes are a trace that the machine accepts, and the pages of the array at its
-- end are the machine's contents, or near them.
use Rattle.std.specs.Prelude.{◌≡◌, ◌⊎◌, ◌≤◌, ℕ, ◌+◌, true, List, [], ◌∷◌, IfSome, OnOk, Option, Some, Result, Ok, Err, count_by, false, is_ok, is_some, length}
use Rattle.std.specs.Option.{IsSomeAnd}
use Rattle.answer_laws.specs.Answers.{answer_of, answers_to, bus_faults_of}
use Rattle.storage_machine.specs.Jobs.{job_of}
use Rattle.storage_machine.specs.declared.state.State.{State}
use Rattle.storage_model.specs.Count.{Count, Later, Rose}
use Rattle.storage_model.specs.declared.block.Block.{Block}
use Rattle.storage_model.specs.declared.ends.Halt.{Halt}
use Rattle.storage_model.specs.declared.ends.Halt.TheVariants.{SinkFailed, OpenFault, PowerGone, BadImage}
use Rattle.storage_model.specs.declared.faults.Faults.{Faults}
use Rattle.storage_model.specs.declared.plan.Plan.{Plan}
use Rattle.storage_model.specs.declared.trace.End.{End}
use Rattle.storage_model.specs.declared.trace.End.TheVariants.{Good, Fault, Dead, Image}
use Rattle.storage_model.specs.declared.trace.Item.{Item}
use Rattle.storage_order.specs.Accept.{accept}
use Rattle.run_laws.specs.Whole.{card_line}
use Rattle.trace_print.specs.Prints.{halt_faults, is_cut_line, is_flash}
use Rattle.array_edge.specs.Array.{ArrayState}
use Rattle.intent_store.specs.Intent.{ShowsImage, shown_by}
use Rattle.power_step.specs.Loses.{EndsBy}
use Rattle.power_step.specs.Wrote.{Wrote}
use Rattle.whole_run.specs.Cuts.{is_power}
use Rattle.whole_run.specs.Whole.{Breaks}
use Rattle.world_state.specs.Stands.{IsNear, Stands}
use Rattle.world_steps.specs.World.{WorldState}
use Rattle.cqmmc_top.specs.Answers.{HasBegun, HasCalls, IsStill, fail_lines, program_cuts}
use Rattle.cqmmc_top.specs.Print.{run_status}
use Rattle.cqmmc_top.specs.Texts.{AreFaultsOf, IsPlanOf}

-- The trace is accepted and ends with `off ok`; the array shows the machine's contents, and with the run that is handed back it stands for the
-- machine's state.
pub record EndedWell (base : List Block) (plan : Plan) (faults : Faults) (lines : List Item) (world : Option WorldState) (new : ArrayState) : Type 0 where
  pub state : State
  pub accepted : accept base plan faults lines ≡ Ok state
  pub last : EndsBy Good lines
  pub shown : shown_by new ≡ Some state.base
  pub stands : IsSomeAnd world (λ w. Stands w.path w.order new state)

-- the trace is accepted and ends with the line of another end, and the array is near the machine's state
pub record EndedEarly (end : End) (base : List Block) (plan : Plan) (faults : Faults) (lines : List Item) (new : ArrayState) : Type 0 where
  pub state : State
  pub accepted : accept base plan faults lines ≡ Ok state
  pub last : EndsBy end lines
  pub near : IfSome (shown_by new) (IsNear state)

-- The lines are accepted, that one among them of which the sink took a part, and the array is near the state behind it: the run broke off in its first
-- line, or in one of a part behind whole ones.
pub record EndedBySink (base : List Block) (plan : Plan) (faults : Faults) (lines : List Item) (new : ArrayState) : Type 0 where
  pub state : State
  pub accepted : accept base plan faults lines ≡ Ok state
  pub near : ((lines ≡ card_line base plan ∷ []) × (shown_by new ≡ Some base)) ⊎ Breaks base plan faults lines new

abbrev pub EndedSo : List Block → Plan → Faults → List Item → Result (Unit {0}) Halt → Option WorldState → ArrayState → Type 0
EndedSo base plan faults lines (Ok done) world new = EndedWell base plan faults lines world new
EndedSo base plan faults lines (Err SinkFailed) world new = EndedBySink base plan faults lines new
EndedSo base plan faults lines (Err OpenFault) world new = EndedEarly Fault base plan faults lines new
EndedSo base plan faults lines (Err PowerGone) world new = EndedEarly Dead base plan faults lines new
EndedSo base plan faults lines (Err BadImage) world new = EndedEarly Image base plan faults lines new

-- no more `flash` lines, with a last `off fault`, than calls failed: of the array itself, and by lines of the fault text that were reached
abbrev pub AreFaultsExplained : (faults : Faults) (old new : ArrayState) → HasCalls faults old new → List Item → Result (Unit {0}) Halt → Type 0
AreFaultsExplained faults old new calls lines result =
    (old.faults.value + (count_by is_flash lines + halt_faults result) ≤ new.faults.value + fail_lines faults old new calls) ⊎ (new.faults.stands ≡ true)

-- no more `cut` lines than cuts: of the array itself, and by the fault text within the programs that were reached, by its `cut` lines and its letters of power
abbrev pub AreCutsExplained : (faults : Faults) (old new : ArrayState) → HasCalls faults old new → List Item → Type 0
AreCutsExplained faults old new calls lines =
    (old.cuts.value + count_by is_cut_line lines ≤ new.cuts.value + (program_cuts faults old new calls + (length faults.cuts + count_by is_power faults.turns))) ⊎ (new.cuts.stands ≡ true)

-- no call failed and no power was lost: the array counted none, and the fault text asks for none
pub record IsUndisturbed (faults : Faults) (old new : ArrayState) : Type 0 where
  pub fails : IsStill old.faults new.faults
  pub loses : IsStill old.cuts new.cuts
  pub calls : faults.array ≡ []
  pub cuts : faults.cuts ≡ []
  pub letters : count_by is_power faults.turns ≡ 0

-- each request has one answer: its own, `refused range` where it ends past the last sector, or `fault bus` where four bus faults named it
abbrev pub HasAnswers : List Block → Plan → List Item → Type 0
HasAnswers base plan lines =
    (id : ℕ) → 1 ≤ id → id ≤ length plan.jobs → answers_to id lines ≡ answer_of id (job_of plan.jobs id) (length base) (bus_faults_of id lines) ∷ []

module _ {K : Type 0} (took : K → List ℕ → K → Type 0) (faults_of : K → Count) where
  -- A run of the plan and the faults that the texts mean, over an image. Its lines were written whole, and where the sink failed the last of them in part. The
  -- status says how it ended, and with status 0 alone the run is handed back, with all of it settled. The pages are an image at each end. Where nothing disturbs it only the sink ends it early, and else each request has its answer.
  pub record IsServed (requests fault_text : Option (List ℕ)) (old new : ArrayState) (out : K) (status : ℕ) (world : Option WorldState) (out' : K) : Type 0 where
    pub plan : Plan
    pub faults : Faults
    pub requests_mean : IsPlanOf requests plan
    pub faults_mean : AreFaultsOf fault_text faults
    pub image : ShowsImage old
    pub result : Result (Unit {0}) Halt
    pub is : status ≡ run_status result
    pub lines : List Item
    pub wrote : Wrote took out lines result out'
    pub ended : (base : List Block) → shown_by old ≡ Some base → EndedSo base plan faults lines result world new
    pub settled : OnOk result (new.settled ≡ true)
    pub kept : ShowsImage new
    pub handed : is_some world ≡ is_ok result
    pub begun : HasBegun faults old new
    pub calls : HasCalls faults old new
    pub flash : AreFaultsExplained faults old new calls lines result
    pub cuts : AreCutsExplained faults old new calls lines
    pub completes : IsUndisturbed faults old new → (result ≡ Ok tt) ⊎ (result ≡ Err SinkFailed)
    pub answered : IsUndisturbed faults old new → result ≡ Ok tt → (base : List Block) → shown_by old ≡ Some base → HasAnswers base plan lines
    pub sink : Later (faults_of out) (faults_of out')
    pub sink_failed : result ≡ Err SinkFailed → Rose (faults_of out) (faults_of out')

-- What the texts of a command say, and why one is refused. A text is all that its source has left, where it tells that.
use Rattle.std.specs.Prelude.{◌≡◌, ◌≤◌, ℕ, All, List, length, take, Option, IfSome}
use Rattle.storage_model.specs.Count.{Count, Rose}
use Rattle.storage_model.specs.Plan.{IsValidPlan}
use Rattle.storage_model.specs.declared.faults.Faults.{Faults}
use Rattle.storage_model.specs.Faults.{AreValid}
use Rattle.storage_model.specs.declared.plan.Plan.{Plan}
use Rattle.fault_text.specs.Faults.{Means as FaultsMean}
use Rattle.raw_text.specs.Meaning.{Means as ScriptMeans, IsBadAt as ScriptBadAt}
use Rattle.raw_text.specs.Raw.{IsOp}
use Rattle.raw_text.specs.declared.op.RawOp.{RawOp}
use Rattle.request_text.specs.Meaning.{Means as RequestsMean}
use Rattle.text_words.specs.Texts.{IsBadAt}
use Rattle.cqmmc_top.specs.declared.refusal.Refusal.{Refusal}
use Rattle.cqmmc_top.specs.declared.refusal.Refusal.TheVariants.{BadRequests, BadFaults, BadScript, ReadFault, NoMemory}

-- the plan that a request text means
pub record IsPlanOf (text : Option (List ℕ)) (plan : Plan) : Type 0 where
  pub means : IfSome text (λ bytes. RequestsMean bytes plan)
  pub valid : IsValidPlan plan

-- the faults that a fault text means
pub record AreFaultsOf (text : Option (List ℕ)) (faults : Faults) : Type 0 where
  pub means : IfSome text (λ bytes. FaultsMean bytes faults)
  pub valid : AreValid faults
  pub few : length faults.array ≤ 4096

-- the bytes were read, up to one past the limit
abbrev pub WasRead : Option (List ℕ) → List ℕ → Type 0
WasRead text bytes = IfSome text (λ left. bytes ≡ take 16777217 left)

abbrev pub IsTakenRefused : Count → Count → Refusal → Type 0
IsTakenRefused old new ReadFault = Rose old new
IsTakenRefused old new NoMemory = Unit {0}
IsTakenRefused old new _ = ⊥

-- the first bad line, a rise of the source's count, or no memory
abbrev pub RequestsRefused : Option (List ℕ) → Count → Count → Refusal → Type 0
RequestsRefused text old new (BadRequests line) = IfSome text (λ bytes. IsBadAt RequestsMean bytes line)
RequestsRefused text old new ReadFault = Rose old new
RequestsRefused text old new NoMemory = Unit {0}
RequestsRefused text old new _ = ⊥

abbrev pub FaultsRefused : Option (List ℕ) → Count → Count → Refusal → Type 0
FaultsRefused text old new (BadFaults line) = IfSome text (λ bytes. IsBadAt FaultsMean bytes line)
FaultsRefused text old new ReadFault = Rose old new
FaultsRefused text old new NoMemory = Unit {0}
FaultsRefused text old new _ = ⊥

-- the operations that a raw script means
pub record IsScriptOf (text : Option (List ℕ)) (ops : List RawOp) : Type 0 where
  pub means : IfSome text (λ bytes. ScriptMeans bytes ops)
  pub each : All IsOp ops

abbrev pub ScriptRefused : Option (List ℕ) → Count → Count → Refusal → Type 0
ScriptRefused text old new (BadScript line) = IfSome text (λ bytes. ScriptBadAt bytes line)
ScriptRefused text old new ReadFault = Rose old new
ScriptRefused text old new NoMemory = Unit {0}
ScriptRefused text old new _ = ⊥

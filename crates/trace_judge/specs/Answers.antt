-- The line and the status of each answer, and when each comes.
use Rattle.std.specs.Prelude.{ℕ, List, ◌++◌, codes, decimal}
use Rattle.storage_model.specs.declared.block.Block.{Block}
use Rattle.storage_model.specs.declared.faults.Faults.{Faults}
use Rattle.storage_model.specs.declared.plan.Plan.{Plan}
use Rattle.storage_model.specs.declared.trace.Item.{Item}
use Rattle.storage_model.specs.declared.ends.TextEnd.TheVariants.{Bad}
use Rattle.request_text.specs.Meaning.{Means as RequestsMean, IsRefused as RequestsRefused}
use Rattle.fault_text.specs.Faults.{Means as FaultsMean, IsRefused as FaultsRefused}
use Rattle.trace_text.specs.Trace.{Means as TraceMeans, IsRefused as TraceRefused}
use Rattle.trace_judge.specs.declared.answer.Answer.{Answer}
use Rattle.trace_judge.specs.declared.answer.Answer.TheVariants.{Judged, Usage, BadRequests, BadFaults, BadTrace, BadImage, ReadFault, NoMemory}
use Rattle.trace_judge.specs.declared.judge.Verdict.{Verdict}
use Rattle.trace_judge.specs.declared.judge.Verdict.TheVariants.{Accepted, Front, Rejected}
use Rattle.trace_judge.specs.Verdicts.{IsVerdict}

abbrev pub status_of : Answer → ℕ
status_of (Judged (Rejected line rule)) = 1
status_of (Judged verdict) = 0
status_of _ = 2

abbrev pub answer_text : Answer → List ℕ
answer_text (Judged Accepted) = codes "accepted\n"
answer_text (Judged Front) = codes "accepted so far\n"
answer_text (Judged (Rejected line rule)) = codes "rejected " ++ decimal line ++ codes " " ++ decimal rule ++ codes "\n"
answer_text Usage = codes "usage\n"
answer_text (BadRequests line) = codes "bad requests " ++ decimal line ++ codes "\n"
answer_text (BadFaults line) = codes "bad faults " ++ decimal line ++ codes "\n"
answer_text (BadTrace line) = codes "bad trace " ++ decimal line ++ codes "\n"
answer_text BadImage = codes "bad image\n"
answer_text ReadFault = codes "read fault\n"
answer_text NoMemory = codes "no memory\n"

-- the texts mean a plan, faults and lines, of which the verdict is true
pub record IsJudged (base : List Block) (requests faults trace : List ℕ) (verdict : Verdict) : Type 0 where
  pub plan : Plan
  pub hits : Faults
  pub items : List Item
  pub planned : RequestsMean requests plan
  pub faulted : FaultsMean faults hits
  pub traced : TraceMeans trace items
  pub judged : IsVerdict base plan hits items verdict

-- what an answer says of the texts of a run
abbrev pub IsAnswer : List Block → List ℕ → List ℕ → List ℕ → Answer → Type 0
IsAnswer base requests faults trace (Judged verdict) = IsJudged base requests faults trace verdict
IsAnswer base requests faults trace (BadRequests line) = RequestsRefused requests (Bad line)
IsAnswer base requests faults trace (BadFaults line) = FaultsRefused faults (Bad line)
IsAnswer base requests faults trace (BadTrace line) = TraceRefused trace (Bad line)
IsAnswer base requests faults trace _ = Unit {0}

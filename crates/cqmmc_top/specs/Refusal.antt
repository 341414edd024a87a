-- The status and the line of each refusal.
use Rattle.std.specs.Prelude.{◌≡◌, ◌⊎◌, ℕ, List, ◌++◌, codes, decimal}
use Rattle.io_edge.specs.Sink.{TookPart}
use Rattle.storage_model.specs.Count.{Count, Later, Rose}
use Rattle.cqmmc_top.specs.declared.refusal.Refusal.{Refusal}
use Rattle.cqmmc_top.specs.declared.refusal.Refusal.TheVariants.{Usage, BadRequests, BadFaults, BadScript, ReadFault, BadImage, ArrayFault, NoPower, NoMemory}

abbrev pub status_of : Refusal → ℕ
status_of Usage = 2
status_of (BadRequests line) = 3
status_of (BadFaults line) = 3
status_of (BadScript line) = 3
status_of ReadFault = 4
status_of BadImage = 6
status_of ArrayFault = 7
status_of NoPower = 8
status_of NoMemory = 9

abbrev pub refusal_text : Refusal → List ℕ
refusal_text Usage = codes "usage\n"
refusal_text (BadRequests line) = codes "bad requests " ++ decimal line ++ codes "\n"
refusal_text (BadFaults line) = codes "bad faults " ++ decimal line ++ codes "\n"
refusal_text (BadScript line) = codes "bad script " ++ decimal line ++ codes "\n"
refusal_text ReadFault = codes "read fault\n"
refusal_text BadImage = codes "bad image\n"
refusal_text ArrayFault = codes "array fault\n"
refusal_text NoPower = codes "no power\n"
refusal_text NoMemory = codes "no memory\n"

-- the line of a refusal was written and its status answered, or the sink failed within the line
pub record Says {K : Type 0} (took : K → List ℕ → K → Type 0) (faults_of : K → Count) (refusal : Refusal) (out : K) (status : ℕ) (out' : K) : Type 0 where
  pub later : Later (faults_of out) (faults_of out')
  pub said : ((status ≡ status_of refusal) × took out (refusal_text refusal) out') ⊎ ((status ≡ 5) × TookPart took out (refusal_text refusal) out' × Rose (faults_of out) (faults_of out'))

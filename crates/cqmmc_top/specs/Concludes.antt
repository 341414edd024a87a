-- What a run answers, by how it ended.
use Rattle.std.specs.Prelude.{◌≡◌, ℕ, List, Result, Ok, Err}
use Rattle.storage_model.specs.Count.{Count}
use Rattle.storage_model.specs.declared.ends.Halt.TheVariants.{OpenFault, PowerGone, BadImage as BadPages}
use Rattle.array_edge.specs.Array.{ArrayState}
use Rattle.whole_run.specs.Course.{Ends}
use Rattle.whole_run.specs.Whole.{halt_in}
use Rattle.whole_run.specs.declared.run.Stop.{Stop}
use Rattle.whole_run.specs.declared.run.Stop.TheVariants.{Before, Behind}
use Rattle.world_steps.specs.World.{WorldState}
use Rattle.cqmmc_top.specs.Print.{run_status}
use Rattle.cqmmc_top.specs.Refusal.{Says}
use Rattle.cqmmc_top.specs.declared.refusal.Refusal.TheVariants.{BadImage, ArrayFault, NoPower}

-- one whose image wasn't opened is refused
abbrev pub Concludes : {K : Type 0} → (K → List ℕ → K → Type 0) → (K → Count) → Result (Unit {0}) Stop → K → ℕ → K → Type 0
Concludes took faults_of (Err (Before BadPages)) out status out' = Says took faults_of BadImage out status out'
Concludes took faults_of (Err (Before OpenFault)) out status out' = Says took faults_of ArrayFault out status out'
Concludes took faults_of (Err (Before PowerGone)) out status out' = Says took faults_of NoPower out status out'
Concludes took faults_of ended out status out' = (status ≡ run_status (halt_in ended)) × (out' ≡ out)

-- the end of a run behind its first line
abbrev pub GoesOn : {K : Type 0} → (K → List ℕ → K → Type 0) → WorldState → ArrayState → K → Result (Unit {0}) Stop → WorldState → ArrayState → K → Type 0
GoesOn took w a old (Ok done) w' a' new = Ends took w a old (Ok tt) w' a' new
GoesOn took w a old (Err (Before halt)) w' a' new = ⊥
GoesOn took w a old (Err (Behind halt)) w' a' new = Ends took w a old (Err halt) w' a' new

-- Why a run is refused, and what it begins with.
use Rattle.std.specs.Prelude.{◌≡◌, ◌⊎◌, ◌<◌, ◌≤◌, ℕ, ◌+◌, Bool, List, Option, Result, Ok, Err, true, false}
use Rattle.storage_model.specs.Count.{Count, Rose, count_of}
use Rattle.storage_model.specs.declared.faults.Faults.{Faults}
use Rattle.storage_model.specs.declared.plan.Plan.{Plan}
use Rattle.array_edge.specs.Array.{ArrayState}
use Rattle.array_edge.specs.Hits.{reached_cuts, reached_fails}
use Rattle.array_edge.specs.Script.{HasRun, with_more}
use Rattle.end_laws.specs.Ends.{IsFresh}
use Rattle.intent_store.specs.Calls.{IsStartAgain}
use Rattle.intent_store.specs.Intent.{IsNoImage}
use Rattle.intent_store.specs.declared.ends.StartEnd.{StartEnd}
use Rattle.intent_store.specs.declared.ends.StartEnd.TheVariants.{Flash, PowerLost, BadImage as NoImage}
use Rattle.rest_array.specs.Rest.{CountsOn}
use Rattle.cqmmc_top.specs.declared.prepare.Ready.{Ready}
use Rattle.cqmmc_top.specs.declared.refusal.Refusal.{Refusal}
use Rattle.cqmmc_top.specs.declared.refusal.Refusal.TheVariants.{BadImage, ArrayFault, NoPower, NoMemory}
use Rattle.cqmmc_top.specs.Texts.{AreFaultsOf, IsPlanOf, RequestsRefused, FaultsRefused}

-- why a run isn't begun, in the order in which it is found out: by the request text, by the fault text, or by want of memory
pub data IsUnready (requests : Option (List ℕ)) (first first' : Count) (fault_text : Option (List ℕ)) (second second' : Count) : Refusal → Type 0 where
  by_requests : {refusal : Refusal} → RequestsRefused requests first first' refusal → IsUnready requests first first' fault_text second second' refusal
  by_faults : {refusal : Refusal} {plan : Plan} → IsPlanOf requests plan → FaultsRefused fault_text second second' refusal → IsUnready requests first first' fault_text second second' refusal
  by_memory : {plan : Plan} {faults : Faults} → IsPlanOf requests plan → AreFaultsOf fault_text faults → IsUnready requests first first' fault_text second second' NoMemory

-- The calls of the array that a run made, by how far its counts rose, and which lines of the fault text number one of them: those at which the call
-- fails, and those within which the power is cut.
pub record HasCalls (faults : Faults) (old new : ArrayState) : Type 0 where
  pub programs : ℕ
  pub fetches : ℕ
  pub made : HasRun old new faults.array programs fetches

abbrev pub fail_lines : (faults : Faults) (old new : ArrayState) → HasCalls faults old new → ℕ
fail_lines faults old new calls = reached_fails calls.programs calls.fetches faults.array

abbrev pub program_cuts : (faults : Faults) (old new : ArrayState) → HasCalls faults old new → ℕ
program_cuts faults old new calls = reached_cuts calls.programs calls.fetches faults.array

-- it didn't rise, and isn't at its end
abbrev pub IsStill : Count → Count → Type 0
IsStill old new = (new.value ≤ old.value) × (new.stands ≡ false)

-- An array as its run sees it: the power is the run's own, the calls are numbered from 1, and the failures and cuts that the fault text
-- made are counted with those of the array itself.
abbrev pub seen_in : ArrayState → (powered : Bool) → (failed cut programs fetches : ℕ) → ArrayState
seen_in array powered failed cut programs fetches = record {
  told = array.told;
  count = array.count;
  powered = powered;
  faults = with_more array.faults failed;
  cuts = with_more array.cuts cut;
  programs = count_of programs;
  fetches = count_of fetches;
  settled = array.settled;
}

-- How many lines of the fault text number a call of the openings, by how these ended. One is a line of a failing call where the array failed, and none is
-- else. A run ends for want of power exactly where eight lines of a cut number calls of its openings.
abbrev pub AreNumbered : Result (Unit {0}) StartEnd → (fails cuts : ℕ) → Type 0
AreNumbered (Ok done) fails cuts = (fails ≡ 0) × (cuts < 8)
AreNumbered (Err Flash) fails cuts = (fails ≡ 1) × (cuts < 8)
AreNumbered (Err PowerLost) fails cuts = (fails ≡ 0) × (cuts ≡ 8)
AreNumbered (Err NoImage) fails cuts = (fails ≡ 0) × (cuts < 8)

-- The openings of a run's image, at most eight in a row, each but the last of which was cut. Each makes the calls of an opening of the pages that it
-- finds, up to the first that fails or is cut. Where the array itself neither fails nor is cut meanwhile, each failure and each cut has a line of the
-- fault text that numbers its call, and each line that numbers a call makes it fail or cuts it.
pub record AreOpenings (faults : Faults) (old new : ArrayState) (calls : HasCalls faults old new) (end : Result (Unit {0}) StartEnd) : Type 0 where
  pub powered : Bool
  pub failed : ℕ
  pub cut : ℕ
  pub made : IsStartAgain 8 (seen_in old false 0 0 0 0) (seen_in new powered failed cut calls.programs calls.fetches) end
  pub exact : IsStill old.faults new.faults → IsStill old.cuts new.cuts → (failed ≡ fail_lines faults old new calls) × (cut ≡ program_cuts faults old new calls)
  pub lines : IsStill old.faults new.faults → IsStill old.cuts new.cuts → AreNumbered end (fail_lines faults old new calls) (program_cuts faults old new calls)

-- A run whose image was opened, the array as it was behind the openings. Its counts didn't fall since then: where they are still at the end of the run,
-- they were behind the openings.
pub record HasBegun (faults : Faults) (old new : ArrayState) : Type 0 where
  pub opened : ArrayState
  pub calls : HasCalls faults old opened
  pub openings : AreOpenings faults old opened calls (Ok tt)
  pub on : CountsOn opened new

-- how the openings ended of a run that was refused by them
abbrev pub refused_end : Refusal → Result (Unit {0}) StartEnd
refused_end BadImage = Err NoImage
refused_end ArrayFault = Err Flash
refused_end NoPower = Err PowerLost
refused_end _ = Ok tt

-- why the image isn't opened: its pages are none, the array or a line of the fault text made a call fail, or both cut eight openings in a row
abbrev pub OpeningFailed : (faults : Faults) (old new : ArrayState) → HasCalls faults old new → Refusal → Type 0
OpeningFailed faults old new calls BadImage = IsNoImage old
OpeningFailed faults old new calls ArrayFault = Rose old.faults new.faults ⊎ (1 ≤ fail_lines faults old new calls)
OpeningFailed faults old new calls NoPower = (old.cuts.value + 8 ≤ new.cuts.value + program_cuts faults old new calls) ⊎ (new.cuts.stands ≡ true)
OpeningFailed faults old new calls _ = ⊥

-- A refused text touches no page. Behind the texts only the opening refuses a run.
pub data IsRunRefused (requests : Option (List ℕ)) (first first' : Count) (fault_text : Option (List ℕ)) (second second' : Count) (old new : ArrayState) : Refusal → Type 0 where
  unready : {refusal : Refusal} → IsUnready requests first first' fault_text second second' refusal → new ≡ old → IsRunRefused requests first first' fault_text second second' old new refusal
  by_opening : {refusal : Refusal} {plan : Plan} {faults : Faults} → IsPlanOf requests plan → AreFaultsOf fault_text faults → (calls : HasCalls faults old new) → OpeningFailed faults old new calls refusal
      → AreOpenings faults old new calls (refused_end refusal) → IsRunRefused requests first first' fault_text second second' old new refusal

-- a run of what the texts mean, before its first line
pub record IsReady (requests fault_text : Option (List ℕ)) (ready : Ready) : Type 0 where
  pub plan : Plan
  pub faults : Faults
  pub requests_mean : IsPlanOf requests plan
  pub faults_mean : AreFaultsOf fault_text faults
  pub fresh : IsFresh plan faults ready.world
  pub hits : ready.hits ≡ faults.array

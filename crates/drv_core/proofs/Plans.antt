-- A stop changes no plan.
use Rattle.std.proofs.Common.{◌≡◌, ℕ, Bool, true, false, refl}
use Rattle.std.specs.Prelude.{◌==◌, if◌then◌else◌, Option, None, Some}
use Rattle.storage_model.specs.declared.plan.Plan.{Plan}
use Rattle.bus_link.specs.declared.link.Cause.{Cause}
use Rattle.bus_link.specs.declared.link.Cause.TheVariants.{Bus as BusFault, Response, Dark}
use Rattle.drv_jobs.specs.declared.requests.TheConstants.{MOST_FAULTS}
use Rattle.drv_jobs.specs.Changes.{faulted, faults_of}
use Rattle.drv_jobs.specs.Standings.{Standings, holder_of}
use Rattle.drv_core.specs.declared.act.Stop.{Stop}
use Rattle.drv_core.specs.declared.act.Stop.TheVariants.{Bus}
use Rattle.drv_core.specs.Judge.{Judged, after_error, after_fault, after_word, ended, error_of, judged, retried}

either_plan : (b : Bool) (one other : Judged) (plan : Plan) → one.requests.plan ≡ plan → other.requests.plan ≡ plan
    → (if b then one else other).requests.plan ≡ plan
either_plan true one other plan same last = same
either_plan false one other plan same last = last

fault_plan : (s : Standings) (tag : ℕ) (holder : Option ℕ) → (after_fault s tag holder).requests.plan ≡ s.plan
fault_plan s tag None = refl
fault_plan s tag (Some id) =
    either_plan (faults_of (faulted s id) id == MOST_FAULTS) (ended (faulted s id) tag id Bus) (retried (faulted s id)) s.plan refl refl

error_plan : (s : Standings) (tag : ℕ) (why : Stop) (holder : Option ℕ) → (after_error s tag why holder).requests.plan ≡ s.plan
error_plan s tag why None = refl
error_plan s tag why (Some id) = refl

word_plan : (s : Standings) (tag : ℕ) (error : Option Stop) → (after_word s tag error).requests.plan ≡ s.plan
word_plan s tag None = refl
word_plan s tag (Some why) = error_plan s tag why (holder_of s.holders tag)

pub judged-plan : (s : Standings) (cause : Option Cause) → (judged s cause).requests.plan ≡ s.plan
judged-plan s (Some (BusFault kind (Some tag))) = fault_plan s tag (holder_of s.holders tag)
judged-plan s (Some (BusFault kind None)) = refl
judged-plan s (Some (Response word tag)) = word_plan s tag (error_of word)
judged-plan s (Some Dark) = refl
judged-plan s None = refl

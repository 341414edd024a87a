-- What a stop of the engine does to the request that it names, by cases, with what it is to the machine.
use Rattle.std.proofs.Common.{◌≡◌, ◌∙◌, ◌==◌, ℕ, Bool, true, false, cond, Option, None, Some, refl, ap}
use Rattle.std.specs.Int.{bit_at}
use Rattle.bus_link.specs.Link.{tells_flash}
use Rattle.bus_link.specs.declared.link.Cause.{Cause}
use Rattle.bus_link.specs.declared.link.Cause.TheVariants.{Bus as BusFault, Response, Dark}
use Rattle.drv_core.specs.Judge.{Judged, after_error, after_fault, after_word, counted, ended, error_of, judged, retried}
use Rattle.drv_core.specs.declared.act.Stop.{Stop}
use Rattle.drv_core.specs.declared.act.Stop.TheVariants.{Bus, Flash, Range}
use Rattle.drv_jobs.specs.Changes.{faulted, faults_of}
use Rattle.drv_jobs.specs.Standings.{Standings}
use Rattle.drv_jobs.specs.declared.requests.TheConstants.{MOST_FAULTS}
use Rattle.storage_machine.specs.declared.state.Stop.TheVariants as stop
use Rattle.world_state.specs.Path.{PathState, holder}
use Rattle.world_state.specs.Reading.{stop_by, stop_by_word}

-- no request is named; one is, by a fault that it bears; by the last that it bears; by the card, for a fault of the flash; or for its range
pub data Judgement (p : PathState) (cause : Option Cause) : Type 0 where
  leaves : stop_by p cause ≡ stop.Bus None → judged p.driver.requests cause ≡ retried p.driver.requests → Judgement p cause
  counts : (tag id : ℕ) → holder p tag ≡ Some id → stop_by p cause ≡ stop.Bus (Some id)
      → (faults_of (faulted p.driver.requests id) id == MOST_FAULTS) ≡ false → judged p.driver.requests cause ≡ retried (faulted p.driver.requests id) → Judgement p cause
  exceeds : (tag id : ℕ) → holder p tag ≡ Some id → stop_by p cause ≡ stop.Bus (Some id)
      → (faults_of (faulted p.driver.requests id) id == MOST_FAULTS) ≡ true → judged p.driver.requests cause ≡ ended (faulted p.driver.requests id) tag id Bus → Judgement p cause
  flash : (tag id : ℕ) → holder p tag ≡ Some id → stop_by p cause ≡ stop.Flash id → judged p.driver.requests cause ≡ ended p.driver.requests tag id Flash → Judgement p cause
  range : (tag id : ℕ) → holder p tag ≡ Some id → stop_by p cause ≡ stop.Range id → judged p.driver.requests cause ≡ ended p.driver.requests tag id Range → Judgement p cause

counted_is : (p : PathState) (cause : Option Cause) (tag id : ℕ) (last : Bool) → (faults_of (faulted p.driver.requests id) id == MOST_FAULTS) ≡ last
    → holder p tag ≡ Some id → stop_by p cause ≡ stop.Bus (Some id) → judged p.driver.requests cause ≡ counted (faulted p.driver.requests id) tag id → Judgement p cause
counted_is p cause tag id true l h s j =
    exceeds tag id h s l (j ∙ ap (λ b. cond b (ended (faulted p.driver.requests id) tag id Bus) (retried (faulted p.driver.requests id))) l)
counted_is p cause tag id false l h s j =
    counts tag id h s l (j ∙ ap (λ b. cond b (ended (faulted p.driver.requests id) tag id Bus) (retried (faulted p.driver.requests id))) l)

fault_is : (p : PathState) (cause : Option Cause) (tag : ℕ) (found : Option ℕ) → holder p tag ≡ found
    → stop_by p cause ≡ stop.Bus found → judged p.driver.requests cause ≡ after_fault p.driver.requests tag found → Judgement p cause
fault_is p cause tag None h s j = leaves s j
fault_is p cause tag (Some id) h s j = counted_is p cause tag id (faults_of (faulted p.driver.requests id) id == MOST_FAULTS) refl h s j

-- what an error of the card does, by the request of the tag
abbrev after_word_of : Standings → (tag : ℕ) → Option Stop → Option ℕ → Judged
after_word_of s tag None found = retried s
after_word_of s tag (Some why) found = after_error s tag why found

error_is : (p : PathState) (cause : Option Cause) (tag : ℕ) (flash_told : Bool) (range_told : Bool) (found : Option ℕ) → holder p tag ≡ found
    → stop_by p cause ≡ stop_by_word (cond flash_told (Some Flash) (cond range_told (Some Range) None)) found
    → judged p.driver.requests cause ≡ after_word_of p.driver.requests tag (cond flash_told (Some Flash) (cond range_told (Some Range) None)) found → Judgement p cause
error_is p cause tag true range_told None h s j = leaves s j
error_is p cause tag true range_told (Some id) h s j = flash tag id h s j
error_is p cause tag false true None h s j = leaves s j
error_is p cause tag false true (Some id) h s j = range tag id h s j
error_is p cause tag false false None h s j = leaves s j
error_is p cause tag false false (Some id) h s j = leaves s j

pub judgement : (p : PathState) (cause : Option Cause) → Judgement p cause
judgement p (Some (BusFault kind (Some tag))) = fault_is p (Some (BusFault kind (Some tag))) tag (holder p tag) refl refl refl
judgement p (Some (BusFault kind None)) = leaves refl refl
judgement p (Some (Response word tag)) =
    error_is p (Some (Response word tag)) tag (tells_flash word) (bit_at word 31 == 1) (holder p tag) refl refl (word_is (error_of word))
  where
    word_is : (why : Option Stop) → after_word p.driver.requests tag why ≡ after_word_of p.driver.requests tag why (holder p tag)
    word_is None = refl
    word_is (Some why) = refl
judgement p (Some Dark) = leaves refl refl
judgement p None = leaves refl refl

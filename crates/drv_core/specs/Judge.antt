-- What a stop of the engine does to the request that it names (cqhci_error_irq and cqhci_finish_mrq of
-- drivers/mmc/host/cqhci-core.c; the bits of the status word in JESD84-B51, section 6.13).
use Rattle.std.specs.Prelude.{ℕ, ◌==◌, Option, None, Some, if◌then◌else◌}
use Rattle.std.specs.Int.{bit_at}
use Rattle.bus_link.specs.Link.{tells_flash}
use Rattle.bus_link.specs.declared.link.Cause.{Cause}
use Rattle.bus_link.specs.declared.link.Cause.TheVariants.{Bus as BusFault, Response, Dark}
use Rattle.drv_jobs.specs.declared.requests.TheConstants.{MOST_FAULTS}
use Rattle.drv_jobs.specs.Changes.{answered, faulted, faults_of}
use Rattle.drv_jobs.specs.Standings.{Standings, holder_of}
use Rattle.drv_core.specs.declared.act.Act.{Act}
use Rattle.drv_core.specs.declared.act.Act.TheVariants.{Failed}
use Rattle.drv_core.specs.declared.act.Stop.{Stop}
use Rattle.drv_core.specs.declared.act.Stop.TheVariants.{Retry, Bus, Flash, Range}

-- what a stop tells, and how the requests stand after it
pub record Judged : Type 0 where
  pub act : Act
  pub requests : Standings

-- no request is answered
abbrev pub retried : Standings → Judged
retried s = record { act = Failed None Retry; requests = s }

-- the request of a tag is answered
abbrev pub ended : Standings → (tag id : ℕ) → Stop → Judged
ended s tag id why = record { act = Failed (Some id) why; requests = answered s tag }

-- a fault of the bus ends the request that it names when it is the last that is borne
abbrev pub counted : (noted : Standings) → (tag id : ℕ) → Judged
counted noted tag id = if faults_of noted id == MOST_FAULTS then ended noted tag id Bus else retried noted

abbrev pub after_fault : Standings → (tag : ℕ) → Option ℕ → Judged
after_fault s tag None = retried s
after_fault s tag (Some id) = counted (faulted s id) tag id

-- an error of the card ends the request that it names
abbrev pub after_error : Standings → (tag : ℕ) → Stop → Option ℕ → Judged
after_error s tag why None = retried s
after_error s tag why (Some id) = ended s tag id why

-- the error of a status word that ends a request: a fault of the flash (ERROR, DEVICE_ECC_FAILED), or a task that ends past the
-- last sector (ADDRESS_OUT_OF_RANGE)
abbrev pub error_of : (word : ℕ) → Option Stop
error_of word = if tells_flash word then Some Flash else if bit_at word 31 == 1 then Some Range else None

abbrev pub after_word : Standings → (tag : ℕ) → Option Stop → Judged
after_word s tag None = retried s
after_word s tag (Some why) = after_error s tag why (holder_of s.holders tag)

-- a stop, by its cause
abbrev pub judged : Standings → Option Cause → Judged
judged s (Some (BusFault kind (Some tag))) = after_fault s tag (holder_of s.holders tag)
judged s (Some (BusFault kind None)) = retried s
judged s (Some (Response word tag)) = after_word s tag (error_of word)
judged s (Some Dark) = retried s
judged s None = retried s

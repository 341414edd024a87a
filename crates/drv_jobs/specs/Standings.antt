-- How each request of a run stands with the driver: it waits, a tag is issued for it, or it is answered (struct mmc_request and
-- struct cqhci_slot of drivers/mmc/host/cqhci-core.c).
use Rattle.std.specs.Prelude.{ℕ, ◌-◌, Bool, true, false, Option, None, List, length, replicate, is_some, slice_index_or}
use Rattle.std.specs.List.{list_any}
use Rattle.storage_model.specs.declared.plan.Job.{Job}
use Rattle.storage_model.specs.declared.plan.Plan.{Plan}
use Rattle.storage_model.specs.Plan.{job_of as listed_job}

-- the requests of a plan, numbered from 1: whether each waits, the one that each of the 32 tags is issued for, and how often a
-- fault of the bus named each. One that neither waits nor has a tag is answered.
pub record Standings : Type 0 where
  pub plan : Plan
  pub waiting : List Bool
  pub holders : List (Option ℕ)
  pub faults : List ℕ

-- no tag is issued
unfoldable pub no_holders : List (Option ℕ)
no_holders = replicate 32 None

-- all requests of a plan wait
abbrev pub all_waiting : Plan → Standings
all_waiting plan = record {
  plan = plan;
  waiting = replicate (length plan.jobs) true;
  holders = no_holders;
  faults = replicate (length plan.jobs) 0;
}

-- the request that a tag is issued for
abbrev pub holder_of : List (Option ℕ) → ℕ → Option ℕ
holder_of holders tag = slice_index_or holders tag None

-- whether a tag is issued
abbrev pub is_used : List (Option ℕ) → ℕ → Bool
is_used holders tag = is_some (holder_of holders tag)

-- whether any tag is issued
abbrev pub is_any_issued : List (Option ℕ) → Bool
is_any_issued holders = list_any is_some holders

-- whether a request waits
abbrev pub is_waiting : List Bool → ℕ → Bool
is_waiting waiting id = slice_index_or waiting (id - 1) false

-- a request's job
abbrev pub job_of : Plan → ℕ → Job
job_of plan id = listed_job plan.jobs id

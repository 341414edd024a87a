-- Which request may be issued next, and with which tag (cqhci_request of drivers/mmc/host/cqhci-core.c; the block layer hands
-- requests over in order, and takes their tags).
use Rattle.std.specs.Prelude.{◌≡◌, ◌<◌, ◌≤◌, ℕ, ◌+◌, length, Option, None, Some, Result, Ok, Err, if◌then◌else◌, is_none, position}
use Rattle.std.specs.List.{find, range_with_len}
use Rattle.std.specs.Option.{ok_or}
use Rattle.storage_model.specs.declared.plan.Job.{Job}
use Rattle.storage_model.specs.declared.plan.Job.TheVariants.{Read, Write, Flush, Barrier, Status}
use Rattle.storage_model.specs.declared.plan.Plan.{Plan}
use Rattle.drv_jobs.specs.declared.next.Due.{Due}
use Rattle.drv_jobs.specs.declared.next.Hold.{Hold}
use Rattle.drv_jobs.specs.declared.next.Hold.TheVariants.{Done, Behind, Full}
use Rattle.drv_jobs.specs.declared.next.TheConstants.{DIRECT_TAG}
use Rattle.storage_model.specs.Plan.{is_direct}
use Rattle.drv_jobs.specs.Standings.{Standings, holder_of, is_any_issued, is_used, job_of}

-- the lowest tag below the depth that is not issued
abbrev pub free_tag : Standings → Option ℕ
free_tag s = find (λ tag. is_none (holder_of s.holders tag)) (range_with_len 0 s.plan.depth)

-- a direct request goes alone, on the last slot; a read or write takes the lowest free tag, behind no direct one
abbrev pub tag_for : Standings → Job → Result ℕ Hold
tag_for s job =
    if is_direct job then (if is_any_issued s.holders then Err Behind else Ok DIRECT_TAG)
    else if is_used s.holders DIRECT_TAG then Err Behind
    else ok_or (free_tag s) Full

-- a request with its tag
abbrev pub with_tag : ℕ → Result ℕ Hold → Result Due Hold
with_tag id (Ok tag) = Ok (record { id = id; tag = tag })
with_tag id (Err hold) = Err hold

-- the waiting request with the lowest number, from 0
abbrev pub next_place : Standings → Option ℕ
next_place s = position (λ waits. waits) s.waiting

abbrev pub due_at : Standings → Option ℕ → Result Due Hold
due_at s None = Err Done
due_at s (Some place) = with_tag (place + 1) (tag_for s (job_of s.plan (place + 1)))

-- the request that may be issued now, with its tag, or why there is none
unfoldable pub due_of : Standings → Result Due Hold
due_of s = due_at s (next_place s)

-- a direct request has the last tag, and any other one below the depth
abbrev pub IsTagFor : (depth tag : ℕ) → Job → Type 0
IsTagFor depth tag (Read sector blocks high) = tag < depth
IsTagFor depth tag (Write sector blocks fill forced reliable high) = tag < depth
IsTagFor depth tag Flush = tag ≡ DIRECT_TAG
IsTagFor depth tag Barrier = tag ≡ DIRECT_TAG
IsTagFor depth tag Status = tag ≡ DIRECT_TAG

-- a request of the plan, with a tag for its job
pub record IsFitting (plan : Plan) (due : Due) : Type 0 where
  pub above : 1 ≤ due.id
  pub below : due.id ≤ length plan.jobs
  pub tag : IsTagFor plan.depth due.tag (job_of plan due.id)

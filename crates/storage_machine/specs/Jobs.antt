-- What a request asks for.
use Rattle.std.specs.Prelude.{ℕ, ◌+◌, ◌-◌, ◌==◌, ◌&&◌, ◌||◌, nat_le, Bool, true, false, not, if◌then◌else◌, List, slice_index_or}
use Rattle.storage_model.specs.Plan.{blocks_of}
use Rattle.storage_model.specs.declared.plan.Job.{Job}
use Rattle.storage_model.specs.declared.plan.Job.TheVariants.{Read, Write, Flush, Barrier, Status}

-- request `id`; they are counted from 1
abbrev pub job_of : List Job → ℕ → Job
job_of jobs id = slice_index_or jobs (id - 1) Flush

-- a flush, a barrier and a status are one command on the last slot
abbrev pub is_direct : Job → Bool
is_direct (Read sector blocks high) = false
is_direct (Write sector blocks fill forced reliable high) = false
is_direct job = true

abbrev pub is_read : Job → Bool
is_read (Read sector blocks high) = true
is_read job = false

abbrev pub is_status : Job → Bool
is_status Status = true
is_status job = false

abbrev pub is_high : Job → Bool
is_high (Read sector blocks high) = high
is_high (Write sector blocks fill forced reliable high) = high
is_high job = false

abbrev pub sector_of : Job → ℕ
sector_of (Read sector blocks high) = sector
sector_of (Write sector blocks fill forced reliable high) = sector
sector_of job = 0

-- how many blocks its phase moves; that of a direct request counts as one
abbrev pub phase_blocks : Job → ℕ
phase_blocks job = if is_direct job then 1 else blocks_of job

-- it ends at or below the last sector
abbrev pub is_in_range : Job → ℕ → Bool
is_in_range job sectors = nat_le (sector_of job + blocks_of job) sectors

-- its data is to be durable when it is done
abbrev pub must_keep : Bool → Job → Bool
must_keep through (Write sector blocks fill forced reliable high) = through || (forced || reliable)
must_keep through Flush = true
must_keep through job = false

-- whether its phase, with so many blocks moved, may say that it kept: a flush says so exactly where it acted
abbrev pub may_keep : Bool → Job → ℕ → Bool → Bool
may_keep through Flush count kept = if kept then count == 1 else count == 0
may_keep through (Write sector blocks fill forced reliable high) count kept =
    if kept then must_keep through (Write sector blocks fill forced reliable high) && (count == blocks) else true
may_keep through job count kept = not kept

-- how many blocks may have moved, where `most` come through
abbrev pub may_move : Job → ℕ → ℕ → Bool
may_move Status most count = count == 1
may_move Barrier most count = count == 1
may_move job most count = nat_le count most

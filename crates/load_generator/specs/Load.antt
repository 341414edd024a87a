-- The load: 4,096 requests, of three draws each.
use Rattle.std.specs.Prelude.{ℕ, ◌+◌, ◌-◌, ◌*◌, ◌%◌, ◌==◌, nat_lt, min, true, false, if◌then◌else◌, List, [], map}
use Rattle.std.specs.List.{range_with_len}
use Rattle.storage_model.specs.declared.plan.Fill.TheVariants.{Ramp}
use Rattle.storage_model.specs.declared.plan.Job.{Job}
use Rattle.storage_model.specs.declared.plan.Job.TheVariants.{Read, Write, Flush, Barrier}
use Rattle.storage_model.specs.declared.plan.Plan.{Plan}
use Rattle.load_generator.specs.Draws.{draw}

-- 7 of 16 are writes, 5 reads, and one each a forced write, a reliable write, a barrier and a flush
unfoldable pub job_of_kind : ℕ → ℕ → ℕ → ℕ → Job
job_of_kind kind sector blocks ramp =
    if nat_lt kind 7 then Write sector blocks (Ramp ramp) false false false
    else if nat_lt kind 12 then Read sector blocks false
    else if kind == 12 then Write sector blocks (Ramp ramp) true false false
    else if kind == 13 then Write sector blocks (Ramp ramp) false true false
    else if kind == 14 then Barrier
    else Flush

-- the request in a place, counted from 0, by its draws: its kind, 1 to 16 blocks, and where they start
unfoldable pub job_of : ℕ → ℕ → ℕ → ℕ → ℕ → Job
job_of sectors place a b c =
    let blocks = min (1 + b % 16) sectors in
    job_of_kind (a % 16) (c % (sectors - blocks + 1)) blocks ((place + 1) % 256)

abbrev pub job_at : ℕ → ℕ → ℕ → Job
job_at n sectors place = job_of sectors place (draw n (3 * place)) (draw n (3 * place + 1)) (draw n (3 * place + 2))

-- the first requests, so many
unfoldable pub jobs : ℕ → ℕ → ℕ → List Job
jobs n sectors count = map (job_at n sectors) (range_with_len 0 count)

-- the plan of a number: the default settings and 4,096 requests
abbrev pub load_plan : ℕ → ℕ → Plan
load_plan n sectors = record {
  depth = 16;
  lines = 64;
  through = false;
  wide = false;
  coalesce = 0;
  jobs = jobs n sectors 4096;
  blocks = [];
}

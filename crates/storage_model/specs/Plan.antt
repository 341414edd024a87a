-- Requests and the contents that they write.
use Rattle.std.specs.Prelude.{All, sum_by, ◌≤◌, ℕ, ◌+◌, ◌-◌, Bool, true, false, ◌*◌, ◌%◌, ◌<◌, List, [], length, map, replicate, slice_index_or}
use Rattle.std.specs.List.{range_with_len}
use Rattle.storage_model.specs.declared.block.Block.{Block}
use Rattle.storage_model.specs.declared.plan.Fill.{Fill}
use Rattle.storage_model.specs.declared.plan.Job.{Job}
use Rattle.storage_model.specs.declared.plan.Job.TheVariants.{Read, Write, Flush}
use Rattle.storage_model.specs.declared.plan.Plan.{Plan}
use Rattle.storage_model.specs.declared.plan.Fill.TheVariants.{Same, Ramp, Listed}

-- the list has the block that a fill names
abbrev pub IsInList : List Block → Fill → ℕ → Type 0
IsInList blocks (Same byte) k = Unit {0}
IsInList blocks (Ramp start) k = Unit {0}
IsInList blocks (Listed place) k = place + k < length blocks

-- the first `count` bytes of block k of a ramp
unfoldable pub ramp : ℕ → ℕ → ℕ → List ℕ
ramp start k count = map (λ i. (start + 31 * k + 7 * i) % 256) (range_with_len 0 count)

-- block k of a fill
abbrev pub block_at : List Block → Fill → ℕ → Block
block_at blocks (Same byte) k = record { 0 = replicate 512 byte }
block_at blocks (Ramp start) k = record { 0 = ramp start k 512 }
block_at blocks (Listed place) k = slice_index_or blocks (place + k) (record { 0 = [] })

-- how many sectors a request moves
abbrev pub blocks_of : Job → ℕ
blocks_of (Read sector blocks high) = blocks
blocks_of (Write sector blocks fill forced reliable high) = blocks
blocks_of _ = 0

-- a flush, a barrier and a status are commands of their own (CQHCI's direct commands, DCMD)
abbrev pub is_direct : Job → Bool
is_direct (Read sector blocks high) = false
is_direct (Write sector blocks fill forced reliable high) = false
is_direct job = true

-- request `id`; they are counted from 1
abbrev pub job_of : List Job → ℕ → Job
job_of jobs id = slice_index_or jobs (id - 1) Flush

-- the list has all blocks that a write names
abbrev pub IsFillListed : List Block → Fill → ℕ → Type 0
IsFillListed blocks (Listed place) count = place + count ≤ length blocks
IsFillListed blocks fill count = Unit {0}

abbrev pub IsValidJob : List Block → Job → Type 0
IsValidJob blocks (Read sector count high) = (1 ≤ count) × (count ≤ 1024)
IsValidJob blocks (Write sector count fill forced reliable high) = (1 ≤ count) × (count ≤ 1024) × IsFillListed blocks fill count
IsValidJob blocks _ = Unit {0}

-- the numbers of a plan and of its requests are within the limits
pub record IsValidPlan (plan : Plan) : Type 0 where
  pub depth : (1 ≤ plan.depth) × (plan.depth ≤ 31)
  pub lines : (1 ≤ plan.lines) × (plan.lines ≤ 1024)
  pub coalesce : plan.coalesce ≤ 31
  pub job : All (IsValidJob plan.blocks) plan.jobs
  pub jobs : length plan.jobs ≤ 65536
  pub blocks : sum_by blocks_of plan.jobs ≤ 131072

-- The requests of a load, one after the other, and that their plan is valid.
use Rattle.std.proofs.Common.{◌≡◌, ℕ, zero, suc, ◌+◌, ◌-◌, ◌*◌, ◌/◌, ◌%◌, ◌≤◌, nat_lt, ◌==◌, min, Bool, true, false, List, [], ◌∷◌, ◌++◌, length, refl, sym, ap, subst, ◌∙◌, arith}
use Rattle.std.specs.Prelude.{All, sum_by, if◌then◌else◌}
use Rattle.std.proofs.lemmas.List.FromFn.{map-range_with_len_more, length-map-range_with_len}
use Rattle.std.proofs.lemmas.List.Elements.{All-nil, All-push, All-weaker}
use Rattle.std.proofs.lemmas.List.Sums.{sum_by-le}
use Rattle.storage_model.specs.Plan.{IsValidJob, IsValidPlan, blocks_of}
use Rattle.storage_model.specs.declared.block.Block.{Block}
use Rattle.storage_model.specs.declared.plan.Fill.TheVariants.{Ramp}
use Rattle.storage_model.specs.declared.plan.Job.{Job}
use Rattle.storage_model.specs.declared.plan.Job.TheVariants.{Write}
use Rattle.load_generator.specs.Draws.{draw, moved, number}
use Rattle.load_generator.specs.Load.{job_at, job_of, job_of_kind, jobs}

pub jobs_none : (n sectors : ℕ) → ◌≡◌ {A = List Job} [] (jobs n sectors 0)
unfolding jobs
jobs_none n sectors = refl

pub jobs_more : (n sectors place : ℕ) → jobs n sectors (place + 1) ≡ jobs n sectors place ++ job_at n sectors place ∷ []
unfolding jobs
jobs_more n sectors place = map-range_with_len_more (job_at n sectors) 0 place place (omega arith)

pub length-jobs : (n sectors count : ℕ) → length (jobs n sectors count) ≡ count
unfolding jobs
length-jobs n sectors count = length-map-range_with_len (job_at n sectors) 0 count

-- the next number
number-one : (n k j : ℕ) → j ≡ k + 1 → number n j ≡ moved (number n k)
number-one n k j is = let e : j ≡ suc k = omega arith in ap (number n) e

pub number-three : (n place x y z : ℕ) → x ≡ number n (3 * place) → y ≡ moved x → z ≡ moved y → moved z ≡ number n (3 * (place + 1))
number-three n place x y z is next third =
    let one = number-one n (3 * place) (3 * place + 1) refl in
    let two = number-one n (3 * place + 1) (3 * place + 2) (omega arith) in
    let three = number-one n (3 * place + 2) (3 * (place + 1)) (omega arith) in
    cc

pub job_drawn : (n sectors place x y z a b c : ℕ) → x ≡ number n (3 * place) → y ≡ moved x → z ≡ moved y → a ≡ y / 65536 → b ≡ z / 65536 → c ≡ moved z / 65536
    → job_of sectors place a b c ≡ job_at n sectors place
job_drawn n sectors place x y z a b c is next third first second last =
    let one = number-one n (3 * place) (3 * place + 1) refl in
    let two = number-one n (3 * place + 1) (3 * place + 2) (omega arith) in
    let kind : a ≡ draw n (3 * place) = cc in
    let blocks : b ≡ draw n (3 * place + 1) = cc in
    let start : c ≡ draw n (3 * place + 2) = cc in
    rw (kind, blocks, start) refl

-- a request of 1 to 16 blocks
record IsSmall (job : Job) : Type 0 where
  valid : IsValidJob [] job
  blocks : blocks_of job ≤ 16

either_small : (test : Bool) (job other : Job) → IsSmall job → IsSmall other → IsSmall (if test then job else other)
either_small true job other small also = small
either_small false job other small also = also

small_write : (sector blocks ramp : ℕ) (forced reliable : Bool) → 1 ≤ blocks → blocks ≤ 16 → IsSmall (Write sector blocks (Ramp ramp) forced reliable false)
small_write sector blocks ramp forced reliable least most = record { valid = (least, omega arith, tt); blocks = most }

small_kind : (kind sector blocks ramp : ℕ) → 1 ≤ blocks → blocks ≤ 16 → IsSmall (job_of_kind kind sector blocks ramp)
unfolding job_of_kind
small_kind kind sector blocks ramp least most =
    either_small (nat_lt kind 7) _ _ (small_write sector blocks ramp false false least most)
    (either_small (nat_lt kind 12) _ _ (record { valid = (least, omega arith); blocks = most })
    (either_small (kind == 12) _ _ (small_write sector blocks ramp true false least most)
    (either_small (kind == 13) _ _ (small_write sector blocks ramp false true least most)
    (either_small (kind == 14) _ _ (record { valid = tt; blocks = omega arith }) (record { valid = tt; blocks = omega arith })))))

small_job : (sectors place a b c : ℕ) → 1 ≤ sectors → IsSmall (job_of sectors place a b c)
unfolding job_of
small_job sectors place a b c least =
    let blocks = min (1 + b % 16) sectors in
    small_kind (a % 16) (c % (sectors - blocks + 1)) blocks ((place + 1) % 256) (omega arith) (omega arith)

all_small : (n sectors : ℕ) → 1 ≤ sectors → (count : ℕ) → All IsSmall (jobs n sectors count)
all_small n sectors least zero = rw (← jobs_none n sectors) (All-nil IsSmall)
all_small n sectors least (suc count) =
    let P : List Job → Type 0 = λ made. All IsSmall made in
    let next : suc count ≡ count + 1 = omega arith in
    let more = ap (jobs n sectors) next ∙ jobs_more n sectors count in
    subst P (sym more) (All-push IsSmall (jobs n sectors count) (job_at n sectors count) (all_small n sectors least count)
    (small_job sectors count (draw n (3 * count)) (draw n (3 * count + 1)) (draw n (3 * count + 2)) least))

pub jobs_valid : (n sectors count : ℕ) → 1 ≤ sectors → All (IsValidJob []) (jobs n sectors count)
jobs_valid n sectors count least = All-weaker IsSmall (IsValidJob []) (λ job small. small.valid) (jobs n sectors count) (all_small n sectors least count)

pub jobs_blocks : (n sectors count : ℕ) → 1 ≤ sectors → sum_by blocks_of (jobs n sectors count) ≤ count * 16
jobs_blocks n sectors count least =
    let each = All-weaker IsSmall (λ job. blocks_of job ≤ 16) (λ job small. small.blocks) (jobs n sectors count) (all_small n sectors least count) in
    omega (arith, sum_by-le blocks_of 16 (jobs n sectors count) each, length-jobs n sectors count)

-- the plan of a load is valid
pub plan_valid : (n sectors : ℕ) (made : List Job) (named : List Block) → 1 ≤ sectors → made ≡ jobs n sectors 4096 → named ≡ []
    → IsValidPlan (record { depth = 16; lines = 64; through = false; wide = false; coalesce = 0; jobs = made; blocks = named })
plan_valid n sectors made named least is none =
    rw (is, none) (record {
      depth = (omega arith, omega arith);
      lines = (omega arith, omega arith);
      coalesce = omega arith;
      job = jobs_valid n sectors 4096 least;
      jobs = omega (arith, length-jobs n sectors 4096);
      blocks = omega (arith, jobs_blocks n sectors 4096 least);
    })

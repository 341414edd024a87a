-- The sectors of a read, one after the other.
use Rattle.std.proofs.Common.{◌≡◌, ◌∙◌, ℕ, ◌+◌, ◌-◌, ◌<◌, ◌≤◌, true, List, [], ◌∷◌, ◌++◌, length, take, drop, refl, ap, arith}
use Rattle.std.proofs.lemmas.Bool.{leb-true}
use Rattle.std.proofs.lemmas.List.{get_or-drop, length-drop, take_more}
use Rattle.storage_model.proofs.Appends.{length-contents_now}
use Rattle.storage_model.specs.Contents.{contents_now, sector_at}
use Rattle.storage_model.specs.declared.block.Block.{Block}
use Rattle.storage_model.specs.declared.marks.Mark.{Mark}
use Rattle.storage_model.specs.declared.plan.Job.{Job}
use Rattle.storage_model.specs.Plan.{blocks_of}
use Rattle.storage_machine.specs.Jobs.{is_in_range, sector_of}

pub part_more : (base : List Block) (pend : List Mark) (first k : ℕ) → first + k < length base
    → take (k + 1) (drop first (contents_now base pend)) ≡ take k (drop first (contents_now base pend)) ++ sector_at (contents_now base pend) (first + k) ∷ []
part_more base pend first k inside =
    let whole = contents_now base pend in
    take_more (drop first whole) k (record { 0 = [] }) (omega (arith, length-drop first whole, length-contents_now base pend, inside))
    ∙ ap (λ block. take k (drop first whole) ++ block ∷ []) (get_or-drop first whole k (record { 0 = [] }))

pub part_none : (base : List Block) (pend : List Mark) (first : ℕ) → ◌≡◌ {A = List Block} [] (take 0 (drop first (contents_now base pend)))
part_none base pend first = refl

pub all_inside : (job : Job) (sectors : ℕ) → is_in_range job sectors ≡ true → sector_of job + blocks_of job ≤ sectors
all_inside job sectors inside = leb-true (sector_of job + blocks_of job) sectors inside

pub part_end : (base : List Block) (pend : List Mark) (first blocks k : ℕ) → k ≡ blocks → take k (drop first (contents_now base pend)) ≡ take (first + blocks - first) (drop first (contents_now base pend))
part_end base pend first blocks k all = let count : k ≡ first + blocks - first = omega arith in ap (λ n. take n (drop first (contents_now base pend))) count

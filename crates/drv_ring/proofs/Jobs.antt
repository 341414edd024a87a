-- What each kind of job leaves of the memory.
use Rattle.std.proofs.Common.{◌≡◌, ◌≢◌, ℕ, ◌<◌, Bool, List, sym, subst, Ok}
use Rattle.host_mem.specs.Memory.{Memory}
use Rattle.storage_model.specs.declared.block.Block.{Block}
use Rattle.storage_model.specs.declared.plan.Fill.{Fill}
use Rattle.storage_model.specs.declared.plan.Job.{Job}
use Rattle.storage_model.specs.declared.plan.Job.TheVariants.{Read, Write}
use Rattle.storage_model.specs.Plan.{IsValidJob}
use Rattle.cq_desc.specs.declared.task.TaskDesc.{TaskDesc}
use Rattle.cq_desc.specs.Task.{task_read}
use Rattle.cq_task.specs.Place.{first_word}
use Rattle.piece_data.specs.Laws.{HasSameSpace, KeepsOthers}
use Rattle.drv_ring.specs.declared.places.Layout.{Layout}
use Rattle.drv_ring.specs.Layout.{list_of, HasLayout, IsTagOf}
use Rattle.drv_ring.specs.Task.{read_desc, write_desc}
use Rattle.drv_ring.specs.Asks.{Asks, HasChain}
use Rattle.drv_ring.specs.Changes.{KeepsTag, areas_of}
use Rattle.drv_ring.proofs.Meant.{asks-from}
use Rattle.drv_ring.proofs.Others.{JobWrites, others-kept}

-- the descriptors of a data task stand
pub record HasTask (layout : Layout) (tag : ℕ) (desc : TaskDesc) (memory : Memory) : Type 0 where
  pub word : task_read (first_word memory (list_of layout) tag) ≡ Ok desc
  pub chain : HasChain memory layout tag desc.blocks

pub read-asks : (layout : Layout) (tag sector blocks : ℕ) (high int : Bool) (job : Job) (listed : List Block) (desc : TaskDesc) (memory : Memory)
    → job ≡ Read sector blocks high → desc ≡ read_desc sector blocks high int → HasLayout memory layout → IsTagOf layout tag job
    → IsValidJob listed job → HasTask layout tag desc memory → Asks memory layout tag job int
read-asks layout tag sector blocks high int job listed desc memory is named held fits valid task =
    let own = Read sector blocks high in
    let Fits : Job → Type 0 = IsTagOf layout tag in
    let Valid : Job → Type 0 = IsValidJob listed in
    let Has : TaskDesc → Type 0 = λ d. HasTask layout tag d memory in
    let To : Job → Type 0 = λ j. Asks memory layout tag j int in
    let small = subst Valid is valid in
    let stands = subst Has named task in
    subst To (sym is) (asks-from memory layout tag own int held (subst Fits is fits) (small.0, small.1) stands.word stands.chain)

pub write-asks : (layout : Layout) (tag sector blocks : ℕ) (fill : Fill) (forced reliable high int : Bool) (job : Job) (listed : List Block)
    (desc : TaskDesc) (memory : Memory) → job ≡ Write sector blocks fill forced reliable high
    → desc ≡ write_desc sector blocks forced reliable high int → HasLayout memory layout → IsTagOf layout tag job
    → IsValidJob listed job → HasTask layout tag desc memory → Asks memory layout tag job int
write-asks layout tag sector blocks fill forced reliable high int job listed desc memory is named held fits valid task =
    let own = Write sector blocks fill forced reliable high in
    let Fits : Job → Type 0 = IsTagOf layout tag in
    let Valid : Job → Type 0 = IsValidJob listed in
    let Has : TaskDesc → Type 0 = λ d. HasTask layout tag d memory in
    let To : Job → Type 0 = λ j. Asks memory layout tag j int in
    let small = subst Valid is valid in
    let stands = subst Has named task in
    subst To (sym is) (asks-from memory layout tag own int held (subst Fits is fits) (small.0, small.1) stands.word stands.chain)

-- the places of a job, by its kind
pub outside-is : (layout : Layout) (tag : ℕ) (job own : Job) (old new : Memory) → job ≡ own → KeepsOthers (areas_of layout tag own) old new
    → KeepsOthers (areas_of layout tag job) old new
outside-is layout tag job own old new is others =
    let To : Job → Type 0 = λ j. KeepsOthers (areas_of layout tag j) old new in subst To (sym is) others

pub others-by : (layout : Layout) (tag : ℕ) (job own : Job) (old new : Memory) → job ≡ own → HasLayout old layout → IsTagOf layout tag job
    → HasSameSpace old new → KeepsOthers (areas_of layout tag own) old new → (other : ℕ) → other < 32 → other ≢ tag → KeepsTag layout other old new
others-by layout tag job own old new is held fits space others other lt apart =
    let writes : JobWrites layout tag job old new = record {
      held = held;
      fits = fits;
      space = space;
      others = outside-is layout tag job own old new is others;
    } in
    others-kept layout tag other job old new writes lt apart

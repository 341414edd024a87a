-- The meaning of a slot is one answer and no other.
use Rattle.std.proofs.Common.{◌≡◌, ℕ, ◌*◌, Bool, List, refl, sym, ap, subst, ◌∙◌, Result, Ok, Err}
use Rattle.std.specs.Prelude.{◌↔◌}
use Rattle.host_mem.specs.Memory.{Memory}
use Rattle.cq_desc.specs.declared.task.TaskDesc.{TaskDesc}
use Rattle.cq_desc.specs.Task.{task_read}
use Rattle.cq_chain.specs.declared.pieces.Piece.{Piece}
use Rattle.cq_chain.specs.declared.fault.ChainFault.{ChainFault}
use Rattle.cq_chain.specs.Chain.{HasPieces, HasFault, longest_chain}
use Rattle.cq_task.specs.Place.{block_bytes}
use Rattle.cq_task.specs.declared.slot.SlotTask.{SlotTask}
use Rattle.cq_task.specs.declared.slot.SlotTask.TheVariants.{Direct, Data}
use Rattle.cq_task.specs.declared.slot.DropCause.{DropCause}
use Rattle.cq_task.specs.declared.slot.DropCause.TheVariants.{Task, Chain}
use Rattle.cq_task.specs.Meaning.{MeansData}

abbrev pub Answer : Type 0
Answer = Result SlotTask DropCause

abbrev pub ChainAnswer : Type 0
ChainAnswer = Result (List Piece) ChainFault

-- a good descriptor with what its chain gives
abbrev pub with_chain : TaskDesc → ChainAnswer → Answer
with_chain desc (Ok pieces) = Ok (Data (record { desc = desc; pieces = pieces }))
with_chain desc (Err fault) = Err (Chain fault)

-- a chain has its pieces or its fault
pub record Walked (memory : Memory) (wide : Bool) (chain want : ℕ) (walked : ChainAnswer) : Type 0 where
  pub pieces : (pieces : List Piece) → (walked ≡ Ok pieces) ↔ HasPieces memory wide longest_chain chain want pieces
  pub fault : (fault : ChainFault) → (walked ≡ Err fault) ↔ HasFault memory wide longest_chain chain want fault

with_chain-means : (memory : Memory) (wide : Bool) (word chain : ℕ) (desc : TaskDesc) (walked : ChainAnswer) → task_read word ≡ Ok desc
    → Walked memory wide chain (desc.blocks * block_bytes) walked → MeansData memory wide word chain (with_chain desc walked)
with_chain-means memory wide word chain desc (Ok pieces) reads w = (reads, (w.pieces pieces).0 refl)
with_chain-means memory wide word chain desc (Err fault) reads w = record { desc = desc; reads = reads; bad = (w.fault fault).0 refl }

same_desc : (word : ℕ) (desc other : TaskDesc) → task_read word ≡ Ok desc → task_read word ≡ Ok other → other ≡ desc
same_desc word desc other h g = cc

pub means-with_chain : (memory : Memory) (wide : Bool) (word chain : ℕ) (desc : TaskDesc) (walked : ChainAnswer) → task_read word ≡ Ok desc
    → Walked memory wide chain (desc.blocks * block_bytes) walked → (answer : Answer) → MeansData memory wide word chain answer
    → with_chain desc walked ≡ answer
means-with_chain memory wide word chain desc walked reads w (Ok (Direct other)) h = absurd h
means-with_chain memory wide word chain desc walked reads w (Ok (Data task)) h =
    let e : task.desc ≡ desc = same_desc word desc task.desc reads h.0 in
    let P : TaskDesc → Type 0 = λ d. HasPieces memory wide longest_chain chain (d.blocks * block_bytes) task.pieces in
    ap (with_chain desc) ((w.pieces task.pieces).1 (subst P e h.1))
    ∙ ap (λ (d : TaskDesc). Ok (Data (record { desc = d; pieces = task.pieces }))) (sym e)
means-with_chain memory wide word chain desc walked reads w (Err (Task fault)) h = cc
means-with_chain memory wide word chain desc walked reads w (Err (Chain fault)) h =
    let e : h.desc ≡ desc = same_desc word desc h.desc reads h.reads in
    let P : TaskDesc → Type 0 = λ d. HasFault memory wide longest_chain chain (d.blocks * block_bytes) fault in
    ap (with_chain desc) ((w.fault fault).1 (subst P e h.bad))

pub data-exact : (memory : Memory) (wide : Bool) (word chain : ℕ) (desc : TaskDesc) (blocks : ℕ) (walked : ChainAnswer)
    → task_read word ≡ Ok desc → blocks ≡ desc.blocks → Walked memory wide chain (blocks * block_bytes) walked
    → (answer : Answer) → (with_chain desc walked ≡ answer) ↔ MeansData memory wide word chain answer
data-exact memory wide word chain desc blocks walked reads e given answer =
    let P : ℕ → Type 0 = λ n. Walked memory wide chain (n * block_bytes) walked in
    let w = subst P e given in (
      λ same. subst (MeansData memory wide word chain) same (with_chain-means memory wide word chain desc walked reads w),
      λ h. means-with_chain memory wide word chain desc walked reads w answer h,
    )

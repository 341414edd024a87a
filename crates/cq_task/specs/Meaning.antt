-- What a slot of the task descriptor list means: a direct command, a data task, or a cause to drop it. JESD84-B51, annex B.
use Rattle.std.specs.Prelude.{◌≡◌, ◌<◌, ◌^◌, ℕ, ◌*◌, ◌⊎◌, Bool, IsTrue, Result, Ok, Err}
use Rattle.std.specs.Bool.{MatchBool}
use Rattle.std.specs.Result.{IsOkAnd}
use Rattle.host_mem.specs.Memory.{Memory, HasRange}
use Rattle.cq_desc.specs.declared.task.TaskDesc.{TaskDesc}
use Rattle.cq_desc.specs.Direct.{direct_read}
use Rattle.cq_desc.specs.Task.{task_read}
use Rattle.cq_chain.specs.declared.fault.ChainFault.{ChainFault}
use Rattle.cq_chain.specs.declared.fault.ChainFault.TheVariants.{Hole}
use Rattle.cq_chain.specs.Descriptors.{size_of}
use Rattle.cq_chain.specs.Chain.{HasPieces, HasFault, longest_chain}
use Rattle.cq_task.specs.declared.list.TaskList.{TaskList}
use Rattle.cq_task.specs.declared.slot.SlotTask.{SlotTask}
use Rattle.cq_task.specs.declared.slot.SlotTask.TheVariants.{Direct, Data}
use Rattle.cq_task.specs.declared.slot.DropCause.{DropCause}
use Rattle.cq_task.specs.declared.slot.DropCause.TheVariants.{Task, Chain}
use Rattle.cq_task.specs.Place.{block_bytes, place_of, chain_of, first_word, is_direct}

-- all of the first descriptor is in the memory, below 2^64
pub record HasFirst (memory : Memory) (list : TaskList) (slot : ℕ) : Type 0 where
  pub below : place_of list slot < 2 ^ 64
  pub inside : HasRange memory (place_of list slot) (size_of list.wide)

-- a direct command is its word
abbrev pub MeansDirect : ℕ → Result SlotTask DropCause → Type 0
MeansDirect word (Ok (Direct desc)) = direct_read word ≡ Ok desc
MeansDirect word (Ok (Data task)) = ⊥
MeansDirect word (Err (Task fault)) = direct_read word ≡ Err fault
MeansDirect word (Err (Chain fault)) = ⊥

-- a good word with a bad chain
pub record HasBadChain (memory : Memory) (wide : Bool) (word chain : ℕ) (fault : ChainFault) : Type 0 where
  pub desc : TaskDesc
  pub reads : task_read word ≡ Ok desc
  pub bad : HasFault memory wide longest_chain chain (desc.blocks * block_bytes) fault

-- a data task is its word, and the pieces of its chain for the bytes of its blocks
abbrev pub MeansData : Memory → Bool → (word chain : ℕ) → Result SlotTask DropCause → Type 0
MeansData memory wide word chain (Ok (Direct desc)) = ⊥
MeansData memory wide word chain (Ok (Data task)) =
    (task_read word ≡ Ok task.desc) × HasPieces memory wide longest_chain chain (task.desc.blocks * block_bytes) task.pieces
MeansData memory wide word chain (Err (Task fault)) = task_read word ≡ Err fault
MeansData memory wide word chain (Err (Chain fault)) = HasBadChain memory wide word chain fault

-- a slot whose first descriptor isn't there is a hole
abbrev pub Means : Memory → TaskList → ℕ → Result SlotTask DropCause → Type 0
Means memory list slot answer =
    ((¬ HasFirst memory list slot) × (answer ≡ Err (Chain Hole)))
    ⊎ (HasFirst memory list slot
    × MatchBool (is_direct list slot)
    (MeansDirect (first_word memory list slot) answer)
    (MeansData memory list.wide (first_word memory list slot) (chain_of list slot) answer))

-- the queue barrier bit of a slot, in a first descriptor that is there and good
abbrev pub HasBarrier : Memory → TaskList → ℕ → Type 0
HasBarrier memory list slot =
    HasFirst memory list slot
    × MatchBool (is_direct list slot)
    (IsOkAnd (direct_read (first_word memory list slot)) (λ desc. IsTrue desc.barrier))
    (IsOkAnd (task_read (first_word memory list slot)) (λ desc. IsTrue desc.barrier))

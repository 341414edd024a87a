-- The data phase of a task: its blocks move between the pieces of its slot and the sectors of the task that the card took out of its queue.
use Rattle.std.specs.Prelude.{◌≡◌, ◌⊎◌, ◌<◌, ◌≤◌, ◌+◌, ◌&&◌, ℕ, zero, suc, nat_le, nat_lt, Bool, true, if◌then◌else◌, List, [], ◌∷◌, ◌++◌, replicate, Result, Ok, Err, OnOk, OnErr}
use Rattle.card_core.specs.Moving.{must_keep}
use Rattle.card_core.specs.Serving.{End, by_end, without_error, word_of}
use Rattle.card_core.specs.declared.ends.Dark.{Dark}
use Rattle.card_core.specs.declared.phase.DataPhase.{DataPhase}
use Rattle.card_store.specs.Store.{Contents, kept, same}
use Rattle.cmd_words.specs.declared.status.TheConstants.Status.{DEVICE_ECC_FAILED, ERROR}
use Rattle.cq_chain.specs.declared.pieces.Piece.{Piece}
use Rattle.cq_task.specs.declared.slot.DataTask.{DataTask}
use Rattle.host_mem.specs.Memory.{Memory}
use Rattle.intent_store.specs.declared.ends.StoreEnd.TheVariants.{Flash, PowerLost}
use Rattle.piece_data.specs.Data.{block_of, with_block}
use Rattle.storage_model.specs.Contents.{contents_now, sector_at}
use Rattle.storage_model.specs.Keep.{is_named}
use Rattle.storage_model.specs.declared.block.Block.{Block}
use Rattle.storage_model.specs.declared.marks.Mark.{Mark}
use Rattle.storage_model.specs.declared.marks.Mark.TheVariants.{Put as PutMark}
use Rattle.task_queue.specs.declared.queue.Queued.{Queued}
use Rattle.raw_machine.specs.Answering.{card_of}
use Rattle.raw_machine.specs.State.{PlainCard}

-- block k of a read: the sector as it is now, and zeros past the card's task
abbrev pub block_read : Contents → Queued → ℕ → Block
block_read c queued k =
    if nat_lt k queued.task.blocks then sector_at (contents_now c.base c.pend) (queued.start + k) else record { 0 = replicate 512 0 }

-- the memory after the first n blocks of a read came into the pieces, one after the other
unfoldable pub read_into : Memory → List Piece → Contents → Queued → (n : ℕ) → Memory
read_into memory pieces c queued zero = memory
read_into memory pieces c queued (suc n) = with_block (read_into memory pieces c queued n) pieces n (block_read c queued n)

-- block k of a write: a put, or nothing past the card's task
abbrev pub mark_of : Memory → List Piece → Queued → ℕ → List Mark
mark_of memory pieces queued k =
    if nat_lt k queued.task.blocks
    then PutMark (record { sector = queued.start + k; value = block_of memory pieces k; reliable = queued.task.reliable }) ∷ []
    else []

-- the puts of the first n blocks of a write, gathered from the pieces
unfoldable pub marks_of : Memory → List Piece → Queued → (n : ℕ) → List Mark
marks_of memory pieces queued zero = []
marks_of memory pieces queued (suc n) = marks_of memory pieces queued n ++ mark_of memory pieces queued n

abbrev pub with_marks : List Mark → Contents → Contents
with_marks marks c = record c { pend = c.pend ++ marks }

-- the card's task as its data phase begins
abbrev pub phase_of : Queued → DataPhase
phase_of queued = record { task = queued.task; start = queued.start; moved = 0 }

-- whether the end of a data phase keeps the sectors of the card's task: it must, and all blocks of that task moved
abbrev pub keeps : PlainCard → Queued → (moved : ℕ) → Bool
keeps card queued moved = must_keep (card_of card) (phase_of queued) && nat_le queued.task.blocks moved

-- the contents after so many blocks moved, and the data phase ended so
abbrev pub contents_after : PlainCard → Memory → List Piece → Queued → (moved : ℕ) → End → Contents → Contents
contents_after card memory pieces queued moved end c =
    if queued.task.read then c
    else by_end (if keeps card queued moved then kept (is_named queued.start queued.task.blocks) else same) same end
    (with_marks (marks_of memory pieces queued moved) c)

-- the memory after so many blocks moved
abbrev pub memory_after : Memory → List Piece → Contents → Queued → (moved : ℕ) → Memory
memory_after memory pieces c queued moved = if queued.task.read then read_into memory pieces c queued moved else memory

-- How far a data phase came. All blocks of the slot's task moved where no call of the array failed. A call that failed was for the next block,
-- which is one of the card's task, or was to keep the write.
pub record HasMoved (task : DataTask) (queued : Queued) (keeps : Bool) (moved : ℕ) (end : End) : Type 0 where
  pub within : moved ≤ task.desc.blocks
  pub whole : OnOk end (moved ≡ task.desc.blocks)
  pub failed : OnErr end (((moved < task.desc.blocks) × (moved < queued.task.blocks)) ⊎ ((moved ≡ task.desc.blocks) × (keeps ≡ true)))

-- the word that a data phase ends with: bit 21 where a sector couldn't be read, bit 19 where one couldn't be written
abbrev pub phase_answer : (read : Bool) → End → Result ℕ Dark
phase_answer read (Ok _) = Ok without_error
phase_answer read (Err Flash) = Ok (word_of (if read then DEVICE_ECC_FAILED else ERROR))
phase_answer read (Err PowerLost) = Err (record {})

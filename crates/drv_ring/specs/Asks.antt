-- When a slot asks for a job, and when the pieces of a tag hold what a write is to write.
use Rattle.std.specs.Prelude.{◌≡◌, ◌<◌, ◌≤◌, ℕ, ◌+◌, ◌*◌, ◌==◌, Bool, false, List, Ok, replicate}
use Rattle.host_mem.specs.Memory.{Memory, bytes_of}
use Rattle.storage_model.specs.declared.block.Block.{Block}
use Rattle.storage_model.specs.declared.plan.Job.{Job}
use Rattle.storage_model.specs.declared.plan.Job.TheVariants.{Read, Write, Flush, Barrier, Status}
use Rattle.storage_model.specs.Plan.{block_at}
use Rattle.cq_desc.specs.declared.xfer.Xfer.{Xfer}
use Rattle.cq_desc.specs.declared.xfer.Xfer.TheVariants.{Piece as Transfer, Link}
use Rattle.cq_chain.specs.Descriptors.{Reads, size_of as descriptor_size}
use Rattle.cq_task.specs.Place.{chain_of}
use Rattle.cq_task.specs.Meaning.{Means}
use Rattle.piece_data.specs.Data.{block_of}
use Rattle.drv_ring.specs.declared.places.Layout.{Layout}
use Rattle.drv_ring.specs.declared.places.TheConstants.{MOST_BLOCKS}
use Rattle.drv_ring.specs.Layout.{list_of, chunk_at, link_at, row_at, table_at, IsTagOf}
use Rattle.drv_ring.specs.Pieces.{piece_count, piece_at, tag_pieces}
use Rattle.drv_ring.specs.Task.{task_of}

-- the descriptor of piece k: the last piece ends the chain
abbrev pub transfer_at : Layout → (tag blocks k : ℕ) → Xfer
transfer_at layout tag blocks k =
    let piece = piece_at layout tag blocks k in Transfer (k + 1 == piece_count blocks) false piece.len piece.at

-- the second half of the slot is a link to the tag's table, which has the descriptors of the pieces in order, in chunks of 32;
-- where pieces remain, a link to the next chunk follows them
-- (cqhci_prep_tran_desc and setup_trans_desc of the Linux driver's cqhci-core.c)
pub record HasChain (memory : Memory) (layout : Layout) (tag blocks : ℕ) : Type 0 where
  pub link : Reads memory layout.wide (chain_of (list_of layout) tag) (Ok (Link (table_at layout tag)))
  pub transfers : (k : ℕ) → k < piece_count blocks → Reads memory layout.wide (row_at layout tag k) (Ok (transfer_at layout tag blocks k))
  pub links : (c : ℕ) → 32 * (c + 1) < piece_count blocks → Reads memory layout.wide (link_at layout tag c) (Ok (Link (chunk_at layout tag (c + 1))))

-- behind a direct command the slot's bytes are 0
abbrev pub HasNothing : Memory → Layout → (tag : ℕ) → Type 0
HasNothing memory layout tag =
    bytes_of memory (chain_of (list_of layout) tag) (descriptor_size layout.wide) ≡ replicate (descriptor_size layout.wide) 0

-- what stands behind the first descriptor of the slot
abbrev pub HasRest : Memory → Layout → (tag : ℕ) → Job → Type 0
HasRest memory layout tag (Read sector blocks high) = HasChain memory layout tag blocks
HasRest memory layout tag (Write sector blocks fill forced reliable high) = HasChain memory layout tag blocks
HasRest memory layout tag Flush = HasNothing memory layout tag
HasRest memory layout tag Barrier = HasNothing memory layout tag
HasRest memory layout tag Status = HasNothing memory layout tag

-- a read or write has 1 to 1,024 blocks
abbrev pub HasBlocks : Job → Type 0
HasBlocks (Read sector blocks high) = (1 ≤ blocks) × (blocks ≤ MOST_BLOCKS)
HasBlocks (Write sector blocks fill forced reliable high) = (1 ≤ blocks) × (blocks ≤ MOST_BLOCKS)
HasBlocks _ = Unit {0}

-- the slot of a tag means the job's task, by a chain in the tag's own table
pub record Asks (memory : Memory) (layout : Layout) (tag : ℕ) (job : Job) (int : Bool) : Type 0 where
  pub tag_fits : IsTagOf layout tag job
  pub blocks_fit : HasBlocks job
  pub means : Means memory (list_of layout) tag (Ok (task_of layout tag job int))
  pub rest : HasRest memory layout tag job

-- the pieces of a write hold, in order, the blocks of its fill
abbrev pub HoldsData : Memory → Layout → (tag : ℕ) → Job → List Block → Type 0
HoldsData memory layout tag (Write sector blocks fill forced reliable high) listed =
    (k : ℕ) → k < blocks → block_of memory (tag_pieces layout tag blocks) k ≡ block_at listed fill k
HoldsData memory layout tag _ listed = Unit {0}

-- Where the driver's tables and the pieces of its data stand in host memory: the task descriptor list at the base, then a table
-- of transfer descriptors for each tag, then the pieces, which the tags have by turns (get_desc, get_trans_desc and
-- cqhci_host_alloc_tdl of the Linux driver's cqhci-core.c; its data lie in the pages that the block layer hands over).
use Rattle.std.specs.Prelude.{◌<◌, ◌≤◌, ◌≡◌, ◌^◌, ℕ, ◌+◌, ◌*◌, ◌/◌, ◌%◌, true, false}
use Rattle.host_mem.specs.Memory.{Memory, HasRange}
use Rattle.storage_model.specs.declared.plan.Job.{Job}
use Rattle.storage_model.specs.declared.plan.Job.TheVariants.{Read, Write, Flush, Barrier, Status}
use Rattle.cq_chain.specs.Descriptors.{size_of as descriptor_size}
use Rattle.cq_task.specs.declared.list.TaskList.{TaskList}
use Rattle.cq_task.specs.declared.list.TheConstants.{DIRECT_SLOT}
use Rattle.drv_ring.specs.declared.places.Layout.{Layout}
use Rattle.drv_ring.specs.declared.places.TheConstants.{MOST_DEPTH, FIRST_TABLE, TABLE_BYTES, CHUNK_BYTES, FIRST_PIECE, PIECE_BYTES, TAG_BYTES}

-- the list of the slots, with direct commands in slot 31
abbrev pub list_of : Layout → TaskList
list_of layout = record { base = layout.base; wide = layout.wide; direct = true }

-- the transfer descriptors of a tag
abbrev pub table_at : Layout → ℕ → ℕ
table_at layout tag = layout.base + FIRST_TABLE + TABLE_BYTES * tag

-- chunk c of a tag's table
abbrev pub chunk_at : Layout → (tag c : ℕ) → ℕ
chunk_at layout tag c = table_at layout tag + CHUNK_BYTES * c

-- the descriptor of piece k: a chunk has those of 32 pieces
abbrev pub row_at : Layout → (tag k : ℕ) → ℕ
row_at layout tag k = chunk_at layout tag (k / 32) + descriptor_size layout.wide * (k % 32)

-- behind them stands the link to the next chunk
abbrev pub link_at : Layout → (tag c : ℕ) → ℕ
link_at layout tag c = chunk_at layout tag c + descriptor_size layout.wide * 32

-- piece k of a tag's data: first the pieces 0 of all tags, then the pieces 1, and so on
abbrev pub piece_place : Layout → (tag k : ℕ) → ℕ
piece_place layout tag k = layout.base + FIRST_PIECE + PIECE_BYTES * (layout.depth * k + tag)

-- block k of a tag's data: a piece has 8 blocks
abbrev pub block_place : Layout → (tag k : ℕ) → ℕ
block_place layout tag k = piece_place layout tag (k / 8) + 512 * (k % 8)

abbrev pub size_of : Layout → ℕ
size_of layout = FIRST_PIECE + TAG_BYTES * layout.depth

-- the addresses of the layout are numbers of 64 bits
abbrev pub HasAddresses : Layout → Type 0
HasAddresses layout = layout.base + size_of layout < 2 ^ 64

-- the memory has each byte of the layout, which ends at or below 2^32 where its descriptors are of 64 bits
pub record HasLayout (memory : Memory) (layout : Layout) : Type 0 where
  pub depth : layout.depth ≤ MOST_DEPTH
  pub below : HasAddresses layout
  pub narrow : layout.wide ≡ false → layout.base + size_of layout ≤ 2 ^ 32
  pub inside : HasRange memory layout.base (size_of layout)

-- a read or write has a tag below the depth, and any other job the slot of direct commands
abbrev pub IsTagOf : Layout → ℕ → Job → Type 0
IsTagOf layout tag (Read sector blocks high) = tag < layout.depth
IsTagOf layout tag (Write sector blocks fill forced reliable high) = tag < layout.depth
IsTagOf layout tag Flush = tag ≡ DIRECT_SLOT
IsTagOf layout tag Barrier = tag ≡ DIRECT_SLOT
IsTagOf layout tag Status = tag ≡ DIRECT_SLOT

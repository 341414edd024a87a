-- What a call changes of the memory, and what it leaves.
use Rattle.std.specs.Prelude.{◌≡◌, ◌<◌, ◌≤◌, ℕ, ◌+◌, ◌-◌, ◌*◌, Bool, List, [], ◌∷◌}
use Rattle.host_mem.specs.Memory.{Memory}
use Rattle.storage_model.specs.declared.plan.Job.{Job}
use Rattle.storage_model.specs.declared.plan.Job.TheVariants.{Read, Write}
use Rattle.cq_chain.specs.declared.pieces.Piece.{Piece}
use Rattle.cq_chain.specs.Descriptors.{size_of as descriptor_size}
use Rattle.cq_task.specs.Place.{place_of}
use Rattle.piece_data.specs.Data.{block_of}
use Rattle.piece_data.specs.Laws.{HasSameSpace, KeepsOthers}
use Rattle.drv_ring.specs.declared.places.Layout.{Layout}
use Rattle.drv_ring.specs.declared.places.TheConstants.{MOST_BLOCKS, TABLE_BYTES}
use Rattle.drv_ring.specs.Layout.{list_of, row_at, table_at}
use Rattle.drv_ring.specs.Pieces.{tag_pieces}
use Rattle.drv_ring.specs.Asks.{Asks}

abbrev pub area : (at len : ℕ) → Piece
area at len = record { at = at; len = len }

-- no byte outside a range changes
pub record ChangesWithin (range : Piece) (old new : Memory) : Type 0 where
  pub space : HasSameSpace old new
  pub others : KeepsOthers (range ∷ []) old new

-- no byte outside some ranges changes
pub record ChangesAmong (ranges : List Piece) (old new : Memory) : Type 0 where
  pub space : HasSameSpace old new
  pub others : KeepsOthers ranges old new

abbrev pub slot_area : Layout → ℕ → Piece
slot_area layout tag = area (place_of (list_of layout) tag) (2 * descriptor_size layout.wide)

abbrev pub table_area : Layout → ℕ → Piece
table_area layout tag = area (table_at layout tag) TABLE_BYTES

-- what stands between the descriptor of the piece before piece k and that of piece k: a link, or nothing
abbrev pub gap_area : Layout → (tag k : ℕ) → Piece
gap_area layout tag k =
    let from = row_at layout tag (k - 1) + descriptor_size layout.wide in area from (row_at layout tag k - from)

-- where the bytes of a job stand: a read finds the pieces of its data as they are
abbrev pub areas_of : Layout → ℕ → Job → List Piece
areas_of layout tag (Read sector blocks high) = slot_area layout tag ∷ table_area layout tag ∷ []
areas_of layout tag (Write sector blocks fill forced reliable high) =
    slot_area layout tag ∷ table_area layout tag ∷ tag_pieces layout tag blocks
areas_of layout tag _ = slot_area layout tag ∷ []

-- a tag's slot asks for what it asked for, and its pieces hold what they held
pub record KeepsTag (layout : Layout) (tag : ℕ) (old new : Memory) : Type 0 where
  pub job : (job : Job) (int : Bool) → Asks old layout tag job int → Asks new layout tag job int
  pub data_held : tag < layout.depth → (blocks k : ℕ) → blocks ≤ MOST_BLOCKS → k < blocks
      → block_of new (tag_pieces layout tag blocks) k ≡ block_of old (tag_pieces layout tag blocks) k

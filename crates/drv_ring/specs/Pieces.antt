-- The pieces of a tag's data, of 4,096 bytes each but the last.
use Rattle.std.specs.Prelude.{ℕ, ◌+◌, ◌-◌, ◌*◌, ◌/◌, min, List, map}
use Rattle.std.specs.List.{range_with_len}
use Rattle.cq_chain.specs.declared.pieces.Piece.{Piece}
use Rattle.drv_ring.specs.declared.places.Layout.{Layout}
use Rattle.drv_ring.specs.declared.places.TheConstants.{PIECE_BYTES}
use Rattle.drv_ring.specs.Layout.{piece_place}

-- how many pieces so many blocks have
abbrev pub piece_count : (blocks : ℕ) → ℕ
piece_count blocks = (512 * blocks + (PIECE_BYTES - 1)) / PIECE_BYTES

-- piece k of so many blocks has the lesser of 4,096 bytes and the rest
abbrev pub piece_at : Layout → (tag blocks k : ℕ) → Piece
piece_at layout tag blocks k = record {
  at = piece_place layout tag k;
  len = min PIECE_BYTES (512 * blocks - PIECE_BYTES * k);
}

-- the pieces of so many blocks, in order
unfoldable pub tag_pieces : Layout → (tag blocks : ℕ) → List Piece
tag_pieces layout tag blocks = map (piece_at layout tag blocks) (range_with_len 0 (piece_count blocks))

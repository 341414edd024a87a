-- The data of a task: the bytes of its pieces one after the other (JESD84-B51, annex B). Block k of it is the 512 bytes from
-- byte 512 k on.
use Rattle.std.specs.Prelude.{ℕ, ◌+◌, ◌-◌, ◌*◌, min, List, [], ◌∷◌, take, drop}
use Rattle.std.specs.List.{flat_map}
use Rattle.host_mem.specs.Memory.{Memory, bytes_of, with_bytes}
use Rattle.storage_model.specs.declared.block.Block.{Block}
use Rattle.cq_chain.specs.declared.pieces.Piece.{Piece}

unfoldable pub bytes_at : Memory → List Piece → List ℕ
bytes_at memory pieces = flat_map (λ piece. bytes_of memory piece.at piece.len) pieces

unfoldable pub block_of : Memory → List Piece → (k : ℕ) → Block
block_of memory pieces k = record { 0 = take 512 (drop (512 * k) (bytes_at memory pieces)) }

-- where `len` bytes of the data lie, from its byte `first` on: the part of each piece that has some of them; it may be empty
unfoldable pub parts : List Piece → (first len : ℕ) → List Piece
parts [] first len = []
parts (piece ∷ pieces) first len =
    record { at = piece.at + first; len = min (piece.len - first) len } ∷ parts pieces (first - piece.len) (len - (piece.len - first))

-- the memory after bytes were put into parts, one part after the other: where parts overlap, the later one's bytes stay
unfoldable pub scatter : Memory → (parts : List Piece) → List ℕ → Memory
scatter memory [] bytes = memory
scatter memory (part ∷ others) bytes = scatter (with_bytes memory part.at (take part.len bytes)) others (drop part.len bytes)

unfoldable pub with_block : Memory → List Piece → (k : ℕ) → Block → Memory
with_block memory pieces k block = scatter memory (parts pieces (512 * k) 512) block.0

-- What a write of bytes into pieces leaves, and what the pieces hold after it.
use Rattle.std.specs.Prelude.{◌≡◌, ◌≢◌, ◌<◌, ℕ, ◌+◌, List, length, All, AllPairs}
use Rattle.host_mem.specs.Memory.{Memory, HasRange, bytes_of}
use Rattle.storage_model.specs.declared.block.Block.{Block}
use Rattle.cq_chain.specs.declared.pieces.Piece.{Piece}
use Rattle.piece_data.specs.Data.{block_of}

-- the same addresses have a byte
pub record HasSameSpace (old new : Memory) : Type 0 where
  pub base : new.base ≡ old.base
  pub size : length new.bytes ≡ length old.bytes

-- no byte lies in both
abbrev pub IsApart : Piece → Piece → Type 0
IsApart one other = (i j : ℕ) → i < one.len → j < other.len → one.at + i ≢ other.at + j

-- every range that is apart from these parts has the bytes that it had
abbrev pub KeepsOthers : (parts : List Piece) → (old new : Memory) → Type 0
KeepsOthers parts old new = (range : Piece) → HasRange old range.at range.len → All (IsApart range) parts
    → bytes_of new range.at range.len ≡ bytes_of old range.at range.len

-- no two of the pieces have a byte in common
abbrev pub AreApart : List Piece → Type 0
AreApart pieces = AllPairs IsApart pieces

-- block k of the data is this one now, and every other block is what it was
pub record ChangesBlock (pieces : List Piece) (old new : Memory) (k : ℕ) (block : Block) : Type 0 where
  pub this : block_of new pieces k ≡ block
  pub others : (j : ℕ) → j ≢ k → block_of new pieces j ≡ block_of old pieces j

-- The forms of page 0, the superblock, and of page 1, the gate, of an image of version 1. Each form has one spelling, so
-- it is defined by what is written: 8 letters, numbers of 4 bytes with the lowest byte first, and zeros.
use Rattle.std.specs.Prelude.{◌≡◌, ◌≤◌, ℕ, zero, suc, ◌+◌, List, ◌++◌, codes, drop, replicate}
use Rattle.byteorder.specs.Endian.{little_number, little_bytes}
use Rattle.storage_model.specs.Granule.{granule}
use Rattle.storage_model.specs.declared.block.Block.{Block}
use Rattle.image_form.specs.declared.superblock.Super.{Super}
use Rattle.image_form.specs.declared.gate.Gate.{Gate}
use Rattle.image_form.specs.declared.gate.Gate.TheVariants.{Shut, Ajar}

-- a granule of 8 letters, two numbers, and zeros
unfoldable pub head_bytes : (letters : List ℕ) → (first second : ℕ) → List ℕ
head_bytes letters first second = letters ++ (little_bytes 4 first ++ (little_bytes 4 second ++ replicate 48 0))

-- a page of a granule, and zeros
unfoldable pub page_of : List ℕ → Block
page_of head = record { 0 = head ++ replicate 448 0 }

-- the number of 4 bytes at a place
unfoldable pub number_at : ℕ → List ℕ → ℕ
number_at at bytes = little_number 4 (drop at bytes)

unfoldable pub super_head : Super → List ℕ
super_head s = head_bytes (codes "CQMMCIMG") s.version s.sectors

-- what a gate holds: 0, or one more than the sector at which it is ajar
abbrev pub gate_number : Gate → ℕ
gate_number Shut = 0
gate_number (Ajar sector) = sector + 1

abbrev pub gate_numbered : ℕ → Gate
gate_numbered zero = Shut
gate_numbered (suc sector) = Ajar sector

unfoldable pub gate_head : ℕ → List ℕ
gate_head number = head_bytes (codes "CQMMGATE") number 0

-- the block is the superblock of an image of 1 to 65,536 sectors
pub record IsSuper (block : Block) (s : Super) : Type 0 where
  pub page : block ≡ page_of (super_head s)
  pub version : s.version ≡ 1
  pub some : 1 ≤ s.sectors
  pub most : s.sectors ≤ 65536

-- the block is a gate of an image of so many sectors; all but its first granule is ignored
pub record IsGate (block : Block) (sectors : ℕ) (gate : Gate) : Type 0 where
  pub head : granule block 0 ≡ gate_head (gate_number gate)
  pub within : gate_number gate ≤ sectors

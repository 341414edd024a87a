-- The pages of an image of version 1, and the sectors that they show. Page 0 is the superblock, page 1 the gate, page 2
-- the intent page, and sector s is page 8 + s. While the gate is ajar for a sector the intent page stands for it.
use Rattle.std.specs.Prelude.{◌≤◌, ℕ, ◌+◌, List, [], ◌∷◌, length, take, drop, slice_set}
pub use Rattle.storage_model.specs.Granule.{page_at}
use Rattle.storage_model.specs.Granule.{granule}
use Rattle.storage_model.specs.declared.block.Block.{Block}
use Rattle.image_form.specs.declared.gate.Gate.{Gate}
use Rattle.image_form.specs.declared.gate.Gate.TheVariants.{Shut, Ajar}
use Rattle.image_form.specs.Form.{IsSuper, IsGate, gate_numbered, number_at}

-- the number of sectors that the superblock tells
unfoldable pub sectors_of : List Block → ℕ
sectors_of pages = number_at 12 (page_at pages 0).0

-- the gate that the first granule of page 1 tells
unfoldable pub gate_at : List Block → Gate
gate_at pages = gate_numbered (number_at 8 (granule (page_at pages 1) 0))

pub record IsImage (pages : List Block) : Type 0 where
  pub superblock : IsSuper (page_at pages 0) (record { version = 1; sectors = sectors_of pages })
  pub gate : IsGate (page_at pages 1) (sectors_of pages) (gate_at pages)
  pub room : 8 + sectors_of pages ≤ length pages

-- the pages of the sectors
unfoldable pub stored : List Block → List Block
stored pages = take (sectors_of pages) (drop 8 pages)

-- the sectors, one of which may be in the intent page
abbrev pub seen : Gate → Block → List Block → List Block
seen Shut intent sectors = sectors
seen (Ajar sector) intent sectors = slice_set sectors sector intent

-- the sectors that an image shows
unfoldable pub shown : List Block → List Block
shown pages = seen (gate_at pages) (page_at pages 2) (stored pages)

-- a call on a page
pub data PageCall : Type 0 where
  Fetch : ℕ → PageCall
  Program : ℕ → PageCall

-- the calls that finish a gate, in their order
abbrev pub finishing : Gate → List PageCall
finishing Shut = []
finishing (Ajar sector) = Fetch 2 ∷ Program (8 + sector) ∷ Program 1 ∷ []

-- the calls of an opening, in their order, up to the first that fails or is cut
abbrev pub opening : Gate → List PageCall
opening gate = Fetch 0 ∷ Fetch 1 ∷ finishing gate

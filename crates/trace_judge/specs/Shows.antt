-- The contents that the pages of an image show.
use Rattle.std.specs.Prelude.{◌≡◌, ◌≤◌, ◌+◌, List, length}
use Rattle.image_form.specs.Form.{IsGate, IsSuper}
use Rattle.image_form.specs.Image.{IsImage, page_at, shown}
use Rattle.image_form.specs.declared.gate.Gate.{Gate}
use Rattle.image_form.specs.declared.superblock.Super.{Super}
use Rattle.storage_model.specs.declared.block.Block.{Block}

-- the pages are an image, and the contents are the sectors that it shows
pub record Shows (pages sectors : List Block) : Type 0 where
  pub image : IsImage pages
  pub same : sectors ≡ shown pages
  pub most : length sectors ≤ 65536

-- its first two pages, and room for its sectors
pub record AreForms (pages : List Block) (s : Super) (g : Gate) : Type 0 where
  pub superblock : IsSuper (page_at pages 0) s
  pub gate : IsGate (page_at pages 1) s.sectors g
  pub room : 8 + s.sectors ≤ length pages

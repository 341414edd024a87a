-- A sector or a page is 8 granules of 64 bytes, the units that a failing program leaves old or new.
use Rattle.std.specs.Prelude.{◌≡◌, ◌⊎◌, ℕ, ◌+◌, ◌*◌, ◌<◌, ◌==◌, if◌then◌else◌, List, [], slice_index_or}
use Rattle.std.specs.Int.{bit_at}
use Rattle.std.specs.List.{between}
use Rattle.storage_model.specs.declared.block.TheConstants.{GRANULES}
use Rattle.storage_model.specs.declared.block.Block.{Block}

-- granule k of a block
unfoldable pub granule : Block → ℕ → List ℕ
granule block k = between (64 * k) (64 * k + 64) block.0

-- each granule of what is left is old or new
pub record IsMix (old new left : Block) : Type 0 where
  pub each : (k : ℕ) → k < GRANULES → (granule left k ≡ granule old k) ⊎ (granule left k ≡ granule new k)

-- the granules of the mask are new, the others old
pub record IsMasked (mask : ℕ) (old new left : Block) : Type 0 where
  pub each : (k : ℕ) → k < GRANULES → granule left k ≡ granule (if bit_at mask k == 1 then new else old) k

-- page p of an array
abbrev pub page_at : List Block → ℕ → Block
page_at pages p = slice_index_or pages p (record { 0 = [] })

-- What a loss of power may leave of contents under marks. A reliable write leaves a sector old or new (JESD84-B51, reliable write);
-- ordinary writes of an epoch may mix by granules; and nothing of an epoch is left where an earlier one is not whole (the cache barrier).
use Rattle.std.specs.Prelude.{ℕ, zero, suc, ◌+◌, Bool, true, false, ◌&&◌, ◌||◌, if◌then◌else◌, List, [], ◌∷◌, ◌++◌, length, bytes_eq}
use Rattle.std.specs.List.{list_any}
use Rattle.storage_model.specs.Contents.{bars, before_epoch, puts_at, sector_at}
use Rattle.storage_model.specs.Granule.{granule}
use Rattle.storage_model.specs.declared.block.Block.{Block}
use Rattle.storage_model.specs.declared.block.TheConstants.{GRANULES}
use Rattle.storage_model.specs.declared.marks.Put.{Put}
use Rattle.storage_model.specs.declared.marks.Mark.{Mark}

-- the test passes at each number below n
abbrev pub every_below : ℕ → (ℕ → Bool) → Bool
every_below zero test = true
every_below (suc n) test = test n && every_below n test

-- the test passes at some number below n
abbrev pub some_below : ℕ → (ℕ → Bool) → Bool
some_below zero test = false
some_below (suc n) test = test n || some_below n test

-- granule g of two blocks is the same
unfoldable pub same_granule : ℕ → Block → Block → Bool
same_granule g v w = bytes_eq (granule v g) (granule w g)

-- granule g of w is that of one of the values
abbrev pub has_granule : List Block → Block → ℕ → Bool
has_granule values w g = list_any (λ v. same_granule g v w) values

-- each granule of w is that of one of the values
unfoldable pub is_mix : List Block → Block → Bool
is_mix values w = every_below GRANULES (has_granule values w)

-- The values of a sector in an epoch, from those at hand on, parted in front of each reliable put. The values of a segment may mix, those of two may not.
abbrev pub segments : List Block → List Put → List (List Block)
segments values [] = values ∷ []
segments values (put ∷ puts) = if put.reliable then values ∷ segments (put.value ∷ []) puts else segments (values ++ put.value ∷ []) puts

-- w is a mix of one segment
abbrev pub is_mix_of_segment : List (List Block) → Block → Bool
is_mix_of_segment parts w = list_any (λ values. is_mix values w) parts

-- where epoch e is the one that was being written, w may be left of sector s
unfoldable pub mix_at : List Block → List Mark → ℕ → ℕ → Block → Bool
mix_at base pend e s w = is_mix_of_segment (segments (sector_at (before_epoch e base pend) s ∷ []) (puts_at e s pend)) w

-- where epoch e is the one that was being written, each sector of `after` may be left
abbrev pub is_left_in : List Block → List Mark → List Block → ℕ → Bool
is_left_in base pend after e = every_below (length base) (λ s. mix_at base pend e s (sector_at after s))

-- `after` may be left: there is such an epoch
unfoldable pub is_left : List Block → List Mark → List Block → Bool
is_left base pend after = some_below (bars pend + 1) (is_left_in base pend after)

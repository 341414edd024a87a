-- The places of pending puts, which a cache has lines for: pairs of a sector and an epoch.
use Rattle.std.specs.Prelude.{ℕ, ◌+◌, ◌==◌, ◌&&◌, Bool, if◌then◌else◌, List, [], ◌∷◌}
use Rattle.std.specs.List.{list_any}
use Rattle.storage_model.specs.Contents.{EpochPut, numbered}
use Rattle.storage_model.specs.declared.marks.Mark.{Mark}

-- two puts have one place
abbrev pub is_same_place : EpochPut → EpochPut → Bool
is_same_place q r = (q.epoch == r.epoch) && (q.put.sector == r.put.sector)

-- the number of different places: a put counts where no later one has its place
abbrev pub count_different : List EpochPut → ℕ
count_different [] = 0
count_different (q ∷ later) = if list_any (is_same_place q) later then count_different later else count_different later + 1

-- the number of different pairs of sector and epoch that have a put
unfoldable pub places : List Mark → ℕ
places pend = count_different (numbered 0 pend)

-- What a cut leaves to be judged: the epochs that may be left, and whether the cache held all of them.
use Rattle.std.specs.Prelude.{ℕ, ◌+◌, ◌==◌, ◌&&◌, nat_lt, Bool, true, not, if◌then◌else◌, Option, Some, None, List, [], ◌∷◌, ◌++◌, fold, filter, length, slice_set}
use Rattle.std.specs.List.{list_any, range_with_len}
use Rattle.storage_machine.specs.declared.state.State.{State}
use Rattle.storage_model.specs.Contents.{EpochPut, bars, numbered}
use Rattle.storage_model.specs.Left.{mix_at}
use Rattle.storage_model.specs.declared.block.Block.{Block}
use Rattle.storage_model.specs.declared.marks.Mark.{Mark}

-- the flags after the line at this place was used
abbrev pub used : List Bool → Option ℕ → List Bool
used cuts None = cuts
used cuts (Some line) = slice_set cuts line true

-- the epochs, and those of them that allow one more value
unfoldable pub all_epochs : List Mark → List ℕ
all_epochs pend = range_with_len 0 (bars pend + 1)

unfoldable pub epochs_with : State → ℕ → Block → List ℕ
epochs_with s sector value = filter (λ epoch. mix_at s.base s.pend epoch sector value) s.epochs

-- the different pairs of epoch and sector that puts have, each a line of a cache
abbrev pub add_place : List (ℕ × ℕ) → EpochPut → List (ℕ × ℕ)
add_place places q =
    if list_any (λ place. (place.0 == q.epoch) && (place.1 == q.put.sector)) places then places else places ++ (q.epoch, q.put.sector) ∷ []

unfoldable pub places_of : List Mark → List (ℕ × ℕ)
places_of pend = fold add_place [] (numbered 0 pend)

-- Nothing of the cache was staged before the cut: the cache is on, no card event came and no phase that keeps, the cut wasn't
-- one of the last flush, and all lines had room.
abbrev pub is_deferred : State → Bool
is_deferred s = not s.plan.through && (not s.staged && (not s.kept && (s.worked && nat_lt (length (places_of s.pend)) s.plan.lines)))

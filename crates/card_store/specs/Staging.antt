-- What staging keeps.
use Rattle.std.specs.Prelude.{◌≡◌, ◌⊎◌, ◌+◌, ◌<◌, ◌≤◌, ◌==◌, ℕ, true, false, not, filter, [], ◌∷◌, ◌++◌, List, Result, Ok, OnOk, IsErrOf, is_some, length}
use Rattle.std.specs.List.{list_any}
use Rattle.storage_model.specs.declared.block.Block.{Block}
use Rattle.storage_model.specs.declared.marks.Put.{Put}
use Rattle.storage_model.specs.declared.marks.Mark.{Mark}
use Rattle.storage_model.specs.declared.marks.Mark.TheVariants.{Put as PutMark}
use Rattle.array_edge.specs.Array.{ArrayState}
use Rattle.intent_store.specs.Intent.{IntentStands, Known, StoreEnds, shown_by}
use Rattle.intent_store.specs.declared.ends.StoreEnd.{StoreEnd}
use Rattle.storage_model.specs.Keep.{is_named}
use Rattle.epoch_cache.specs.declared.line.Line.{Line}
use Rattle.epoch_cache.specs.Cache.{Cache, IsCache, is_of, lines_with}
use Rattle.storage_model.specs.Count.{Later, Rose}
use Rattle.card_store.specs.declared.ends.StageEnd.{StageEnd}
use Rattle.card_store.specs.declared.ends.StageEnd.TheVariants.{Flash as StageFlash, PowerLost as StagePowerLost}
use Rattle.card_store.specs.Stands.{AreWithin, LinesStand}

-- A cache, an intent store and an array.
pub record Holders : Type 0 where
  pub cache : Cache
  pub known : Known
  pub array : ArrayState

-- they fit together
pub record Fit (h : Holders) : Type 0 where
  pub is_cache : IsCache h.cache
  pub within : AreWithin h.known.sectors h.cache.lines
  pub stands : IntentStands h.known h.array

-- lines were staged: what the cache and the array stand for is the same
pub record IsStaged (old new : Holders) : Type 0 where
  pub fit : Fit new
  pub sectors : new.known.sectors ≡ old.known.sectors
  pub last : new.cache.last ≡ old.cache.last
  pub room : new.cache.room ≡ old.cache.room
  pub lines : (base : List Block) (pend : List Mark) → LinesStand old.cache (shown_by old.array) base pend → LinesStand new.cache (shown_by new.array) base pend

-- a call that ends well
abbrev pub well : Result (Unit {0}) StoreEnd
well = Ok tt

-- stagings that all ended well
pub record AreStaged (old new : Holders) : Type 0 where
  pub staged : IsStaged old new
  pub ends : StoreEnds old.array new.array well

-- a line is free, or the put's sector has one in the last epoch
abbrev pub HasRoom : Put → Cache → Type 0
HasRoom put cache = (length cache.lines < cache.room) ⊎ (list_any (is_of cache.last put.sector) cache.lines ≡ true)

-- no line is free, and the put's sector has none in the last epoch
abbrev pub IsFull : Put → Cache → Type 0
IsFull put cache = (cache.room ≤ length cache.lines) × (list_any (is_of cache.last put.sector) cache.lines ≡ false)

-- the put went into the sector's line of the last epoch, or into a new one
abbrev pub with_line : Put → Cache → Cache
with_line put cache = record cache { lines = lines_with cache.last put cache.lines }

-- the lines of the last epoch on other sectors than the `blocks` from `first` on
abbrev pub spared : (first blocks : ℕ) → Cache → List Line
spared first blocks cache =
    filter (λ line. not (is_named first blocks line.sector)) (filter (λ line. line.epoch == cache.last) cache.lines)

-- the array but for its faults, and for what is settled
abbrev pub only_settled : (old new : ArrayState) → ArrayState
only_settled old new = record old { faults = new.faults; settled = new.settled }

-- what the cache and the array stand for has the put at its end
abbrev pub Places : Put → Cache → ArrayState → Cache → ArrayState → Type 0
Places put old_cache old_array cache array = (base : List Block) (pend : List Mark) → put.sector < length base
    → LinesStand old_cache (shown_by old_array) base pend → LinesStand cache (shown_by array) base (pend ++ PutMark put ∷ [])

-- How a staging ends. An array that tells its pages goes on telling them, and one that doesn't tells none. Counts don't fall,
-- and rise by one at most. `Flash` is told only where the array failed in this call and was not cut, `PowerLost` only where the power was cut in this
-- call or was off, and the array did not fail. A call that ends well neither failed nor was cut.
pub record StageEnds (old new : ArrayState) (result : Result (Unit {0}) StageEnd) : Type 0 where
  pub count : new.count ≡ old.count
  pub tells : is_some new.told ≡ is_some old.told
  pub faults : Later old.faults new.faults
  pub cuts : Later old.cuts new.cuts
  pub ok : OnOk result (new.powered ≡ old.powered)
  pub calm : OnOk result ((new.faults ≡ old.faults) × (new.cuts ≡ old.cuts))
  pub flash : IsErrOf result StageFlash → Rose old.faults new.faults × (old.powered ≡ true) × (new.powered ≡ true)
  pub uncut : IsErrOf result StageFlash → new.cuts ≡ old.cuts
  pub lost : IsErrOf result StagePowerLost → (Rose old.cuts new.cuts ⊎ (old.powered ≡ false)) × (new.powered ≡ false)
  pub unfailed : IsErrOf result StagePowerLost → new.faults ≡ old.faults
  pub failed_once : new.faults.value ≤ old.faults.value + 1
  pub cut_once : new.cuts.value ≤ old.cuts.value + 1

-- What a store of a card is seen as, and what it and an array stand for.
use Rattle.std.specs.Prelude.{◌≡◌, ℕ, ◌+◌, ◌<◌, ◌≤◌, ◌==◌, Bool, true, false, if◌then◌else◌, nat_lt, List, [], ◌∷◌, ◌++◌, Option, Some, None, IfSome, MatchOption, option_map, length, slice_index_or}
use Rattle.std.specs.List.{list_any}
use Rattle.storage_model.specs.Contents.{bars, contents_now, puts_at, sector_at}
use Rattle.storage_model.specs.Keep.{keep_base, keep_pend}
use Rattle.storage_model.specs.declared.block.Block.{Block}
use Rattle.storage_model.specs.declared.marks.Put.{Put}
use Rattle.storage_model.specs.declared.marks.Mark.{Mark}
use Rattle.storage_model.specs.declared.marks.Mark.TheVariants.{Put as PutMark, Bar}
use Rattle.array_edge.specs.Array.{ArrayState}
use Rattle.intent_store.specs.Intent.{IntentStands, Known, shown_by}
use Rattle.epoch_cache.specs.Cache.{Cache, IsCache}
use Rattle.card_store.specs.Stands.{AreWithin, LinesStand}

-- A cache, what is known of the image since it was opened, and for each sector whether a put on it is pending, and whether
-- one came in the last epoch.
pub record Store : Type 0 where
  pub cache : Cache
  pub known : Option Known
  pub pending : List Bool
  pub latest : List Bool

-- what is so of every store
pub record IsStore (store : Store) : Type 0 where
  pub cache : IsCache store.cache
  pub room : 1 ≤ store.cache.room
  pub within : IfSome store.known (λ known. AreWithin known.sectors store.cache.lines)
  pub most : IfSome store.known (λ known. known.sectors ≤ 65536)

-- its image is open, and its intent stands on the array
abbrev pub IsOpen : Store → ArrayState → Type 0
IsOpen store array = MatchOption store.known ⊥ (λ known. IntentStands known array)

-- the number of sectors of the image that is open
abbrev pub sectors_of : Store → Option ℕ
sectors_of store = option_map (λ known. known.sectors) store.known

-- a sector of the image that is open
abbrev pub HasSector : Store → ℕ → Type 0
HasSector store s = MatchOption (sectors_of store) ⊥ (λ sectors. s < sectors)

-- sectors from `first` on, as many as `blocks`, of the image that is open
abbrev pub HasSectors : Store → ℕ → ℕ → Type 0
HasSectors store first blocks = MatchOption (sectors_of store) ⊥ (λ sectors. first + blocks ≤ sectors)

-- contents, and marks over them
pub record Contents : Type 0 where
  pub base : List Block
  pub pend : List Mark

abbrev pub is_put_on : ℕ → Mark → Bool
is_put_on s (PutMark put) = put.sector == s
is_put_on s Bar = false

-- whether a sector has a put, and whether it has one in the last epoch
abbrev pub has_put : ℕ → List Mark → Bool
has_put s pend = list_any (is_put_on s) pend

abbrev pub has_last_put : ℕ → List Mark → Bool
has_last_put s pend = nat_lt 0 (length (puts_at (bars pend) s pend))

-- of which sectors a list says so
pub record Says (list : List Bool) (has : ℕ → Bool) : Type 0 where
  pub each : (s : ℕ) → s < 65536 → slice_index_or list s false ≡ has s

-- The first sector from `from` on, and in front of `end`, that has it. None has it where there is none.
abbrev pub IsFirstFrom : (ℕ → Bool) → (from end : ℕ) → Option ℕ → Type 0
IsFirstFrom has from end (Some s) = (from ≤ s) × (s < end) × (has s ≡ true) × ((k : ℕ) → from ≤ k → k < s → has k ≡ false)
IsFirstFrom has from end None = (k : ℕ) → from ≤ k → k < end → has k ≡ false

-- of no sector
abbrev pub none : ℕ → Bool
none s = false

-- A store and an array stand for contents and marks.
pub record Stands (c : Contents) (store : Store) (array : ArrayState) : Type 0 where
  pub sectors : sectors_of store ≡ Some (length c.base)
  pub lines : LinesStand store.cache (shown_by array) c.base c.pend
  pub pending : Says store.pending (λ s. has_put s c.pend)
  pub latest : Says store.latest (λ s. has_last_put s c.pend)

-- Whatever a store and an array stand for before, they stand for what f makes of it after.
abbrev pub Turns : (Contents → Contents) → Store → ArrayState → Store → ArrayState → Type 0
Turns f old_store old_array store array = (c : Contents) → Stands c old_store old_array → Stands (f c) store array

abbrev pub same : Contents → Contents
same c = c

abbrev pub with_put : Put → Contents → Contents
with_put put c = record { base = c.base; pend = c.pend ++ PutMark put ∷ [] }

-- a barrier, but none once the last epoch that has a number began
abbrev pub with_bar : ℕ → Contents → Contents
with_bar last c = if last == 4294967295 then c else record { base = c.base; pend = c.pend ++ Bar ∷ [] }

abbrev pub kept : (ℕ → Bool) → Contents → Contents
kept named c = record { base = keep_base named c.base c.pend; pend = keep_pend named c.pend }

-- the image that is open, and how many lines fit, stay
pub record IsSameStore (old new : Store) : Type 0 where
  pub sectors : sectors_of new ≡ sectors_of old
  pub last : new.cache.last ≡ old.cache.last
  pub room : new.cache.room ≡ old.cache.room

-- the value is that of the sector now, whatever the store and an array that tells its pages stand for
abbrev pub Reads : Store → ArrayState → ℕ → Block → Type 0
Reads store array s value = (c : Contents) → Stands c store array → IfSome (shown_by array) (λ _. value ≡ sector_at (contents_now c.base c.pend) s)

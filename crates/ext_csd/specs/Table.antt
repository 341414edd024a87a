-- The table of the extended CSD's fields (JESD84-B51, section 7.4; in Linux EXT_CSD_CMDQ_MODE_EN and so on).
use Rattle.std.specs.Prelude.{ℕ, Bool, true, false, List, [], ◌∷◌, codes}
use Rattle.ext_csd.specs.declared.field.Field.{Field}
use Rattle.ext_csd.specs.declared.field.Field.TheVariants.{CmdqModeEn, BarrierCtrl, FlushCache, CacheCtrl, DataSectorSize, UseNativeSector, NativeSectorSize, WrRelParam, WrRelSet, ExtCsdRev, SecCount, RelWrSecC, CacheFlushPolicy, CacheSize as CacheSizeField, CmdqDepth, CmdqSupport, BarrierSupport}
use Rattle.ext_csd.specs.declared.field.Row.{Row}
use Rattle.ext_csd.specs.declared.field.Reading.{Reading}
use Rattle.ext_csd.specs.declared.field.Reading.TheVariants.{Fixed, CommandQueue, Barrier, Cache, Sectors, CacheSize, QueueDepth}

-- the first byte of a field, its bytes, what it reads as, and whether a SWITCH may write it
abbrev pub row : ℕ → ℕ → Reading → Bool → Row
row index width reads writable = record { index = index; width = width; reads = reads; writable = writable }

-- the row of a field
unfoldable pub row_of : Field → Row
row_of CmdqModeEn = row 15 1 CommandQueue true
row_of BarrierCtrl = row 31 1 Barrier true
row_of FlushCache = row 32 1 (Fixed 0) true
row_of CacheCtrl = row 33 1 Cache true
row_of DataSectorSize = row 61 1 (Fixed 0) false
row_of UseNativeSector = row 62 1 (Fixed 0) false
row_of NativeSectorSize = row 63 1 (Fixed 0) false
row_of WrRelParam = row 166 1 (Fixed 4) false
row_of WrRelSet = row 167 1 (Fixed 0) false
row_of ExtCsdRev = row 192 1 (Fixed 8) false
row_of SecCount = row 212 4 Sectors false
row_of RelWrSecC = row 222 1 (Fixed 1) false
row_of CacheFlushPolicy = row 240 1 (Fixed 0) false
row_of CacheSizeField = row 249 4 CacheSize false
row_of CmdqDepth = row 307 1 QueueDepth false
row_of CmdqSupport = row 308 1 (Fixed 1) false
row_of BarrierSupport = row 486 1 (Fixed 1) false

-- the name of a field in the standard
unfoldable pub name_of : Field → List ℕ
name_of CmdqModeEn = codes "CMDQ_MODE_EN"
name_of BarrierCtrl = codes "BARRIER_CTRL"
name_of FlushCache = codes "FLUSH_CACHE"
name_of CacheCtrl = codes "CACHE_CTRL"
name_of DataSectorSize = codes "DATA_SECTOR_SIZE"
name_of UseNativeSector = codes "USE_NATIVE_SECTOR"
name_of NativeSectorSize = codes "NATIVE_SECTOR_SIZE"
name_of WrRelParam = codes "WR_REL_PARAM"
name_of WrRelSet = codes "WR_REL_SET"
name_of ExtCsdRev = codes "EXT_CSD_REV"
name_of SecCount = codes "SEC_COUNT"
name_of RelWrSecC = codes "REL_WR_SEC_C"
name_of CacheFlushPolicy = codes "CACHE_FLUSH_POLICY"
name_of CacheSizeField = codes "CACHE_SIZE"
name_of CmdqDepth = codes "CMDQ_DEPTH"
name_of CmdqSupport = codes "CMDQ_SUPPORT"
name_of BarrierSupport = codes "BARRIER_SUPPORT"

-- the fields, in the order of the table
abbrev pub all_fields : List Field
all_fields =
    CmdqModeEn ∷ BarrierCtrl ∷ FlushCache ∷ CacheCtrl ∷ DataSectorSize ∷ UseNativeSector ∷ NativeSectorSize ∷
    WrRelParam ∷ WrRelSet ∷ ExtCsdRev ∷ SecCount ∷ RelWrSecC ∷ CacheFlushPolicy ∷ CacheSizeField ∷ CmdqDepth ∷
    CmdqSupport ∷ BarrierSupport ∷ []

-- the place of a field in the table, from 0
abbrev pub place : Field → ℕ
place CmdqModeEn = 0
place BarrierCtrl = 1
place FlushCache = 2
place CacheCtrl = 3
place DataSectorSize = 4
place UseNativeSector = 5
place NativeSectorSize = 6
place WrRelParam = 7
place WrRelSet = 8
place ExtCsdRev = 9
place SecCount = 10
place RelWrSecC = 11
place CacheFlushPolicy = 12
place CacheSizeField = 13
place CmdqDepth = 14
place CmdqSupport = 15
place BarrierSupport = 16

-- The names of the fields fit in a line.
use Rattle.std.proofs.Common.{◌≤◌, length, lit≤}
use Rattle.ext_csd.specs.declared.field.Field.{Field}
use Rattle.ext_csd.specs.declared.field.Field.TheVariants.{CmdqModeEn, BarrierCtrl, FlushCache, CacheCtrl, DataSectorSize, UseNativeSector, NativeSectorSize, WrRelParam, WrRelSet, ExtCsdRev, SecCount, RelWrSecC, CacheFlushPolicy, CacheSize, CmdqDepth, CmdqSupport, BarrierSupport}
use Rattle.ext_csd.specs.Table.{name_of}

pub short_name : (field : Field) → length (name_of field) ≤ 20
unfolding name_of
short_name CmdqModeEn = lit≤ tt
short_name BarrierCtrl = lit≤ tt
short_name FlushCache = lit≤ tt
short_name CacheCtrl = lit≤ tt
short_name DataSectorSize = lit≤ tt
short_name UseNativeSector = lit≤ tt
short_name NativeSectorSize = lit≤ tt
short_name WrRelParam = lit≤ tt
short_name WrRelSet = lit≤ tt
short_name ExtCsdRev = lit≤ tt
short_name SecCount = lit≤ tt
short_name RelWrSecC = lit≤ tt
short_name CacheFlushPolicy = lit≤ tt
short_name CacheSize = lit≤ tt
short_name CmdqDepth = lit≤ tt
short_name CmdqSupport = lit≤ tt
short_name BarrierSupport = lit≤ tt

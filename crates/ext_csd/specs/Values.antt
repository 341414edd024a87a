-- What the fields of the extended CSD read as (JESD84-B51, section 7.4).
use Rattle.std.specs.Prelude.{ℕ, ◌*◌, ◌-◌, Bool, false, if◌then◌else◌}
use Rattle.ext_csd.specs.declared.csd.ExtCsd.{ExtCsd}
use Rattle.ext_csd.specs.declared.field.Field.{Field}
use Rattle.ext_csd.specs.declared.field.Reading.{Reading}
use Rattle.ext_csd.specs.declared.field.Reading.TheVariants.{Fixed, CommandQueue, Barrier, Cache, Sectors, CacheSize, QueueDepth}
use Rattle.ext_csd.specs.Table.{row_of}

-- 1 for on, 0 for off
abbrev pub flag : Bool → ℕ
flag on = if on then 1 else 0

-- what stands where the table says so
abbrev pub reads_as : ExtCsd → Reading → ℕ
reads_as csd (Fixed value) = value
reads_as csd CommandQueue = flag csd.command_queue
reads_as csd Barrier = flag csd.barrier
reads_as csd Cache = flag csd.cache
reads_as csd Sectors = csd.sectors
reads_as csd CacheSize = 4 * csd.lines
reads_as csd QueueDepth = csd.last_task

-- what a field reads as
abbrev pub value_of : ExtCsd → Field → ℕ
value_of csd field = reads_as csd (row_of field).reads

-- after power-on: all that a SWITCH can turn on is off
abbrev pub fresh : (sectors depth lines : ℕ) → ExtCsd
fresh sectors depth lines = record {
  sectors = sectors;
  last_task = depth - 1;
  lines = lines;
  command_queue = false;
  barrier = false;
  cache = false;
}

-- after a loss of power
abbrev pub powered_off : ExtCsd → ExtCsd
powered_off csd = record csd { command_queue = false; barrier = false; cache = false }

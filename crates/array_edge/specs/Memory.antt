-- An array in memory. Exactly the listed calls fail or are cut.
use Rattle.std.specs.Prelude.{◌≡◌, ℕ, Bool, false, List, Option, Some, None, Result, Ok, Err, if◌then◌else◌, length, slice_set}
use Rattle.storage_model.specs.Count.{count_of}
use Rattle.storage_model.specs.Granule.{IsMasked}
use Rattle.storage_model.specs.declared.block.Block.{Block}
use Rattle.storage_model.specs.declared.faults.ArrayHit.{ArrayHit}
use Rattle.array_edge.specs.Array.{ArrayState, page_at}
use Rattle.array_edge.specs.Hits.{raised}
use Rattle.array_edge.specs.declared.array.ArrayEnd.{ArrayEnd}
use Rattle.array_edge.specs.declared.array.ArrayEnd.TheVariants.{Failed, PowerLost}

-- the pages, the faults to come, and the counters
pub record Memory : Type 0 where
  pub pages : List Block
  pub hits : List ArrayHit
  pub powered : Bool
  pub faults : ℕ
  pub cuts : ℕ
  pub programs : ℕ
  pub fetches : ℕ
  pub settled : Bool

-- what it is as an array: all its pages are told
abbrev pub array_of : Memory → ArrayState
array_of m = record { told = Some m.pages; count = length m.pages; powered = m.powered; faults = count_of m.faults; cuts = count_of m.cuts; programs = count_of m.programs; fetches = count_of m.fetches; settled = m.settled }

-- a fetch with the power on, by the fault of its call number
abbrev pub MemoryFetched : Option ArrayHit → Memory → Memory → Result (Unit {0}) ArrayEnd → Type 0
MemoryFetched None old new result = (result ≡ Ok tt) × (new ≡ record old { fetches = raised old.fetches })
MemoryFetched (Some hit) old new result = (result ≡ Err Failed) × (new ≡ record old { fetches = raised old.fetches; faults = raised old.faults })

-- the memory after a program that left this block, and failed or was cut
abbrev pub after_fault : ArrayHit → Memory → ℕ → Block → Memory
after_fault hit m page left =
    if hit.cut
    then record m { pages = slice_set m.pages page left; programs = raised m.programs; cuts = raised m.cuts; powered = false; settled = false }
    else record m { pages = slice_set m.pages page left; programs = raised m.programs; faults = raised m.faults; settled = false }

-- a program with the power on, by the fault of its call number
abbrev pub MemoryProgrammed : Option ArrayHit → Memory → ℕ → Block → Memory → Result (Unit {0}) ArrayEnd → Type 0
MemoryProgrammed None old page block new result = (result ≡ Ok tt) × (new ≡ record old { pages = slice_set old.pages page block; programs = raised old.programs; settled = false })
MemoryProgrammed (Some hit) old page block new result =
    (left : Block) × (result ≡ Err (if hit.cut then PowerLost else Failed)) × (new ≡ after_fault hit old page left) × IsMasked hit.mask (page_at old.pages page) block left

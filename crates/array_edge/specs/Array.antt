-- What an array of flash pages stands for, and what its calls do to it.
use Rattle.std.specs.Prelude.{◌≡◌, ◌⊎◌, ◌||◌, ◌+◌, ◌≤◌, ℕ, Bool, true, false, List, [], Option, IfSome, Result, Ok, Err, is_ok, IsErrOf, OnOk, OnErr, option_map, slice_index_or, slice_set}
use Rattle.storage_model.specs.Count.{Count, Later, RaisedByOne, Rose}
pub use Rattle.storage_model.specs.Granule.{page_at}
use Rattle.storage_model.specs.Granule.{IsMix}
use Rattle.storage_model.specs.declared.block.Block.{Block}
use Rattle.array_edge.specs.declared.array.ArrayEnd.{ArrayEnd}
use Rattle.array_edge.specs.declared.array.ArrayEnd.TheVariants.{Failed, PowerLost}

-- `told`: the pages, where the array tells them. `programs` and `fetches` number the calls made with the power on.
-- `settled`: what was programmed is durable. It is false of an array that was not settled yet.
pub record ArrayState : Type 0 where
  pub told : Option (List Block)
  pub count : ℕ
  pub powered : Bool
  pub faults : Count
  pub cuts : Count
  pub programs : Count
  pub fetches : Count
  pub settled : Bool

-- the pages with another block at one place
abbrev pub with_page : Option (List Block) → ℕ → Block → Option (List Block)
with_page told page block = option_map (λ pages. slice_set pages page block) told

-- the block is that page, where pages are told
abbrev pub HasPage : Option (List Block) → ℕ → Block → Type 0
HasPage told page block = IfSome told (λ pages. block ≡ page_at pages page)

-- each granule of that page is old or new, and the other pages are as they were
pub record IsTorn (old : Option (List Block)) (page : ℕ) (block : Block) (new : Option (List Block)) : Type 0 where
  pub left : Block
  pub mix : IfSome old (λ pages. IsMix (page_at pages page) block left)
  pub told : new ≡ with_page old page left

-- How a call ends. Counts don't fall, and none of a call's failures and cuts is counted twice. `Failed` is told only where the
-- array failed in this call and was not cut, `PowerLost` only where the power was off or was cut in this call, and the array did
-- not fail. A call that ends well neither failed nor was cut. With the power off nothing changes.
pub record Ends (old new : ArrayState) (result : Result (Unit {0}) ArrayEnd) : Type 0 where
  pub faults : Later old.faults new.faults
  pub cuts : Later old.cuts new.cuts
  pub programs : Later old.programs new.programs
  pub fetches : Later old.fetches new.fetches
  pub ok : OnOk result (new.powered ≡ old.powered)
  pub calm : OnOk result ((new.faults ≡ old.faults) × (new.cuts ≡ old.cuts))
  pub failed : IsErrOf result Failed → Rose old.faults new.faults × (new.powered ≡ old.powered)
  pub uncut : IsErrOf result Failed → new.cuts ≡ old.cuts
  pub lost : IsErrOf result PowerLost → (Rose old.cuts new.cuts ⊎ (old.powered ≡ false)) × (new.powered ≡ false)
  pub unfailed : IsErrOf result PowerLost → new.faults ≡ old.faults
  pub failed_once : new.faults.value ≤ old.faults.value + 1
  pub cut_once : new.cuts.value ≤ old.cuts.value + 1
  pub off : old.powered ≡ false → (result ≡ Err PowerLost) × (new ≡ old)

-- After a program the array is not settled, but where it failed before it wrote anything: then it stands as it was.
abbrev pub IsUnsettled : ArrayState → ArrayState → Result (Unit {0}) ArrayEnd → Type 0
IsUnsettled old new (Ok done) = new.settled ≡ false
IsUnsettled old new (Err end) = new.settled ≡ true → (old.settled ≡ true) × (new.told ≡ old.told)

-- what a fetch does
pub record Fetched (old : ArrayState) (page : ℕ) (block : Block) (new : ArrayState) (result : Result (Unit {0}) ArrayEnd) : Type 0 where
  pub read : OnOk result (HasPage old.told page block)
  pub same : new ≡ record old { faults = new.faults; fetches = new.fetches }
  pub number : old.powered ≡ true → RaisedByOne old.fetches new.fetches
  pub ends : Ends old new result

-- what a program does
pub record Programmed (old : ArrayState) (page : ℕ) (block : Block) (new : ArrayState) (result : Result (Unit {0}) ArrayEnd) : Type 0 where
  pub written : OnOk result (new.told ≡ with_page old.told page block)
  pub torn : OnErr result (IsTorn old.told page block new.told)
  pub same : new ≡ record new { count = old.count; fetches = old.fetches }
  pub unsettled : IsUnsettled old new result
  pub number : old.powered ≡ true → RaisedByOne old.programs new.programs
  pub ends : Ends old new result

-- what making it durable does: the array is settled where that ends well, and else as it was
pub record Settled (old new : ArrayState) (result : Result (Unit {0}) ArrayEnd) : Type 0 where
  pub same : new ≡ record old { faults = new.faults; settled = is_ok result || old.settled }
  pub ends : Ends old new result

-- What an intent store knows of an image, what an array shows through it, and how its calls end.
use Rattle.std.specs.Prelude.{◌≡◌, ◌⊎◌, ◌≤◌, ℕ, ◌+◌, true, false, List, Option, IfSome, Result, Err, IsErrOf, OnOk, is_some, option_map}
use Rattle.storage_model.specs.Count.{Later, Rose}
use Rattle.storage_model.specs.declared.block.Block.{Block}
use Rattle.array_edge.specs.Array.{ArrayState, with_page}
use Rattle.image_form.specs.declared.gate.Gate.{Gate}
use Rattle.image_form.specs.Image.{IsImage, sectors_of, gate_at, shown}
use Rattle.intent_store.specs.declared.ends.StartEnd.{StartEnd}
use Rattle.intent_store.specs.declared.ends.StartEnd.TheVariants.{Flash as StartFlash, PowerLost as StartPowerLost, BadImage}
use Rattle.intent_store.specs.declared.ends.StoreEnd.{StoreEnd}
use Rattle.intent_store.specs.declared.ends.StoreEnd.TheVariants.{Flash, PowerLost}

-- the sectors that an array shows, where its pages are told
abbrev pub shown_by : ArrayState → Option (List Block)
shown_by array = option_map shown array.told

-- what is known of an image: how many sectors it has, and its gate, which is None while it is in doubt
pub record Known : Type 0 where
  pub sectors : ℕ
  pub gate : Option Gate

-- the pages are an image of which this is known
pub record IsKnown (known : Known) (pages : List Block) : Type 0 where
  pub image : IsImage pages
  pub sectors : sectors_of pages ≡ known.sectors
  pub gate : IfSome known.gate (λ gate. gate_at pages ≡ gate)

-- The intent store stands on the array: the array has enough pages, and where it tells them they are what is known.
pub record IntentStands (known : Known) (array : ArrayState) : Type 0 where
  pub room : 8 + known.sectors ≤ array.count
  pub told : IfSome array.told (IsKnown known)

-- what is shown is the old sectors, or the old with one of them new
abbrev pub IsOldOrNew : Option (List Block) → ℕ → Block → Option (List Block) → Type 0
IsOldOrNew old sector block new = (new ≡ old) ⊎ (new ≡ with_page old sector block)

-- How a call of an intent store ends. An array that tells its pages goes on telling them, and one that doesn't tells none.
-- Counts don't fall, and rise by one at most. `Flash` is told only where the array failed in this call and was not cut,
-- `PowerLost` only where the power was cut in this call or was off, and the array did not fail. A call that ends well neither
-- failed nor was cut.
pub record StoreEnds {T : Type 0} (old new : ArrayState) (result : Result T StoreEnd) : Type 0 where
  pub count : new.count ≡ old.count
  pub tells : is_some new.told ≡ is_some old.told
  pub faults : Later old.faults new.faults
  pub cuts : Later old.cuts new.cuts
  pub ok : OnOk result (new.powered ≡ old.powered)
  pub calm : OnOk result ((new.faults ≡ old.faults) × (new.cuts ≡ old.cuts))
  pub flash : IsErrOf result Flash → Rose old.faults new.faults × (old.powered ≡ true) × (new.powered ≡ true)
  pub uncut : IsErrOf result Flash → new.cuts ≡ old.cuts
  pub lost : IsErrOf result PowerLost → (Rose old.cuts new.cuts ⊎ (old.powered ≡ false)) × (new.powered ≡ false)
  pub unfailed : IsErrOf result PowerLost → new.faults ≡ old.faults
  pub failed_once : new.faults.value ≤ old.faults.value + 1
  pub cut_once : new.cuts.value ≤ old.cuts.value + 1

-- an opening hands on why a call of it ended
abbrev pub start_end : StoreEnd → StartEnd
start_end Flash = StartFlash
start_end PowerLost = StartPowerLost

-- How an opening ends. It begins with the power on. An array that tells its pages goes on telling them, and one that doesn't
-- tells none. Counts don't fall, and rise by one at most. `Flash` is told only where the array failed in this call and was not cut, `PowerLost` only
-- where it was cut and did not fail; else it neither failed nor was cut.
pub record StartEnds {T : Type 0} (old new : ArrayState) (result : Result T StartEnd) : Type 0 where
  pub count : new.count ≡ old.count
  pub tells : is_some new.told ≡ is_some old.told
  pub faults : Later old.faults new.faults
  pub cuts : Later old.cuts new.cuts
  pub ok : OnOk result (new.powered ≡ true)
  pub calm : OnOk result ((new.faults ≡ old.faults) × (new.cuts ≡ old.cuts))
  pub flash : IsErrOf result StartFlash → Rose old.faults new.faults × (new.powered ≡ true)
  pub uncut : IsErrOf result StartFlash → new.cuts ≡ old.cuts
  pub lost : IsErrOf result StartPowerLost → Rose old.cuts new.cuts × (new.powered ≡ false)
  pub unfailed : IsErrOf result StartPowerLost → new.faults ≡ old.faults
  pub failed_once : new.faults.value ≤ old.faults.value + 1
  pub cut_once : new.cuts.value ≤ old.cuts.value + 1
  pub bad : IsErrOf result BadImage → (new.powered ≡ true) × (new.faults ≡ old.faults) × (new.cuts ≡ old.cuts)

-- the array shows an image, where it tells its pages
abbrev pub ShowsImage : ArrayState → Type 0
ShowsImage array = IfSome array.told IsImage

-- the pages, where they are told, are no image
abbrev pub IsNoImage : ArrayState → Type 0
IsNoImage array = IfSome array.told (λ pages. IsImage pages → ⊥)

-- with the power off nothing is done
abbrev pub IsRefusedOff : ArrayState → ArrayState → Result (Unit {0}) StoreEnd → Type 0
IsRefusedOff old new result = old.powered ≡ false → (result ≡ Err PowerLost) × (new ≡ old)

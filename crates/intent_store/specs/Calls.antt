-- The calls on pages that an opening, a program and a read make, each with what it counts and how it ends.
use Rattle.std.specs.Prelude.{◌≡◌, ℕ, ◌+◌, ◌<◌, Bool, true, false, List, [], ◌∷◌, ◌++◌, Option, Some, None, IfSome, Result, Ok, Err, IsErrOf, OnOk, is_ok}
use Rattle.storage_model.specs.Count.{RaisedByOne}
use Rattle.storage_model.specs.declared.block.Block.{Block}
use Rattle.array_edge.specs.Array.{ArrayState}
use Rattle.image_form.specs.declared.gate.Gate.{Gate}
use Rattle.image_form.specs.Image.{PageCall, Fetch, IsImage, Program, finishing, gate_at, opening}
use Rattle.intent_store.specs.declared.ends.StartEnd.{StartEnd}
use Rattle.intent_store.specs.declared.ends.StartEnd.TheVariants.{BadImage, PowerLost}
use Rattle.intent_store.specs.declared.ends.StoreEnd.{StoreEnd}
use Rattle.intent_store.specs.Intent.{StartEnds, StoreEnds}
use Rattle.intent_store.specs.Steps.{IsWritten, place_of}

-- a program of a page with some block
pub record IsProgram (page : ℕ) (old new : ArrayState) (result : Result (Unit {0}) StoreEnd) : Type 0 where
  pub block : Block
  pub written : IsWritten old.told page block new.told result
  pub number : RaisedByOne old.programs new.programs
  pub fetches : new.fetches ≡ old.fetches
  pub unsettled : OnOk result (new.settled ≡ false)

-- a fetch of a page, which changes two counts at most
pub record IsFetch (page : ℕ) (old new : ArrayState) (result : Result (Unit {0}) StoreEnd) : Type 0 where
  pub same : new ≡ record old { faults = new.faults; fetches = new.fetches }
  pub number : RaisedByOne old.fetches new.fetches

abbrev pub IsOf : PageCall → ArrayState → ArrayState → Result (Unit {0}) StoreEnd → Type 0
IsOf (Fetch page) old new result = IsFetch page old new result
IsOf (Program page) old new result = IsProgram page old new result

-- a call with the power on
pub record IsCall (call : PageCall) (old new : ArrayState) (result : Result (Unit {0}) StoreEnd) : Type 0 where
  pub on : old.powered ≡ true
  pub is : IsOf call old new result
  pub ends : StoreEnds old new result

-- The calls are made in their order, up to the first that fails or is cut; and whether all ended well.
pub data Makes : List PageCall → ArrayState → ArrayState → Bool → Type 0 where
  none : (array : ArrayState) → Makes [] array array true
  last : (call : PageCall) (calls : List PageCall) (old new : ArrayState) (end : StoreEnd) → IsCall call old new (Err end)
      → Makes (call ∷ calls) old new false
  more : (call : PageCall) (calls : List PageCall) (old middle new : ArrayState) (ok : Bool) → IsCall call old middle (Ok tt)
      → Makes calls middle new ok → Makes (call ∷ calls) old new ok

-- an array that tells the pages of an image is opened by the calls of an opening, or by the first of them
abbrev pub Opens : ArrayState → ArrayState → Bool → Type 0
Opens old new ok = IfSome old.told (λ pages. IsImage pages → Makes (opening (gate_at pages)) old new ok)

-- one opening, which switches the power on
pub record IsStart {T : Type 0} (old new : ArrayState) (result : Result T StartEnd) : Type 0 where
  pub ends : StartEnds old new result
  pub calls : Opens (record old { powered = true }) new (is_ok result)
  pub few : old.count < 2 → IsErrOf result BadImage × (new ≡ record old { powered = true })

-- so many openings one after the other, each of them cut
pub data AreCut : ℕ → ArrayState → ArrayState → Type 0 where
  none_cut : (array : ArrayState) → AreCut 0 array array
  one_cut : (cuts : ℕ) (old middle new : ArrayState) (end : Result (Unit {0}) StartEnd) → AreCut cuts old middle → IsErrOf end PowerLost → IsStart middle new end
      → AreCut (cuts + 1) old new

-- An opening that begins again after a cut, at most so many openings in all: each but the last was cut, and the last was
-- not, or no more could be made.
pub record IsStartAgain {T : Type 0} (most : ℕ) (old new : ArrayState) (result : Result T StartEnd) : Type 0 where
  pub cuts : ℕ
  pub middle : ArrayState
  pub room : cuts < most
  pub before : AreCut cuts old middle
  pub last : IsStart middle new result
  pub spent : IsErrOf result PowerLost → cuts + 1 ≡ most

-- the calls that look at the gate: where it is in doubt it is fetched
abbrev pub looking : Option Gate → List PageCall
looking None = Fetch 1 ∷ []
looking (Some gate) = []

-- The gate is the one that is known, or where it is in doubt the one that the pages tell. Then come the calls that hang on
-- it, up to the first that fails or is cut.
pub record MakesFor (at_first : Option Gate) (calls : Gate → List PageCall) (old new : ArrayState) (ok : Bool) : Type 0 where
  pub gate : Gate
  pub known : IfSome at_first (λ known. gate ≡ known)
  pub told : IfSome old.told (λ pages. gate_at pages ≡ gate)
  pub made : Makes (looking at_first ++ calls gate) old new ok

-- the calls that program a sector in place, a gate that is ajar being finished before
abbrev pub programming : ℕ → Gate → List PageCall
programming sector gate = finishing gate ++ Program (8 + sector) ∷ []

-- the calls that program it whole
abbrev pub replacing : ℕ → Gate → List PageCall
replacing sector gate = finishing gate ++ Program 2 ∷ Program 1 ∷ Program (8 + sector) ∷ Program 1 ∷ []

-- the call that reads it
abbrev pub reading : ℕ → Gate → List PageCall
reading sector gate = Fetch (place_of gate sector) ∷ []

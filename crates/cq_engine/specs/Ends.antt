-- How an event may end, by the counts of the link.
use Rattle.std.specs.Prelude.{◌≡◌, ◌⊎◌, ℕ, Bool, true, false, Option, Result, Ok, Err}
use Rattle.std.specs.Option.{MatchOption}
use Rattle.storage_model.specs.Count.{Later, Rose}
use Rattle.bus_link.specs.Link.{LinkState, TellsFlash}
use Rattle.bus_link.specs.declared.link.Cause.{Cause}
use Rattle.bus_link.specs.declared.link.Cause.TheVariants.{Response, Bus as BusFault, Dark as NoPower}
use Rattle.bus_link.specs.declared.link.LinkEnd.{LinkEnd}
use Rattle.bus_link.specs.declared.link.LinkEnd.TheVariants.{Bus, Status, Dark}

-- what has to have happened for the engine to stop so
abbrev pub HasStopCause : LinkState → LinkState → Cause → Type 0
HasStopCause old new (BusFault kind slot) = Rose old.bus new.bus × (new.powered ≡ old.powered)
HasStopCause old new (Response word slot) = TellsFlash old new word × (new.powered ≡ old.powered)
HasStopCause old new NoPower = (Rose old.cuts new.cuts ⊎ (old.powered ≡ false)) × (new.powered ≡ false)

-- how an event ends: counts don't fall, a stop has its cause in this event, and the power stays but for a cut
pub record EventEnds (old new : LinkState) (stop : Option Cause) : Type 0 where
  pub bus : Later old.bus new.bus
  pub flash : Later old.flash new.flash
  pub cuts : Later old.cuts new.cuts
  pub cause : MatchOption stop (new.powered ≡ old.powered) (HasStopCause old new)

-- the answer that the engine stops for; `compared`: whether a word is compared with the response error mask
abbrev pub StopsFor : (compared : Bool) → Result ℕ LinkEnd → Cause → Type 0
StopsFor compared answer (BusFault kind slot) = answer ≡ Err (Bus kind)
StopsFor compared answer (Response word slot) = (compared ≡ true) × ((answer ≡ Ok word) ⊎ (answer ≡ Err (Status word)))
StopsFor compared answer NoPower = answer ≡ Err Dark

-- an answer that the engine may go on after
abbrev pub GoesOn : Result ℕ LinkEnd → Type 0
GoesOn (Err Dark) = ⊥
GoesOn _ = Unit {0}

-- the answer explains whether and why the engine stops
abbrev pub Explains : (compared : Bool) → Result ℕ LinkEnd → Option Cause → Type 0
Explains compared answer stop = MatchOption stop (GoesOn answer) (StopsFor compared answer)

-- the link was used as it may be: what it borrows is the same, it fits what is behind it, and its counts explain a stop
pub record Uses {L : Type 0} (Keeps : L → L → Type 0) (Fits : L → Type 0) (state_of : L → LinkState) (old new : L) (stop : Option Cause)
    : Type 0 where
  pub keeps : Keeps old new
  pub fits : Fits new
  pub ends : EventEnds (state_of old) (state_of new) stop

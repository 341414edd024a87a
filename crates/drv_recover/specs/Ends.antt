-- How an event may end, by the counts of the link.
use Rattle.std.specs.Prelude.{◌≡◌, ◌⊎◌, false}
use Rattle.storage_model.specs.Count.{Later, Rose}
use Rattle.bus_link.specs.Link.{LinkState}
use Rattle.drv_recover.specs.declared.recovery.Step.{Step}
use Rattle.drv_recover.specs.declared.recovery.Step.TheVariants.{Again, Dark}

-- what has to have happened for an event to tell so
abbrev pub HasStepCause : LinkState → LinkState → Step → Type 0
HasStepCause old new (Again kind) = Rose old.bus new.bus × (new.powered ≡ old.powered)
HasStepCause old new Dark = (Rose old.cuts new.cuts ⊎ (old.powered ≡ false)) × (new.powered ≡ false)
HasStepCause old new _ = new.powered ≡ old.powered

-- how an event ends: counts don't fall, a CMD48 without an answer has its cause in this event, and the power stays but for
-- a cut
pub record EventEnds (old new : LinkState) (step : Step) : Type 0 where
  pub bus : Later old.bus new.bus
  pub flash : Later old.flash new.flash
  pub cuts : Later old.cuts new.cuts
  pub cause : HasStepCause old new step

-- the link was used as it may be: what it borrows is the same, it fits what is behind it, and its counts explain what is told
pub record Uses {L : Type 0} (Keeps : L → L → Type 0) (Fits : L → Type 0) (state_of : L → LinkState) (old new : L) (step : Step)
    : Type 0 where
  pub keeps : Keeps old new
  pub fits : Fits new
  pub ends : EventEnds (state_of old) (state_of new) step

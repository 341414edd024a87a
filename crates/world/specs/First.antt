-- The first opening of a run's image, by which an opening that is cut begins again.
use Rattle.std.specs.Prelude.{◌≡◌, true, OnOk, Result, Ok, Err}
use Rattle.storage_model.specs.Count.{Later, Rose}
use Rattle.storage_model.specs.declared.ends.Halt.{Halt}
use Rattle.storage_model.specs.declared.ends.Halt.TheVariants.{SinkFailed, OpenFault, PowerGone, BadImage}
use Rattle.trace_print.specs.Prints.{RoseBy}
use Rattle.array_edge.specs.Array.{ArrayState}
use Rattle.card_core.specs.Card.{CardState}
use Rattle.card_store.specs.Store.{IsOpen}
use Rattle.dark_laws.specs.Anew.{IsCardAnew}
use Rattle.intent_store.specs.Calls.{IsStartAgain}
use Rattle.intent_store.specs.Intent.{IsNoImage, ShowsImage, shown_by}
use Rattle.intent_store.specs.declared.ends.StartEnd.{StartEnd}
use Rattle.intent_store.specs.declared.ends.StartEnd.TheVariants.{Flash, PowerLost, BadImage as NoImage}

-- what has to have happened for the image to stay shut; the pages of one that opened are an image
abbrev pub HasOpeningCause : ArrayState → ArrayState → Result (Unit {0}) Halt → Type 0
HasOpeningCause a a' (Ok done) = ShowsImage a
HasOpeningCause a a' (Err SinkFailed) = ⊥
HasOpeningCause a a' (Err OpenFault) = Rose a.faults a'.faults
HasOpeningCause a a' (Err PowerGone) = RoseBy 8 a.cuts a'.cuts
HasOpeningCause a a' (Err BadImage) = IsNoImage a

-- how the openings ended, by how the beginning of a run did: where the sink failed the image was open
abbrev pub opening_end : Result (Unit {0}) Halt → Result (Unit {0}) StartEnd
opening_end (Ok done) = Ok tt
opening_end (Err SinkFailed) = Ok tt
opening_end (Err OpenFault) = Err Flash
opening_end (Err PowerGone) = Err PowerLost
opening_end (Err BadImage) = Err NoImage

-- the card is set up, and its image is open
pub record IsFirstOpen (old new : CardState) (a : ArrayState) : Type 0 where
  pub is_open : IsOpen new.store a
  pub anew : IsCardAnew old new a
  pub powered : a.powered ≡ true

-- the image shows what it showed
pub record OpensFirst (card : CardState) (a : ArrayState) (result : Result (Unit {0}) Halt) (card' : CardState) (a' : ArrayState) : Type 0 where
  pub shown : shown_by a' ≡ shown_by a
  pub image : ShowsImage a → ShowsImage a'
  pub cause : HasOpeningCause a a' result
  pub openings : IsStartAgain 8 a a' (opening_end result)
  pub later_faults : Later a.faults a'.faults
  pub later_cuts : Later a.cuts a'.cuts
  pub opened : OnOk result (IsFirstOpen card card' a')

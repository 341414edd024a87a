-- The card's sectors, its queue and its cache, and what is printed of them.
use Rattle.std.specs.Prelude.{◌≡◌, ℕ, true, false, nat_lt, Result, Ok, Err, OnOk}
use Rattle.std.specs.Bool.{MatchBool}
use Rattle.array_edge.specs.Array.{ArrayState}
use Rattle.card_core.specs.Card.{CardState, HoldsNothing, sectors}
use Rattle.card_core.specs.Response.{Responds, response_to}
use Rattle.card_core.specs.Serving.{word_end}
use Rattle.card_core.specs.declared.ends.Dark.{Dark}
use Rattle.card_store.specs.Store.{Contents, IsSameStore, Reads, Turns, kept, same}
use Rattle.cmd_words.specs.declared.command.Command.TheVariants.{Manage}
use Rattle.intent_store.specs.Intent.{StoreEnds}
use Rattle.intent_store.specs.declared.ends.StoreEnd.{StoreEnd}
use Rattle.intent_store.specs.declared.ends.StoreEnd.TheVariants.{Flash, PowerLost}
use Rattle.raw_face.specs.Output.{Output, ending, nothing, one}
use Rattle.raw_lines.specs.declared.raw_line.RawLine.TheVariants.{Outside, Sector, Unread}
use Rattle.storage_model.specs.Keep.{every_sector}
use Rattle.storage_model.specs.declared.block.Block.{Block}
use Rattle.storage_model.specs.declared.trace.End.TheVariants.{Dead, Fault, Good}

-- Only the store of the card changed: the image that is open is the same, and f becomes of the contents that store and array
-- stand for.
pub record TurnsStore (f : Contents → Contents) (old : CardState) (old_array : ArrayState) (new : CardState) (new_array : ArrayState) : Type 0 where
  pub card : new ≡ record old { store = new.store }
  pub store : IsSameStore old.store new.store
  pub turns : Turns f old.store old_array new.store new_array

-- what shows a sector, by how its read ended
abbrev pub sector_output : Block → Result (Unit {0}) StoreEnd → Output
sector_output value (Ok _) = one (Sector value)
sector_output value (Err Flash) = one Unread
sector_output value (Err PowerLost) = ending Dead

-- a sector shown as the card's store reads it; the array's pages stay
pub record HasShown (sector : ℕ) (old : CardState) (old_array : ArrayState) (output : Output) (new : CardState) (new_array : ArrayState) : Type 0 where
  pub value : Block
  pub end : Result (Unit {0}) StoreEnd
  pub reads : OnOk end (Reads old.store old_array sector value)
  pub turns : TurnsStore same old old_array new new_array
  pub told : new_array.told ≡ old_array.told
  pub ends : StoreEnds old_array new_array end
  pub shown : output ≡ sector_output value end

-- nothing is read where the card has no such sector
pub record IsOutside (old : CardState) (old_array : ArrayState) (output : Output) (new : CardState) (new_array : ArrayState) : Type 0 where
  pub card : new ≡ old
  pub array : new_array ≡ old_array
  pub shown : output ≡ one Outside

abbrev pub IsShown : (sector : ℕ) → CardState → ArrayState → Output → CardState → ArrayState → Type 0
IsShown sector old old_array output new new_array =
    MatchBool (nat_lt sector (sectors old))
    (HasShown sector old old_array output new new_array)
    (IsOutside old old_array output new new_array)

-- whatever the card answers to CMD48, nothing is printed but the loss of its power
abbrev pub discard_output : Result ℕ Dark → Output
discard_output (Ok word) = nothing
discard_output (Err _) = ending Dead

-- the card's whole queue discarded by CMD48 (JESD84-B51, section 6.6.39)
pub record IsDiscarded (old : CardState) (old_array : ArrayState) (output : Output) (new : CardState) (new_array : ArrayState) : Type 0 where
  pub answer : Result ℕ Dark
  pub responds : Responds (response_to old (Manage true 0) 0) old old_array new new_array answer
  pub ends : StoreEnds old_array new_array (word_end false answer)
  pub shown : output ≡ discard_output answer

-- the end of a script, by how the last flush ended
abbrev pub flush_output : Result (Unit {0}) StoreEnd → Output
flush_output (Ok _) = ending Good
flush_output (Err Flash) = ending Fault
flush_output (Err PowerLost) = ending Dead

-- what the last flush makes of the contents
abbrev pub flushed : Result (Unit {0}) StoreEnd → Contents → Contents
flushed (Ok _) = kept every_sector
flushed (Err _) = same

-- the card's cache flushed
pub record HasFlushed (old : CardState) (old_array : ArrayState) (output : Output) (new : CardState) (new_array : ArrayState) : Type 0 where
  pub end : Result (Unit {0}) StoreEnd
  pub turns : TurnsStore (flushed end) old old_array new new_array
  pub empty : OnOk end (HoldsNothing new)
  pub ends : StoreEnds old_array new_array end
  pub shown : output ≡ flush_output end

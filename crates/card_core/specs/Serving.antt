-- How the card's calls end, by how its store's do.
use Rattle.std.specs.Prelude.{◌≡◌, ℕ, ◌==◌, ◌&&◌, ◌||◌, Bool, true, not, if◌then◌else◌, Result, Ok, Err, OnOk, is_ok}
use Rattle.std.specs.Int.{bit_at}
use Rattle.cmd_words.specs.declared.status.Status.{Status}
use Rattle.cmd_words.specs.declared.status.TheConstants.Status.{ERROR}
use Rattle.cmd_words.specs.Status.{status_word}
use Rattle.array_edge.specs.Array.{ArrayState}
use Rattle.intent_store.specs.Intent.{StoreEnds}
use Rattle.intent_store.specs.declared.ends.StoreEnd.{StoreEnd}
use Rattle.intent_store.specs.declared.ends.StoreEnd.TheVariants.{Flash, PowerLost}
use Rattle.card_store.specs.Store.{Contents, IsSameStore, Turns, same}
use Rattle.card_core.specs.declared.ends.BlockEnd.{BlockEnd}
use Rattle.card_core.specs.declared.ends.BlockEnd.TheVariants.{Status as StatusEnd, Dark as DarkEnd}
use Rattle.card_core.specs.declared.ends.Dark.{Dark}
use Rattle.card_core.specs.Card.{CardState}

-- the status word with these errors
abbrev pub word_of : Status → ℕ
word_of errors = status_word errors.0

-- 00000900
abbrev pub without_error : ℕ
without_error = status_word 0

-- how a call of the store ends
abbrev pub End : Type 0
End = Result (Unit {0}) StoreEnd

-- the word of a command for which the store was called: ERROR where the array failed
abbrev pub word_answer : End → Result ℕ Dark
word_answer (Ok _) = Ok without_error
word_answer (Err Flash) = Ok (word_of ERROR)
word_answer (Err PowerLost) = Err (record {})

-- the end of a block for which the store was called: this error where the array failed
abbrev pub block_answer : Status → End → Result (Unit {0}) BlockEnd
block_answer error (Ok _) = Ok tt
block_answer error (Err Flash) = Err (StatusEnd (word_of error))
block_answer error (Err PowerLost) = Err DarkEnd

-- one thing where a call ended well, another where it did not
abbrev pub by_end : {T : Type 0} → T → T → End → T
by_end well badly end = if is_ok end then well else badly

-- The store was called. By how that call ended there is an answer and another card, and where it ended well f becomes of the
-- contents. The image is the same.
pub record Served {T E : Type 0} (answer : End → Result T E) (after : End → CardState) (f : Contents → Contents) (old : CardState) (old_array : ArrayState) (new : CardState) (new_array : ArrayState) (result : Result T E) : Type 0 where
  pub end : End
  pub answers : result ≡ answer end
  pub card : new ≡ record (after end) { store = new.store }
  pub store : IsSameStore old.store new.store
  pub turns : Turns (by_end f same end) old.store old_array new.store new_array
  pub ends : StoreEnds old_array new_array end

-- A call of the store that keeps ended, and was answered so. Where it ended well the array is settled.
pub record IsKeptBy (array : ArrayState) (result : Result ℕ Dark) : Type 0 where
  pub end : End
  pub answers : result ≡ word_answer end
  pub settled : OnOk end (array.settled ≡ true)

-- bit 19, ERROR, or bit 21, DEVICE_ECC_FAILED: a fault of the flash
abbrev pub tells_fault : ℕ → Bool
tells_fault word = (bit_at word 19 == 1) || (bit_at word 21 == 1)

-- how the store's call ended, as a word tells it; a queue status word tells nothing of it
abbrev pub word_end : Bool → Result ℕ Dark → End
word_end is_poll (Ok word) = if not is_poll && tells_fault word then Err Flash else Ok tt
word_end is_poll (Err _) = Err PowerLost

-- and as the end of a block tells it
abbrev pub block_end : Result (Unit {0}) BlockEnd → End
block_end (Ok _) = Ok tt
block_end (Err (StatusEnd word)) = Err Flash
block_end (Err DarkEnd) = Err PowerLost

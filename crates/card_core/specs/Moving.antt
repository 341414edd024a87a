-- Data phases: their blocks, and their end (JESD84-B51, section 6.6.39).
use Rattle.std.specs.Prelude.{◌≡◌, ℕ, ◌+◌, ◌==◌, ◌&&◌, ◌||◌, Bool, true, false, not, if◌then◌else◌, nat_lt, Option, Some, None, Result, Ok, Err, IfSome, MatchOption, OnOk, option_map, replicate}
use Rattle.std.specs.Bool.{beq}
use Rattle.std.specs.Option.{option_map_or}
use Rattle.cmd_words.specs.declared.status.TheConstants.Status.{DEVICE_ECC_FAILED, ERROR}
use Rattle.storage_model.specs.declared.block.Block.{Block}
use Rattle.storage_model.specs.declared.marks.Put.{Put}
use Rattle.storage_model.specs.Keep.{is_named}
use Rattle.array_edge.specs.Array.{ArrayState}
use Rattle.intent_store.specs.declared.ends.StoreEnd.TheVariants.{Flash, PowerLost}
use Rattle.card_store.specs.Staging.{HasRoom}
use Rattle.card_store.specs.Store.{Reads, kept, same, with_put}
use Rattle.card_core.specs.declared.ends.BlockEnd.{BlockEnd}
use Rattle.card_core.specs.declared.ends.Dark.{Dark}
use Rattle.card_core.specs.declared.phase.DataPhase.{DataPhase}
use Rattle.card_core.specs.declared.phase.Phase.{Phase}
use Rattle.card_core.specs.Card.{CardState}
use Rattle.card_core.specs.Serving.{End, Served, block_answer, by_end, without_error, word_answer}

-- a phase with more blocks
abbrev pub counted : DataPhase → ℕ → Phase → Phase
counted phase count begun = if begun.task == phase.task.task then record begun { count = count } else begun

-- a block of the open data phase has moved: it counts in the phase begun last, if that is this one
abbrev pub moved_on : CardState → DataPhase → CardState
moved_on card phase = record card {
  phase = Some (record phase { moved = phase.moved + 1 });
  begun = option_map (counted phase (phase.moved + 1)) card.begun;
}

-- the data phase that has a block to come in this direction, if one is open
abbrev pub phase_moving : CardState → Bool → Option DataPhase
phase_moving card read = option_map_or (λ phase. if beq phase.task.read read && nat_lt phase.moved phase.task.blocks then Some phase else None) card.phase None

-- a write must be kept at its end where it is forced or reliable or the cache is off
abbrev pub must_keep : CardState → DataPhase → Bool
must_keep card phase = not phase.task.read && (phase.task.forced || (phase.task.reliable || not card.csd.cache))

-- the write that is kept when the open data phase ends: it must be, and all its blocks moved
abbrev pub write_to_keep : CardState → Option DataPhase
write_to_keep card = option_map_or (λ phase. if must_keep card phase && (phase.moved == phase.task.blocks) then Some phase else None) card.phase None

-- the write was kept
abbrev pub marked : DataPhase → Phase → Phase
marked phase begun = if begun.task == phase.task.task then record begun { kept = true } else begun

-- no data phase is open any more
abbrev pub closed : CardState → CardState
closed card = record card { phase = None }

-- and the write was kept
abbrev pub closed_kept : CardState → DataPhase → CardState
closed_kept card phase = record card { phase = None; begun = option_map (marked phase) card.begun }

-- the card after the end of a write that must be kept; where the card is dark the phase is still open
abbrev pub finished : CardState → DataPhase → End → CardState
finished card phase (Ok _) = closed_kept card phase
finished card phase (Err Flash) = closed card
finished card phase (Err PowerLost) = card

-- the put of the next block of a write
abbrev pub next_put : DataPhase → Block → Put
next_put phase block = record { sector = phase.start + phase.moved; value = block; reliable = phase.task.reliable }

-- nothing was done with store and array
pub record IsUntouched {T E : Type 0} (value : T) (after : CardState) (old_array : ArrayState) (new : CardState) (new_array : ArrayState) (result : Result T E) : Type 0 where
  pub answer : result ≡ Ok value
  pub card : new ≡ after
  pub array : new_array ≡ old_array

-- A block came in: where a write waits for it, the store has its put. Else it is dropped.
abbrev pub TakesIn : Block → CardState → ArrayState → CardState → ArrayState → Result (Unit {0}) BlockEnd → Type 0
TakesIn block old old_array new new_array result =
    MatchOption (phase_moving old false)
    (IsUntouched tt old old_array new new_array result)
    (λ phase. Served (block_answer ERROR) (by_end (moved_on old phase) old) (with_put (next_put phase block)) old old_array new new_array result)

-- the store was read: of the array nothing but faults and fetches is different
pub record HasRead (sector : ℕ) (value : Block) (old : CardState) (old_array : ArrayState) (new : CardState) (new_array : ArrayState) (result : Result (Unit {0}) BlockEnd) : Type 0 where
  pub block : OnOk result (Reads old.store old_array sector value)
  pub same : new_array ≡ record old_array { faults = new_array.faults; fetches = new_array.fetches }

-- the cache has room for the block, or it is dropped
abbrev pub FindsRoom : Block → CardState → Type 0
FindsRoom block card = IfSome (phase_moving card false) (λ phase. HasRoom (next_put phase block) card.store.cache)

-- A block went out: where a read waits to give it, it is the sector's value. Else it is zeros.
abbrev pub GivesOut : Block → CardState → ArrayState → CardState → ArrayState → Result (Unit {0}) BlockEnd → Type 0
GivesOut block old old_array new new_array result =
    MatchOption (phase_moving old true)
    (IsUntouched tt old old_array new new_array result × (block ≡ record { 0 = replicate 512 0 }))
    (λ phase. Served (block_answer DEVICE_ECC_FAILED) (by_end (moved_on old phase) old) same old old_array new new_array result
    × HasRead (phase.start + phase.moved) block old old_array new new_array result)

-- The data phase ended: where it is a write that must be kept, the sectors of its task are kept. Else nothing is.
abbrev pub Finishes : CardState → ArrayState → CardState → ArrayState → Result ℕ Dark → Type 0
Finishes old old_array new new_array result =
    MatchOption (write_to_keep old)
    (IsUntouched without_error (closed old) old_array new new_array result)
    (λ phase. Served word_answer (finished old phase) (kept (is_named phase.start phase.task.blocks)) old old_array new new_array result)

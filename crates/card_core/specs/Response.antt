-- What each command has the card answer and do (JESD84-B51, sections 6.6.39 and 6.10.4).
use Rattle.std.specs.Prelude.{◌≡◌, ℕ, ◌+◌, Bool, true, false, if◌then◌else◌, nat_lt, Option, Some, None, Result, Ok, is_ok}
use Rattle.std.specs.Bool.{beq}
use Rattle.std.specs.Option.{option_map_or}
use Rattle.std.specs.Result.{result_ok}
use Rattle.cmd_words.specs.declared.command.Command.{Command}
use Rattle.cmd_words.specs.declared.command.Command.TheVariants.{Switch, Status, Params, Address, Execute, Manage, Other}
use Rattle.cmd_words.specs.declared.command.Task.{Task}
use Rattle.cmd_words.specs.declared.status.Status.{Status as ErrorSet}
use Rattle.cmd_words.specs.declared.status.TheConstants.Status.{ADDRESS_OUT_OF_RANGE, ILLEGAL_COMMAND, SWITCH_ERROR}
use Rattle.ext_csd.specs.declared.csd.ExtCsd.{ExtCsd}
use Rattle.ext_csd.specs.declared.switch.Change.{Change}
use Rattle.ext_csd.specs.declared.switch.Change.TheVariants.{Plain, Flush, Barrier, CacheOff}
use Rattle.ext_csd.specs.Switch.{switched}
use Rattle.storage_model.specs.Keep.{every_sector}
use Rattle.array_edge.specs.Array.{ArrayState}
use Rattle.epoch_cache.specs.Cache.{next_epoch}
use Rattle.task_queue.specs.declared.queue.Queued.{Queued}
use Rattle.task_queue.specs.Places.{Queue}
use Rattle.task_queue.specs.Queue.{addressed, chosen, discarded, params_answer, ready_word, take_answer, taken}
use Rattle.card_store.specs.Store.{Turns, kept, with_bar}
use Rattle.card_core.specs.declared.ends.Dark.{Dark}
use Rattle.card_core.specs.declared.phase.TheConstants.{DIRECT_TASK}
use Rattle.card_core.specs.Card.{CardState, sectors}
use Rattle.card_core.specs.Serving.{Served, by_end, without_error, word_answer, word_of}

-- What a command has the card do. `Tell`: it answers a word and is another card, and the store is as it was. `SetBarrier`: a
-- new epoch begins in the store besides, and the word has no error. `FlushCache`: the store is flushed; the card is another
-- where that went well, and another where it did not.
pub data Response : Type 0 where
  Tell : (word : ℕ) → CardState → Response
  SetBarrier : CardState → Response
  FlushCache : (well badly : CardState) → Response

-- the command is refused, and the card is as it was
abbrev pub refused : CardState → ErrorSet → Response
refused card error = Tell (word_of error) card

-- it is carried out
abbrev pub accepted : CardState → Response
accepted card = Tell without_error card

-- where command queueing is off, the commands of the queue are refused
abbrev pub if_queueing : CardState → Response → Response
if_queueing card response = if card.csd.command_queue then response else refused card ILLEGAL_COMMAND

-- CMD44: the task waits for its start sector
abbrev pub params_response : CardState → Task → Response
params_response card task =
    if is_ok (params_answer card.queue task) then accepted (record card { queue = record card.queue { waiting = Some task } })
    else refused card ILLEGAL_COMMAND

-- the queue without the task that waited
abbrev pub forgotten : Queue → Task → Queue
forgotten queue task = record queue { waiting = None }

-- CMD45: the task that waits is queued, or forgotten where it ends past the last sector
abbrev pub address_response : CardState → ℕ → Response
address_response card start =
    option_map_or
    (λ task.
    if nat_lt (sectors card) (start + task.blocks) then Tell (word_of ADDRESS_OUT_OF_RANGE) (record card { queue = forgotten card.queue task })
    else accepted (record card { queue = addressed card.queue start }))
    card.queue.waiting
    (refused card ILLEGAL_COMMAND)

-- CMD13 for the queue status word: the queued tasks of the choice are ready, and no others
abbrev pub poll_response : CardState → ℕ → Response
poll_response card choice =
    Tell (ready_word (chosen card.queue choice)) (record card { queue = chosen card.queue choice })

-- the ready task of the number, if it is of the direction
abbrev pub task_to_execute : CardState → Bool → ℕ → Option Queued
task_to_execute card read task =
    option_map_or (λ queued. if beq queued.task.read read then Some queued else None) (result_ok (take_answer card.queue task)) None

-- its data phase begins, and one that was open ends
abbrev pub with_begun : CardState → Queued → CardState
with_begun card queued = record card {
  queue = taken card.queue queued.task.task;
  phase = Some (record { task = queued.task; start = queued.start; moved = 0 });
  begun = Some (record { task = queued.task.task; count = 0; kept = false });
}

-- CMD46 and CMD47: the task is taken out of the queue
abbrev pub execute_response : CardState → Bool → ℕ → Response
execute_response card read task =
    option_map_or (λ queued. accepted (with_begun card queued)) (task_to_execute card read task) (refused card ILLEGAL_COMMAND)

-- CMD48: all tasks or one leave the queue, and an open data phase ends
abbrev pub manage_response : CardState → Bool → ℕ → Response
manage_response card whole task =
    accepted (record card { queue = discarded card.queue (if whole then None else Some task); phase = None })

-- a direct command that is a phase of its own
abbrev pub with_direct : CardState → ℕ → Bool → CardState
with_direct card count is_kept = record card { begun = Some (record { task = DIRECT_TASK; count = count; kept = is_kept }) }

-- what a SWITCH that is not refused has the card do, by its change
abbrev pub change_response : CardState → ExtCsd → Change → Response
change_response card csd Plain = accepted (record card { csd = csd })
change_response card csd Barrier = SetBarrier (with_direct card 1 false)
change_response card csd Flush = FlushCache (with_direct card 1 true) (with_direct card 0 false)
change_response card csd CacheOff = FlushCache (record card { csd = csd }) card

-- CMD6
abbrev pub switch_response : CardState → ℕ → Response
switch_response card arg =
    option_map_or (λ switch. change_response card switch.csd switch.change) (switched card.csd arg) (refused card SWITCH_ERROR)

-- What each command has the card do. The choice is of the tasks that are ready at a request of the queue status.
unfoldable pub response_to : CardState → Command → ℕ → Response
response_to card (Switch arg) choice = switch_response card arg
response_to card (Status queue rca) choice =
    if queue then if_queueing card (poll_response card choice) else accepted (with_direct card 1 false)
response_to card (Params task) choice = if_queueing card (params_response card task)
response_to card (Address start) choice = if_queueing card (address_response card start)
response_to card (Execute read task) choice = if_queueing card (execute_response card read task)
response_to card (Manage whole task) choice = if_queueing card (manage_response card whole task)
response_to card (Other index arg) choice = refused card ILLEGAL_COMMAND

-- whether the command asks for the queue status word
abbrev pub is_poll : Command → Bool
is_poll (Status queue rca) = queue
is_poll _ = false

-- A barrier was set: a new epoch began in the store.
pub record IsBarred (after old : CardState) (old_array : ArrayState) (new : CardState) (new_array : ArrayState) (result : Result ℕ Dark) : Type 0 where
  pub answer : result ≡ Ok without_error
  pub card : new ≡ record after { store = new.store }
  pub array : new_array ≡ old_array
  pub known : new.store.known ≡ old.store.known
  pub epoch : new.store.cache ≡ record old.store.cache { last = next_epoch old.store.cache.last }
  pub turns : Turns (with_bar old.store.cache.last) old.store old_array new.store new_array

-- the response flushes the store
abbrev pub IsFlush : Response → Type 0
IsFlush (FlushCache well badly) = Unit {0}
IsFlush _ = ⊥

-- the card answered and did so
abbrev pub Responds : Response → CardState → ArrayState → CardState → ArrayState → Result ℕ Dark → Type 0
Responds (Tell word card) old old_array new new_array result = (result ≡ Ok word) × (new ≡ card) × (new_array ≡ old_array)
Responds (SetBarrier card) old old_array new new_array result = IsBarred card old old_array new new_array result
Responds (FlushCache well badly) old old_array new new_array result =
    Served word_answer (by_end well badly) (kept every_sector) old old_array new new_array result

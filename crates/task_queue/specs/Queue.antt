-- What the calls of the queue answer, and what they leave (JESD84-B51, sections 6.6.39 and 6.10.4).
use Rattle.std.specs.Prelude.{◌≡◌, ℕ, ◌+◌, ◌*◌, ◌/◌, ◌==◌, Bool, true, false, List, [], ◌∷◌, length, replicate, Option, Some, None, Result, Ok, Err, is_some, nat_le, if◌then◌else◌, slice_index_or, slice_set}
use Rattle.std.specs.Int.{bit_at, from_bool}
use Rattle.std.specs.Option.{ok_or, option_map, option_map_or}
use Rattle.cmd_words.specs.declared.command.Task.{Task}
use Rattle.task_queue.specs.declared.queue.Place.{Place}
use Rattle.task_queue.specs.declared.queue.Queued.{Queued}
use Rattle.task_queue.specs.declared.queue.QueueRefusal.{QueueRefusal}
use Rattle.task_queue.specs.declared.queue.QueueRefusal.TheVariants.{PastDepth, InUse, NoBlocks, NoParams, NotReady}
use Rattle.task_queue.specs.Places.{Queue}

-- the depth
abbrev pub depth : Queue → ℕ
depth queue = length queue.slots

-- the place of a number, if a task is queued there
abbrev pub place_of : Queue → ℕ → Option Place
place_of queue task = slice_index_or queue.slots task None

-- the task of a number, if it is queued
abbrev pub slot : Queue → ℕ → Option Queued
slot queue task = option_map (λ place. place.queued) (place_of queue task)

-- no task, and none that waits
abbrev pub empty : ℕ → Queue
empty depth = record { slots = replicate depth None; waiting = None }

-- CMD44
abbrev pub params_answer : Queue → Task → Result (Unit {0}) QueueRefusal
params_answer queue task =
    if nat_le (depth queue) task.task then Err PastDepth
    else if is_some (place_of queue task.task) then Err InUse
    else if task.blocks == 0 then Err NoBlocks
    else Ok tt

-- CMD45
abbrev pub address_answer : Queue → Result ℕ QueueRefusal
address_answer queue = ok_or (option_map (λ task. task.task) queue.waiting) NoParams

-- a task that was queued just now, from a sector on: it is not ready
abbrev pub new_place : Task → ℕ → Place
new_place task start = record { queued = record { task = task; start = start }; ready = false }

-- the task that waits is queued
abbrev pub addressed : Queue → ℕ → Queue
addressed queue start =
    option_map_or
    (λ task. record { slots = slice_set queue.slots task.task (Some (new_place task start)); waiting = None })
    queue.waiting
    queue

-- a place with another mark
abbrev pub with_mark : Bool → Option Place → Option Place
with_mark ready None = None
with_mark ready (Some place) = Some (record place { ready = ready })

-- the tasks of a mask are ready, and no others: its lowest bit is for the first place
unfoldable pub marked : ℕ → List (Option Place) → List (Option Place)
marked mask [] = []
marked mask (slot ∷ slots) = with_mark (bit_at mask 0 == 1) slot ∷ marked (mask / 2) slots

-- a poll: the queued tasks of the choice are ready, and no others
abbrev pub chosen : Queue → ℕ → Queue
chosen queue choice = record queue { slots = marked choice queue.slots }

abbrev pub is_ready : Option Place → Bool
is_ready None = false
is_ready (Some place) = place.ready

-- the word with a bit for each place whose task is ready, the first place's the lowest
unfoldable pub ready_bits : List (Option Place) → ℕ
ready_bits [] = 0
ready_bits (slot ∷ slots) = from_bool (is_ready slot) + 2 * ready_bits slots

-- the queue status word
abbrev pub ready_word : Queue → ℕ
ready_word queue = ready_bits queue.slots

-- a task is queued and ready
abbrev pub IsReady : Queue → ℕ → Type 0
IsReady queue task = is_ready (place_of queue task) ≡ true

-- a task is taken where it is ready
abbrev pub ready_task : Option Place → Result Queued QueueRefusal
ready_task None = Err NotReady
ready_task (Some place) = if place.ready then Ok place.queued else Err NotReady

-- CMD46 and CMD47
abbrev pub take_answer : Queue → ℕ → Result Queued QueueRefusal
take_answer queue task = if nat_le (depth queue) task then Err PastDepth else ready_task (place_of queue task)

-- without one task
abbrev pub taken : Queue → ℕ → Queue
taken queue task = record queue { slots = slice_set queue.slots task None }

-- without one task or without any, and none waits
abbrev pub discarded : Queue → Option ℕ → Queue
discarded queue which =
    option_map_or
    (λ task. record { slots = slice_set queue.slots task None; waiting = None })
    which
    (empty (depth queue))

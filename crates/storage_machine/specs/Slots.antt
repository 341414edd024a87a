-- The slots, one for each tag, and the tasks that stand on them (the task queue of JESD84-B51, as the host sees it).
use Rattle.std.specs.Prelude.{ℕ, zero, suc, ◌+◌, ◌^◌, ◌==◌, ◌&&◌, Bool, true, false, if◌then◌else◌, Option, Some, None, List, [], ◌∷◌, position, find, replicate, slice_index_or}
use Rattle.std.specs.List.{list_any}
use Rattle.std.specs.Int.{bit_at}
use Rattle.storage_machine.specs.declared.state.Task.{Task}
use Rattle.storage_machine.specs.declared.state.Standing.{Standing}
use Rattle.storage_machine.specs.declared.state.Standing.TheVariants.{Rung, Named, Sent, Ready, Done, Collected, Held}
use Rattle.storage_machine.specs.declared.slots.Question.{Question}
use Rattle.storage_machine.specs.declared.slots.Question.TheVariants.{Rung as IsRung, Named as IsNamed, Sent as IsSent, Ready as IsReady, Done as IsDone, Collected as IsCollected, Issued as IsIssued, Vacant as IsVacant}
use Rattle.storage_machine.specs.declared.slots.Change.{Change}
use Rattle.storage_machine.specs.declared.slots.Change.TheVariants.{MakeReady, Collect, Hold, Move, Answer}

-- a question about a standing; a collected task's request is answered, so it is issued no more
abbrev pub asks_of : Question → Standing → Bool
asks_of IsRung Rung = true
asks_of IsNamed Named = true
asks_of IsSent Sent = true
asks_of IsReady Ready = true
asks_of IsDone Done = true
asks_of IsCollected Collected = true
asks_of IsIssued Collected = false
asks_of IsIssued standing = true
asks_of IsVacant Collected = true
asks_of question standing = false

-- a question about a slot
abbrev pub asks : Question → Option Task → Bool
asks IsVacant None = true
asks question None = false
asks question (Some task) = asks_of question task.standing

abbrev pub slot_at : List (Option Task) → ℕ → Option Task
slot_at slots tag = slice_index_or slots tag None

-- the request on a slot, or 0
abbrev pub id_of : Option Task → ℕ
id_of None = 0
id_of (Some task) = task.id

abbrev pub has : Question → List (Option Task) → Bool
has question slots = list_any (asks question) slots

-- the lowest tag
abbrev pub tag_of : Question → List (Option Task) → Option ℕ
tag_of question slots = position (asks question) slots

-- the tag of a request
abbrev pub tag_with : ℕ → List (Option Task) → Option ℕ
tag_with id slots = position (λ slot. id_of slot == id) slots

-- the first tag in an order
abbrev pub first : Question → List (Option Task) → List ℕ → Option ℕ
first question slots order = find (λ tag. asks question (slot_at slots tag)) order

-- the bits of the tags below a bound
abbrev pub mask_below : Question → List (Option Task) → ℕ → ℕ
mask_below question slots zero = 0
mask_below question slots (suc tag) = mask_below question slots tag + (if asks question (slot_at slots tag) then 2 ^ tag else 0)

-- the bits of the tags, as in a queue status
unfoldable pub mask_of : Question → List (Option Task) → ℕ
mask_of question slots = mask_below question slots 32

-- the task with another standing
abbrev pub moved : Standing → Task → Option Task
moved standing task = Some (record task { standing = standing })

-- a change of the task on a tag: a sent one in the word becomes ready, a done one collected, each held; one request's moves, or is answered
abbrev pub changed_task : Change → ℕ → Task → Option Task
changed_task (MakeReady word) tag task = if asks_of IsSent task.standing && (bit_at word tag == 1) then moved Ready task else Some task
changed_task Collect tag task = if asks_of IsDone task.standing then moved Collected task else Some task
changed_task Hold tag task = moved Held task
changed_task (Move id standing) tag task = if task.id == id then moved standing task else Some task
changed_task (Answer id) tag task = if task.id == id then None else Some task

abbrev pub changed : Change → ℕ → Option Task → Option Task
changed change tag None = None
changed change tag (Some task) = changed_task change tag task

-- the slots after a change, where the first has this tag
abbrev pub changed_from : Change → ℕ → List (Option Task) → List (Option Task)
changed_from change tag [] = []
changed_from change tag (slot ∷ slots) = changed change tag slot ∷ changed_from change (tag + 1) slots

unfoldable pub changed_slots : Change → List (Option Task) → List (Option Task)
changed_slots change slots = changed_from change 0 slots

unfoldable pub no_tasks : List (Option Task)
no_tasks = replicate 32 None

-- The places of the queue.
use Rattle.std.proofs.Common.{◌≡◌, ◌<◌, ◌==◌, ℕ, List, sym, ap, subst, ◌∙◌}
use Rattle.std.specs.Int.{bit_at}
use Rattle.std.specs.Prelude.{IfSome, Option, Some, None, slice_index_or, slice_set}
use Rattle.std.proofs.lemmas.List.{set-set, set-get_or}
use Rattle.cmd_words.specs.declared.command.Task.{Task}
use Rattle.task_queue.proofs.Marks.{length-marked, marked-at, slot-chosen}
use Rattle.task_queue.specs.Places.{Queue}
use Rattle.task_queue.specs.Queue.{chosen, depth, place_of, with_mark}
use Rattle.task_queue.specs.declared.queue.Queued.{Queued}
use Rattle.card_store.specs.Store.{HasSectors}
use Rattle.card_core.specs.Card.{CardState, IsCard}

-- what was put into an empty place and taken out again leaves the places as they were
pub set-emptied : {T : Type 0} (places : List (Option T)) (n : ℕ) (x : Option T) → slice_index_or places n None ≡ None
    → slice_set (slice_set places n x) n None ≡ places
set-emptied {T} places n x empty =
    set-set places n x None ∙ subst (λ (value : Option T). slice_set places n value ≡ places) empty (set-get_or places n None)

has_place : (waiting : Option Task) (queue : Queue) (choice : ℕ) → IfSome waiting (λ task. (task.task < depth queue) × (place_of queue task.task ≡ None))
    → IfSome waiting (λ task. (task.task < depth (chosen queue choice)) × (place_of (chosen queue choice) task.task ≡ None))
has_place None queue choice has = tt
has_place (Some task) queue choice has =
    let Below : ℕ → Type 0 = λ n. task.task < n in (
      subst Below (sym (length-marked choice queue.slots)) has.0,
      marked-at choice queue.slots task.task ∙ ap (with_mark (bit_at choice task.task == 1)) has.1,
    )

-- a poll leaves each task in its place
pub card_polled : (card : CardState) (choice : ℕ) → IsCard card → IsCard (record card { queue = chosen card.queue choice })
card_polled card choice is = record {
  tasks = is.tasks;
  room = is.room;
  places = length-marked choice card.queue.slots ∙ is.places;
  cache = is.cache;
  queued =
      λ task.
      let Inside : Option Queued → Type 0 = λ slot. IfSome slot (λ queued. HasSectors card.store queued.start queued.task.blocks) in
      subst Inside (sym (slot-chosen card.queue choice task)) (is.queued task);
  waits = has_place card.queue.waiting card.queue choice is.waits;
  phase = is.phase;
}

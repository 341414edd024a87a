-- The queue of the card (JESD84-B51, section 6.6.39).
use Rattle.std.specs.Prelude.{◌≡◌, ℕ, ◌<◌, ◌≤◌, List, length, Option, None, IfSome, slice_index_or}
use Rattle.cmd_words.specs.declared.command.Task.{Task}
use Rattle.task_queue.specs.declared.queue.Place.{Place}

-- a place for each task below the depth, with the task that is queued there, and the task that waits for its start sector
pub record Queue : Type 0 where
  pub slots : List (Option Place)
  pub waiting : Option Task

-- the places are at most 31, each task is in the place of its number, and the task that waits has a place
pub record IsKept (slots : List (Option Place)) (waiting : Option Task) : Type 0 where
  pub depth : length slots ≤ 31
  pub home : (number : ℕ) → IfSome (slice_index_or slots number None) (λ place. place.queued.task.task ≡ number)
  pub waits : IfSome waiting (λ task. task.task < length slots)

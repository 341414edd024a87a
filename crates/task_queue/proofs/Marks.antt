-- Places whose marks were made anew.
use Rattle.std.proofs.Common.{◌≡◌, ℕ, zero, suc, ◌+◌, ◌/◌, ◌==◌, ◌<◌, ◌≤◌, Bool, List, [], ◌∷◌, ◌++◌, length, take, get_or, refl, sym, ap, subst, ◌∙◌}
use Rattle.std.specs.Prelude.{Option, Some, None, IfSome}
use Rattle.cmd_words.specs.declared.command.Task.{Task}
use Rattle.std.specs.Int.{bit_at}
use Rattle.std.specs.Option.{option_map}
use Rattle.std.proofs.lemmas.Nat.Bits.{bit_at-suc}
use Rattle.std.proofs.lemmas.List.{length-take-le, take_all, take_more}
use Rattle.task_queue.specs.declared.queue.Place.{Place}
use Rattle.task_queue.specs.Places.{IsKept, Queue}
use Rattle.task_queue.specs.Queue.{chosen, marked, slot, with_mark}

-- there are as many
pub length-marked : (mask : ℕ) (slots : List (Option Place)) → length (marked mask slots) ≡ length slots
unfolding marked
length-marked mask [] = refl
length-marked mask (slot ∷ slots) = ap suc (length-marked (mask / 2) slots)

-- each has its bit
pub marked-at : (mask : ℕ) (slots : List (Option Place)) (k : ℕ)
    → get_or (marked mask slots) k None ≡ with_mark (bit_at mask k == 1) (get_or slots k None)
unfolding marked
marked-at mask [] k = refl
marked-at mask (slot ∷ slots) zero = refl
marked-at mask (slot ∷ slots) (suc k) =
    marked-at (mask / 2) slots k ∙ ap (λ bit. with_mark (bit == 1) (get_or slots k None)) (sym (bit_at-suc mask k))

-- one place more
pub marked-more : (mask : ℕ) (slots places : List (Option Place)) (place : Option Place) (k : ℕ) → k < length slots
    → places ≡ take k (marked mask slots) → place ≡ with_mark (bit_at mask k == 1) (get_or slots k None)
    → places ++ place ∷ [] ≡ take (k + 1) (marked mask slots)
marked-more mask slots places place k below so_far is =
    let inside : k < length (marked mask slots) = rw (length-marked mask slots) below in
    let here : place ≡ get_or (marked mask slots) k None = is ∙ sym (marked-at mask slots k) in
    rw (so_far, here) (sym (take_more (marked mask slots) k None inside))

-- as many places as so far
pub length-so_far : (mask : ℕ) (slots places : List (Option Place)) (k : ℕ) → k ≤ length slots → places ≡ take k (marked mask slots)
    → length places ≡ k
length-so_far mask slots places k within so_far =
    ap length so_far ∙ length-take-le k (marked mask slots) (rw (length-marked mask slots) within)

-- all places
pub marked-all : (mask : ℕ) (slots places : List (Option Place)) (k : ℕ) → length slots ≤ k → places ≡ take k (marked mask slots)
    → places ≡ marked mask slots
marked-all mask slots places k past so_far = so_far ∙ take_all k (marked mask slots) (rw (length-marked mask slots) past)

still_home : (ready : Bool) (slot : Option Place) (number : ℕ) → IfSome slot (λ place. place.queued.task.task ≡ number)
    → IfSome (with_mark ready slot) (λ place. place.queued.task.task ≡ number)
still_home ready None number home = tt
still_home ready (Some place) number home = home

-- the tasks stay in their places
pub kept_marked : (mask : ℕ) (slots : List (Option Place)) (waiting : Option Task) → IsKept slots waiting → IsKept (marked mask slots) waiting
kept_marked mask slots waiting kept =
    let Waits : ℕ → Type 0 = λ n. IfSome waiting (λ task. task.task < n) in
    let Short : ℕ → Type 0 = λ n. n ≤ 31 in
    record {
      depth = subst Short (sym (length-marked mask slots)) kept.depth;
      home =
          λ number.
          let Home : Option Place → Type 0 = λ slot. IfSome slot (λ place. place.queued.task.task ≡ number) in
          subst Home (sym (marked-at mask slots number)) (still_home (bit_at mask number == 1) (get_or slots number None) number (kept.home number));
      waits = subst Waits (sym (length-marked mask slots)) kept.waits;
    }

still_queued : (ready : Bool) (place : Option Place) → option_map (λ (p : Place). p.queued) (with_mark ready place) ≡ option_map (λ (p : Place). p.queued) place
still_queued ready None = refl
still_queued ready (Some place) = refl

-- and they are the same tasks
pub slot-chosen : (queue : Queue) (choice task : ℕ) → slot (chosen queue choice) task ≡ slot queue task
slot-chosen queue choice task =
    ap (option_map (λ (p : Place). p.queued)) (marked-at choice queue.slots task)
    ∙ still_queued (bit_at choice task == 1) (get_or queue.slots task None)

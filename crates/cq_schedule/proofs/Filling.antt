-- A loop that writes a function of its index into each of the places.
use Rattle.std.proofs.Common.{◌≡◌, ◌≢◌, ℕ, ◌+◌, ◌<◌, ◌≤◌, map, length, get_or, set, refl, ap, ◌∙◌, subst, ⊎_elim, arith}
use Rattle.std.specs.Prelude.{Option, None}
use Rattle.std.proofs.lemmas.Bool.{cases_lt}
use Rattle.std.proofs.lemmas.List.{length-set, get_or-set_same, get_or-set_other, get_or_default}
use Rattle.std.proofs.lemmas.List.FromFn.{fill_by_all}
use Rattle.cq_schedule.specs.declared.held.HeldTask.{HeldTask}
use Rattle.cq_schedule.specs.Held.{Places, slots, none_held}

-- the places below k are written, and the others are as they were
pub record IsFilled (f : ℕ → Option HeldTask) (old places : Places) (k : ℕ) : Type 0 where
  pub long : length places ≡ 32
  pub done : (j : ℕ) → j < k → get_or places j None ≡ f j
  pub rest : (j : ℕ) → k ≤ j → get_or places j None ≡ get_or old j None

pub filled_none : (f : ℕ → Option HeldTask) (old : Places) → length old ≡ 32 → IsFilled f old old 0
filled_none f old long = record { long = long; done = λ j below. absurd (omega arith); rest = λ j above. refl }

written : (f : ℕ → Option HeldTask) (places : Places) (k j : ℕ) → k < length places
    → ((i : ℕ) → i < k → get_or places i None ≡ f i) → j < k + 1 → get_or (set places k (f k)) j None ≡ f j
written f places k j inside done below =
    ⊎_elim
    (λ near.
    let apart : j ≢ k = λ e. omega (arith, e) in
    get_or-set_other places k j (f k) None apart ∙ done j near)
    (λ far.
    let same : k ≡ j = omega arith in
    subst (λ n. get_or (set places k (f k)) n None ≡ f n) same (get_or-set_same places k (f k) None inside))
    (cases_lt j k)

pub filled_more : (f : ℕ → Option HeldTask) (old places : Places) (k : ℕ) → k < 32 → IsFilled f old places k
    → IsFilled f old (set places k (f k)) (k + 1)
filled_more f old places k below h =
    let inside : k < length places = omega (arith, h.long) in
    record {
      long = length-set places k (f k) ∙ h.long;
      done = λ j near. written f places k j inside h.done near;
      rest = λ j far.
          let apart : j ≢ k = λ e. omega (arith, e) in
          get_or-set_other places k j (f k) None apart ∙ h.rest j (omega arith);
    }

pub filled_all : (f : ℕ → Option HeldTask) (old places : Places) → IsFilled f old places 32 → places ≡ map f slots
unfolding slots
filled_all f old places h = fill_by_all f places 32 None h.long h.done

pub filled_none_held : (old places : Places) → IsFilled (λ _. None) old places 32 → places ≡ none_held
unfolding slots
filled_none_held old places h = filled_all (λ _. None) old places h

-- a place is written by a function of what it had
pub filled_write : (f : ℕ → Option HeldTask) (g : Option HeldTask → Option HeldTask) (old places : Places) (k i : ℕ) (d x : Option HeldTask) → k < 32
    → IsFilled f old places k → i ≡ k → x ≡ g (get_or places i d) → g (get_or old k None) ≡ f k → IsFilled f old (set places i x) (k + 1)
filled_write f g old places k i d x below h at made is =
    let inside : i < length places = omega (arith, h.long, at) in
    let read : get_or places i d ≡ get_or old k None =
    get_or_default places i d None inside ∙ ap (λ n. get_or places n None) at ∙ h.rest k (omega arith) in
    let value : x ≡ f k = made ∙ ap g read ∙ is in
    rw (value, at) (filled_more f old places k below h)

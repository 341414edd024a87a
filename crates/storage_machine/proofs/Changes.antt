-- A change of the slots, one after the other.
use Rattle.std.proofs.Common.{◌≡◌, ℕ, zero, suc, ◌+◌, ◌<◌, List, [], ◌∷◌, ◌++◌, Option, take, drop, set, get_or, length, arith, refl, ap, sym, ◌∙◌}
use Rattle.std.proofs.lemmas.List.{drop-set-lt, drop_more, take_all, take_more, take_more_set, length-set}
use Rattle.storage_machine.specs.Slots.{changed, changed_from}
use Rattle.storage_machine.specs.declared.slots.Change.{Change}
use Rattle.storage_machine.specs.declared.state.Task.{Task}

pub length-changed_from : (change : Change) (tag : ℕ) (slots : List (Option Task)) → length (changed_from change tag slots) ≡ length slots
length-changed_from change tag [] = refl
length-changed_from change tag (slot ∷ slots) = let e = length-changed_from change (tag + 1) slots in cc

pub changed_from-at : (change : Change) (tag i : ℕ) (slots : List (Option Task)) (d : Option Task) → i < length slots
    → get_or (changed_from change tag slots) i d ≡ changed change (tag + i) (get_or slots i d)
changed_from-at change tag zero [] d below = absurd (omega arith)
changed_from-at change tag (suc i) [] d below = absurd (omega arith)
changed_from-at change tag zero (slot ∷ slots) d below = ap (λ t. changed change t slot) (omega arith)
changed_from-at change tag (suc i) (slot ∷ slots) d below =
    changed_from-at change (tag + 1) i slots d (omega arith) ∙ ap (λ t. changed change t (get_or slots i d)) (omega arith)

heads : {X : Type 0} (xs ys : List X) (i : ℕ) (d : X) → i < length xs → i < length ys → drop i xs ≡ drop i ys
    → (get_or xs i d ≡ get_or ys i d) × (drop (i + 1) xs ≡ drop (i + 1) ys)
heads xs ys i d low high same =
    let left = drop_more xs i d low in
    let right = drop_more ys i d high in
    (cc, cc)

-- the step of a loop that changes one slot after the other
pub record Changes (change : Change) (i : ℕ) (xs start : List (Option Task)) : Type 0 where
  pub before : take i xs ≡ take i (changed_from change 0 start)
  pub after : drop i xs ≡ drop i start
  pub long : length xs ≡ 32
  pub long_start : length start ≡ 32

pub change_more : (change : Change) (i : ℕ) (xs start : List (Option Task)) (d slot : Option Task) → i < 32
    → Changes change i xs start → slot ≡ changed change i (get_or xs i d) → Changes change (i + 1) (set xs i slot) start
change_more change i xs start d slot below done is =
    let here = heads xs start i d (omega arith) (omega arith) done.after in
    let there = changed_from-at change 0 i start d (omega arith) in
    let more = take_more (changed_from change 0 start) i d (omega (arith, length-changed_from change 0 start)) in
    let front = take_more_set xs i slot (omega arith) in
    let back = drop-set-lt (i + 1) xs i slot (omega arith) in
    let zero_and : 0 + i ≡ i = omega arith in
    let same : get_or (changed_from change 0 start) i d ≡ slot = there ∙ ap (λ t. changed change t (get_or start i d)) zero_and ∙ sym (is ∙ ap (changed change i) here.0) in
    record {
      before = front ∙ (ap (λ zs. zs ++ slot ∷ []) done.before ∙ sym (more ∙ ap (λ z. take i (changed_from change 0 start) ++ z ∷ []) same));
      after = back ∙ here.1;
      long = length-set xs i slot ∙ done.long;
      long_start = done.long_start;
    }

pub changes_end : (change : Change) (xs start : List (Option Task)) → Changes change 32 xs start → xs ≡ changed_from change 0 start
changes_end change xs start done =
    let all = take_all 32 xs (omega arith) in
    let all_changed = take_all 32 (changed_from change 0 start) (omega (arith, length-changed_from change 0 start)) in
    sym all ∙ (done.before ∙ all_changed)

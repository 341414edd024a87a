-- Counts of faults and cuts, and of the lines that tell of them.
use Rattle.std.proofs.Common.{◌≡◌, ◌∙◌, ◌++◌, ◌∷◌, ◌+◌, inl, inr, ℕ, zero, suc, Bool, true, false, cond, List, [], ap, refl, arith}
use Rattle.std.proofs.lemmas.List.Sums.{sum_by-append, sum_by-cons}
use Rattle.std.specs.Prelude.{count_by}
use Rattle.storage_model.specs.Count.{Count, Later, Rose}
use Rattle.storage_model.specs.declared.trace.Item.{Item}
use Rattle.storage_model.specs.declared.trace.Item.TheVariants.{Cut, Lost}
use Rattle.cut_laws.specs.Laws.{further_cuts}
use Rattle.cut_laws.specs.Lost.{lost_lines}
use Rattle.trace_print.specs.Prints.{RoseBy, is_cut_line, is_flash}
use Rattle.power_step.specs.Cut.{ArePlain}

pub later_same : (a : Count) → Later a a
later_same a = record { value = omega arith; stands = λ end. end }

pub later_both : (a b c : Count) → Later a b → Later b c → Later a c
later_both a b c one two =
    let low = one.value in
    let high = two.value in
    record { value = omega (arith, low, high); stands = λ end. two.stands (one.stands end) }

pub rose_none : (a b : Count) → Later a b → RoseBy 0 a b
rose_none a b later = let low = later.value in inl (omega (arith, low))

pub rose_stays : (n : ℕ) (a b c : Count) → RoseBy n a b → Later b c → RoseBy n a c
rose_stays n a b c (inl up) later = let more = later.value in inl (omega (arith, up, more))
rose_stays n a b c (inr end) later = inr (later.stands end)

pub rose_before : (n : ℕ) (a b c : Count) → Later a b → RoseBy n b c → RoseBy n a c
rose_before n a b c later (inl up) = let low = later.value in inl (omega (arith, up, low))
rose_before n a b c later (inr end) = inr end

pub rose_once : (n : ℕ) (a b c : Count) → RoseBy n a b → Later b c → Rose b c → RoseBy (n + 1) a c
rose_once n a b c (inl up) later (inl more) = inl (omega (arith, up, more))
rose_once n a b c (inl up) later (inr end) = inr end
rose_once n a b c (inr end) later rose = inr (later.stands end)

pub fault_once : (a b c : Count) → Later a b → Rose b c → RoseBy 1 a c
fault_once a b c later (inl more) = let low = later.value in inl (omega (arith, low, more))
fault_once a b c later (inr end) = inr end

-- of lines behind others both are counted
pub count_join : {X : Type 0} (p : X → Bool) (xs ys : List X) → count_by p (xs ++ ys) ≡ count_by p xs + count_by p ys
count_join p xs ys = sum_by-append (λ x. cond (p x) 1 0) xs ys

-- one in front, which isn't counted, or is
pub count_no : {X : Type 0} (p : X → Bool) (x : X) (xs : List X) → p x ≡ false → count_by p (x ∷ xs) ≡ count_by p xs
count_no p x xs is = sum_by-cons (λ y. cond (p y) 1 0) x xs ∙ (ap (λ b. cond b 1 0 + count_by p xs) is ∙ omega arith)

pub count_yes : {X : Type 0} (p : X → Bool) (x : X) (xs : List X) → p x ≡ true → count_by p (x ∷ xs) ≡ count_by p xs + 1
count_yes p x xs is = sum_by-cons (λ y. cond (p y) 1 0) x xs ∙ (ap (λ b. cond b 1 0 + count_by p xs) is ∙ omega arith)

pub plain_join : (xs ys : List Item) → ArePlain xs → ArePlain ys → ArePlain (xs ++ ys)
plain_join xs ys front back =
    let none = front.no_flash in
    let none' = back.no_flash in
    let uncut = front.no_cut in
    let uncut' = back.no_cut in
    record {
      no_flash = count_join is_flash xs ys ∙ omega (arith, none, none');
      no_cut = count_join is_cut_line xs ys ∙ omega (arith, uncut, uncut');
    }

pub plain_lost : (ids : List ℕ) → ArePlain (lost_lines ids)
plain_lost [] = record { no_flash = refl; no_cut = refl }
plain_lost (id ∷ ids) =
    let rest = plain_lost ids in
    record { no_flash = count_no is_flash (Lost id) (lost_lines ids) refl ∙ rest.no_flash; no_cut = count_no is_cut_line (Lost id) (lost_lines ids) refl ∙ rest.no_cut }

pub cuts_counted : (cuts : ℕ) → count_by is_cut_line (further_cuts cuts) ≡ cuts
cuts_counted zero = refl
cuts_counted (suc cuts) = let rest = cuts_counted cuts in count_yes is_cut_line Cut (further_cuts cuts) refl ∙ omega (arith, rest)

pub cuts_flash : (cuts : ℕ) → count_by is_flash (further_cuts cuts) ≡ 0
cuts_flash zero = refl
cuts_flash (suc cuts) = count_no is_flash Cut (further_cuts cuts) refl ∙ cuts_flash cuts

-- The sectors with a put, below a bound.
use Rattle.std.proofs.Common.{◌≡◌, ◌∙◌, ℕ, zero, suc, ◌+◌, ◌-◌, ◌<◌, ◌≤◌, inl, inr, true, false, cond, ◌==◌, All, List, [], ◌∷◌, ◌++◌, filter, length, map, refl, ap, sym, subst, arith}
use Rattle.std.proofs.lemmas.Bool.{both_ways, cases_Bool, cases_lt, eqb-true, or_cases}
use Rattle.std.proofs.lemmas.List.{append-nil, map-append}
use Rattle.std.proofs.lemmas.List.Elements.{All-cons, All-head, All-tail, filter-append}
use Rattle.std.specs.List.{range_with_len}
use Rattle.left_laws.specs.Lines.{has_put, put_sectors, shown_to}
use Rattle.storage_model.specs.Contents.{IsWithin}
use Rattle.storage_model.specs.declared.block.Block.{Block}
use Rattle.storage_model.specs.declared.marks.Mark.{Mark}
use Rattle.storage_model.specs.declared.marks.Mark.TheVariants.{Put as PutMark, Bar}

-- what no step changes is the same at both ends

steady_by : {X : Type 0} (f : ℕ → X) (n d : ℕ) → ((j : ℕ) → n ≤ j → j < n + d → f (suc j) ≡ f j) → f (n + d) ≡ f n
steady_by f n zero same = let to : n + 0 ≡ n = omega arith in ap f to
steady_by f n (suc d) same =
    let to : n + suc d ≡ suc (n + d) = omega arith in
    ap f to ∙ (same (n + d) (omega arith) (omega arith) ∙ steady_by f n d (λ j a b. same j a (omega arith)))

pub steady : {X : Type 0} (f : ℕ → X) (n k : ℕ) → n ≤ k → ((j : ℕ) → n ≤ j → j < k → f (suc j) ≡ f j) → f k ≡ f n
steady f n k above same =
    let to : n + (k - n) ≡ k = omega arith in
    sym (ap f to) ∙ steady_by f n (k - n) (λ j a b. same j a (omega arith))

-- the next sector

range_last : (a n j : ℕ) → a + n ≡ j → range_with_len a (suc n) ≡ range_with_len a n ++ j ∷ []
range_last a zero j e = let same : a ≡ j = omega arith in ap (λ k. k ∷ []) same
range_last a (suc n) j e = ap (λ l. a ∷ l) (range_last (a + 1) n j (omega arith))

sectors_last : (pend : List Mark) (n : ℕ) → put_sectors pend (suc n) ≡ put_sectors pend n ++ cond (has_put n pend) (n ∷ []) []
sectors_last pend n =
    ap (filter (λ k. has_put k pend)) (range_last 0 n n (omega arith)) ∙ filter-append (λ k. has_put k pend) (range_with_len 0 n) (n ∷ [])

pub sectors_put : (pend : List Mark) (n : ℕ) → has_put n pend ≡ true → put_sectors pend (suc n) ≡ put_sectors pend n ++ n ∷ []
sectors_put pend n put = sectors_last pend n ∙ ap (λ b. put_sectors pend n ++ cond b (n ∷ []) []) put

pub sectors_skip : (pend : List Mark) (n : ℕ) → has_put n pend ≡ false → put_sectors pend (suc n) ≡ put_sectors pend n
sectors_skip pend n off = sectors_last pend n ∙ (ap (λ b. put_sectors pend n ++ cond b (n ∷ []) []) off ∙ append-nil (put_sectors pend n))

pub map_put : {X : Type 0} (f : ℕ → X) (pend : List Mark) (n : ℕ) → has_put n pend ≡ true → map f (put_sectors pend (suc n)) ≡ map f (put_sectors pend n) ++ f n ∷ []
map_put f pend n put = ap (map f) (sectors_put pend n put) ∙ map-append f (put_sectors pend n) (n ∷ [])

pub map_skip : {X : Type 0} (f : ℕ → X) (pend : List Mark) (n : ℕ) → has_put n pend ≡ false → map f (put_sectors pend (suc n)) ≡ map f (put_sectors pend n)
map_skip f pend n off = ap (map f) (sectors_skip pend n off)

-- what holds of all lines holds of a sector's

all_front : {X : Type 0} (P : X → Type 0) (xs : List X) (y : X) → All P (xs ++ y ∷ []) → All P xs
all_front P [] y all = λ k d below. absurd (omega arith)
all_front P (x ∷ xs) y all = All-cons P x xs (All-head P x (xs ++ y ∷ []) all) (all_front P xs y (All-tail P x (xs ++ y ∷ []) all))

all_last : {X : Type 0} (P : X → Type 0) (xs : List X) (y : X) → All P (xs ++ y ∷ []) → P y
all_last P [] y all = All-head P y [] all
all_last P (x ∷ xs) y all = all_last P xs y (All-tail P x (xs ++ y ∷ []) all)

pub All_put : {X : Type 0} (f : ℕ → X) (P : X → Type 0) (pend : List Mark) (n k : ℕ) → All P (map f (put_sectors pend n)) → k < n → has_put k pend ≡ true → P (f k)
All_put f P pend zero k all below put = absurd (omega arith)
All_put f P pend (suc n) k all below put =
    elim (cases_Bool (has_put n pend)) [
      | inl last ↦
          let split : All P (map f (put_sectors pend n) ++ f n ∷ []) = subst (All P) (map_put f pend n last) all in
          elim (cases_lt k n) [
            | inl before ↦ All_put f P pend n k (all_front P (map f (put_sectors pend n)) (f n) split) before put
            | inr here ↦ let is : n ≡ k = omega arith in subst (λ j. P (f j)) is (all_last P (map f (put_sectors pend n)) (f n) split)
          ]
      | inr off ↦
          elim (cases_lt k n) [
            | inl before ↦ All_put f P pend n k (subst (All P) (map_skip f pend n off) all) before put
            | inr here ↦ let is : k ≡ n = omega arith in absurd (both_ways (has_put k pend) (ap (λ j. has_put j pend) is ∙ off) put)
          ]
    ]

-- two functions that agree on the sectors
pub map_same : {X : Type 0} (f g : ℕ → X) (pend : List Mark) (n : ℕ) → ((j : ℕ) → j < n → f j ≡ g j) → map f (put_sectors pend n) ≡ map g (put_sectors pend n)
map_same f g pend zero same = refl
map_same f g pend (suc n) same =
    let before = map_same f g pend n (λ j below. same j (omega arith)) in
    elim (cases_Bool (has_put n pend)) [
      | inl put ↦ map_put f pend n put ∙ (ap (λ xs. xs ++ f n ∷ []) before ∙ (ap (λ x. map g (put_sectors pend n) ++ x ∷ []) (same n (omega arith)) ∙ sym (map_put g pend n put)))
      | inr off ↦ map_skip f pend n off ∙ (before ∙ sym (map_skip g pend n off))
    ]

-- behind the last sector with a put there is none

pub shown_put : (pend : List Mark) (n : ℕ) → has_put n pend ≡ true → shown_to pend (suc n) ≡ n + 1
shown_put pend n put = ap (λ b. cond b (n + 1) (shown_to pend n)) put

pub shown_skip : (pend : List Mark) (n : ℕ) → has_put n pend ≡ false → shown_to pend (suc n) ≡ shown_to pend n
shown_skip pend n off = ap (λ b. cond b (n + 1) (shown_to pend n)) off

pub shown_behind : (pend : List Mark) (n : ℕ) → (shown_to pend n ≤ n) × ((j : ℕ) → shown_to pend n ≤ j → j < n → has_put j pend ≡ false)
shown_behind pend zero = (omega arith, λ j a b. absurd (omega arith))
shown_behind pend (suc n) =
    let before = shown_behind pend n in
    let at = before.0 in
    elim (cases_Bool (has_put n pend)) [
      | inl put ↦ let is = shown_put pend n put in (omega arith, λ j a b. absurd (omega arith))
      | inr off ↦
          let is = shown_skip pend n off in (
            omega arith,
            λ j a b. elim (cases_lt j n) [
              | inl below ↦ before.1 j (omega arith) below
              | inr last ↦ let same : j ≡ n = omega arith in rw same off
            ],
          )
    ]

-- a sector with a put is one of the contents
pub put_inside : (base : List Block) (pend : List Mark) (k : ℕ) → All (IsWithin base) pend → has_put k pend ≡ true → k < length base
put_inside base [] k all put = absurd (cc)
put_inside base (Bar ∷ pend) k all put = put_inside base pend k (All-tail (IsWithin base) Bar pend all) put
put_inside base (PutMark put ∷ pend) k all has =
    elim (or_cases (put.sector == k) (has_put k pend) has) [
      | inl here ↦
          let at : put.sector ≡ k = eqb-true put.sector k here in
          let inside : put.sector < length base = All-head (IsWithin base) (PutMark put) pend all in
          omega arith
      | inr later ↦ put_inside base pend k (All-tail (IsWithin base) (PutMark put) pend all) later
    ]

pub none_outside : (base : List Block) (pend : List Mark) (k : ℕ) → All (IsWithin base) pend → length base ≤ k → has_put k pend ≡ false
none_outside base pend k all out =
    elim (cases_Bool (has_put k pend)) [
      | inl put ↦ let inside = put_inside base pend k all put in absurd (omega arith)
      | inr off ↦ off
    ]

-- The first of the sectors with a put.
use Rattle.std.proofs.Common.{◌≡◌, ◌∙◌, ◌∷◌, ◌+◌, ◌<◌, ◌≤◌, inl, inr, ℕ, zero, suc, true, All, List, [], length, take, ap, sym, subst, arith}
use Rattle.std.proofs.lemmas.Bool.{cases_Bool, cases_lt}
use Rattle.std.proofs.lemmas.List.{length-append, take-append-le, take_all}
use Rattle.std.proofs.lemmas.List.Elements.{All-append, All-cons, All-nil}
use Rattle.left_laws.proofs.Sectors.{sectors_put, sectors_skip}
use Rattle.left_laws.specs.Lines.{has_put, put_sectors}
use Rattle.storage_model.specs.declared.marks.Mark.{Mark}

sectors_within : (pend : List Mark) (n end : ℕ) → n ≤ end → All (λ k. k < end) (put_sectors pend n)
sectors_within pend zero end few = All-nil (λ k. k < end)
sectors_within pend (suc n) end few = elim (cases_Bool (has_put n pend)) [
  | inl put ↦
      subst (All (λ k. k < end)) (sym (sectors_put pend n put))
      (All-append (λ k. k < end) (put_sectors pend n) (n ∷ []) (sectors_within pend n end (omega (arith, few))) (All-cons (λ k. k < end) n [] (omega (arith, few)) (All-nil (λ k. k < end))))
  | inr off ↦ subst (All (λ k. k < end)) (sym (sectors_skip pend n off)) (sectors_within pend n end (omega (arith, few)))
]

pub sectors_below : (pend : List Mark) (n : ℕ) → All (λ k. k < n) (put_sectors pend n)
sectors_below pend n = sectors_within pend n n (omega arith)

-- so many of them are those below a sector with a put
pub record IsFront (pend : List Mark) (n k : ℕ) : Type 0 where
  pub sector : ℕ
  pub below : sector < n
  pub put : has_put sector pend ≡ true
  pub are : take k (put_sectors pend n) ≡ put_sectors pend sector

further : (pend : List Mark) (n k : ℕ) → k ≤ length (put_sectors pend n) → IsFront pend n k → IsFront pend (suc n) k
further pend n k few front = record {
  sector = front.sector;
  below = let less = front.below in omega (arith, less);
  put = front.put;
  are = elim (cases_Bool (has_put n pend)) [
    | inl put ↦ ap (take k) (sectors_put pend n put) ∙ (take-append-le k (put_sectors pend n) (n ∷ []) few ∙ front.are)
    | inr off ↦ ap (take k) (sectors_skip pend n off) ∙ front.are
  ];
}

at_last : (pend : List Mark) (n k : ℕ) → has_put n pend ≡ true → k ≡ length (put_sectors pend n) → IsFront pend (suc n) k
at_last pend n k put is = record {
  sector = n;
  below = omega arith;
  put = put;
  are = ap (take k) (sectors_put pend n put) ∙ (take-append-le k (put_sectors pend n) (n ∷ []) (omega (arith, is)) ∙ take_all k (put_sectors pend n) (omega (arith, is)));
}

pub one_at : (pend : List Mark) (n k : ℕ) → k < length (put_sectors pend n) → IsFront pend n k
one_at pend zero k few = absurd (omega (arith, few))
one_at pend (suc n) k few = elim (cases_lt k (length (put_sectors pend n))) [
  | inl less ↦ further pend n k (omega (arith, less)) (one_at pend n k less)
  | inr past ↦ elim (cases_Bool (has_put n pend)) [
    | inl put ↦ at_last pend n k put (let long : length (put_sectors pend (suc n)) ≡ length (put_sectors pend n) + 1 = ap (λ xs. length xs) (sectors_put pend n put) ∙ length-append (put_sectors pend n) (n ∷ []) in omega (arith, long, few, past))
    | inr off ↦ absurd (let long : length (put_sectors pend (suc n)) ≡ length (put_sectors pend n) = ap (λ xs. length xs) (sectors_skip pend n off) in omega (arith, long, few, past))
  ]
]

-- the first of them, or all
pub record IsPart (pend : List Mark) (n k : ℕ) : Type 0 where
  pub sector : ℕ
  pub below : sector ≤ n
  pub are : take k (put_sectors pend n) ≡ put_sectors pend sector

pub part_at : (pend : List Mark) (n k : ℕ) → k ≤ length (put_sectors pend n) → IsPart pend n k
part_at pend n k few = elim (cases_lt k (length (put_sectors pend n))) [
  | inl less ↦
      let front = one_at pend n k less in
      record { sector = front.sector; below = (let below = front.below in omega (arith, below)); are = front.are }
  | inr past ↦ record { sector = n; below = omega arith; are = take_all k (put_sectors pend n) past }
]

-- The lowest sector, from a first on, that has a put.
use Rattle.std.proofs.Common.{◌≡◌, ◌∙◌, ℕ, suc, ◌<◌, ◌≤◌, inl, inr, Bool, true, false, ◌||◌, ◌==◌, nat_le, if◌then◌else◌, Option, Some, None, min, List, [], ◌∷◌, fold, refl, ap, arith}
use Rattle.std.proofs.Math.Bool.{or-false}
use Rattle.std.proofs.lemmas.Bool.{both_ways, cases_lt, eq-eqb, le-leb, lt-leb, ne_eqb, or_from, or_left, or_right}
use Rattle.left_laws.specs.Lines.{has_put}
use Rattle.storage_machine.specs.Cuts.{least, nearer, next_left}
use Rattle.storage_model.specs.declared.marks.Mark.{Mark}
use Rattle.storage_model.specs.declared.marks.Mark.TheVariants.{Put as PutMark, Bar}

-- the lowest number, from a first on, of which a test holds
abbrev pub Lowest : ℕ → (ℕ → Bool) → Option ℕ → Type 0
Lowest from has None = (j : ℕ) → from ≤ j → has j ≡ false
Lowest from has (Some k) = (from ≤ k) × (has k ≡ true) × ((j : ℕ) → from ≤ j → j < k → has j ≡ false)

lowest_same : (from : ℕ) (has other : ℕ → Bool) (best : Option ℕ) → ((j : ℕ) → other j ≡ has j) → Lowest from has best → Lowest from other best
lowest_same from has other None same low = λ j above. same j ∙ low j above
lowest_same from has other (Some k) same low = (low.0, same k ∙ low.1, λ j above below. same j ∙ low.2 j above below)

-- one more number of which it holds

lowest_more : (from n : ℕ) (has : ℕ → Bool) (best : Option ℕ) → from ≤ n → Lowest from has best → Lowest from (λ j. has j || (n == j)) (least best n)
lowest_more from n has None above low = (above, or_right (has n) (n == n) (eq-eqb n n refl), λ j a b. or_from (has j) (n == j) (low j a) (ne_eqb n j (omega arith)))
lowest_more from n has (Some k) above low =
    elim (cases_lt k n) [
      | inl below ↦
          let is : min k n ≡ k = omega arith in
          rw is (low.0, or_left (has k) (n == k) low.1, λ j a b. or_from (has j) (n == j) (low.2 j a b) (ne_eqb n j (omega arith)))
      | inr at ↦
          let is : min k n ≡ n = omega arith in
          rw is (above, or_right (has n) (n == n) (eq-eqb n n refl), λ j a b. or_from (has j) (n == j) (low.2 j a (omega arith)) (ne_eqb n j (omega arith)))
    ]

lowest_less : (from n : ℕ) (has : ℕ → Bool) (best : Option ℕ) → n < from → Lowest from has best → Lowest from (λ j. has j || (n == j)) best
lowest_less from n has None below low = λ j a. or_from (has j) (n == j) (low j a) (ne_eqb n j (omega arith))
lowest_less from n has (Some k) below low =
    (low.0, or_left (has k) (n == k) low.1, λ j a b. or_from (has j) (n == j) (low.2 j a b) (ne_eqb n j (omega arith)))

lowest_put : (from : ℕ) (has : ℕ → Bool) (best : Option ℕ) (n : ℕ) → Lowest from has best → Lowest from (λ j. has j || (n == j)) (if nat_le from n then least best n else best)
lowest_put from has best n low =
    elim (cases_lt n from) [
      | inl below ↦ rw (lt-leb from n below) (lowest_less from n has best below low)
      | inr above ↦ rw (le-leb from n above) (lowest_more from n has best above low)
    ]

or_assoc : (x y z : Bool) → (x || (y || z)) ≡ ((x || y) || z)
or_assoc true y z = refl
or_assoc false y z = refl

lowest_from : (from : ℕ) (has : ℕ → Bool) (best : Option ℕ) (marks : List Mark) → Lowest from has best → Lowest from (λ j. has j || has_put j marks) (fold (nearer from) best marks)
lowest_from from has best [] low = lowest_same from has (λ j. has j || false) best (λ j. or-false (has j)) low
lowest_from from has best (Bar ∷ marks) low = lowest_from from has best marks low
lowest_from from has best (PutMark put ∷ marks) low =
    lowest_same from (λ j. (has j || (put.sector == j)) || has_put j marks) (λ j. has j || ((put.sector == j) || has_put j marks)) (fold (nearer from) (nearer from best (PutMark put)) marks)
    (λ j. or_assoc (has j) (put.sector == j) (has_put j marks))
    (lowest_from from (λ j. has j || (put.sector == j)) (nearer from best (PutMark put)) marks (lowest_put from has best put.sector low))

pub next_lowest : (pend : List Mark) (from : ℕ) → Lowest from (λ j. has_put j pend) (next_left pend from)
unfolding next_left
next_lowest pend from = lowest_from from (λ j. false) None pend (λ j above. refl)

-- it is the only one

pub lowest_is : (from k : ℕ) (has : ℕ → Bool) (best : Option ℕ) → Lowest from has best → from ≤ k → has k ≡ true → ((j : ℕ) → from ≤ j → j < k → has j ≡ false) → best ≡ Some k
lowest_is from k has None low above holds none = absurd (both_ways (has k) (low k above) holds)
lowest_is from k has (Some m) low above holds none =
    elim (cases_lt m k) [
      | inl below ↦ absurd (both_ways (has m) (none m low.0 below) low.1)
      | inr at ↦ elim (cases_lt k m) [
        | inl before ↦ absurd (both_ways (has k) (low.2 k above before) holds)
        | inr same ↦ let is : m ≡ k = omega arith in ap Some is
      ]
    ]

lowest_none : (from : ℕ) (has : ℕ → Bool) (best : Option ℕ) → Lowest from has best → ((j : ℕ) → from ≤ j → has j ≡ false) → best ≡ None
lowest_none from has None low none = refl
lowest_none from has (Some k) low none = absurd (both_ways (has k) (none k low.0) low.1)

pub next_is : (pend : List Mark) (from k : ℕ) → from ≤ k → has_put k pend ≡ true → ((j : ℕ) → from ≤ j → j < k → has_put j pend ≡ false) → next_left pend from ≡ Some k
next_is pend from k above put none = lowest_is from k (λ j. has_put j pend) (next_left pend from) (next_lowest pend from) above put none

pub next_none : (pend : List Mark) (from : ℕ) → ((j : ℕ) → from ≤ j → has_put j pend ≡ false) → next_left pend from ≡ None
next_none pend from none = lowest_none from (λ j. has_put j pend) (next_left pend from) (next_lowest pend from) none

pub next_at : (pend : List Mark) (from k : ℕ) → next_left pend from ≡ Some k → (from ≤ k) × (has_put k pend ≡ true) × ((j : ℕ) → from ≤ j → j < k → has_put j pend ≡ false)
next_at pend from k at = rw at at (next_lowest pend from)

pub none_at : (pend : List Mark) (from : ℕ) → next_left pend from ≡ None → (j : ℕ) → from ≤ j → has_put j pend ≡ false
none_at pend from at = rw at at (next_lowest pend from)

-- a sector without a put is passed

skip_by : (n : ℕ) (has : ℕ → Bool) (best other : Option ℕ) → has n ≡ false → Lowest (suc n) has best → Lowest n has other → best ≡ other
skip_by n has None other off low low' =
    let is : other ≡ None = lowest_none n has other low' (λ j above. elim (cases_lt n j) [
      | inl past ↦ low j (omega arith)
      | inr at ↦ let same : j ≡ n = omega arith in rw same off
    ]) in rw is refl
skip_by n has (Some k) other off low low' =
    let above = low.0 in
    let is : other ≡ Some k = lowest_is n k has other low' (omega arith) low.1 (λ j a b. elim (cases_lt n j) [
      | inl past ↦ low.2 j (omega arith) b
      | inr at ↦ let same : j ≡ n = omega arith in rw same off
    ]) in rw is refl

pub next_skip : (pend : List Mark) (n : ℕ) → has_put n pend ≡ false → next_left pend (suc n) ≡ next_left pend n
next_skip pend n off = skip_by n (λ j. has_put j pend) (next_left pend (suc n)) (next_left pend n) off (next_lowest pend (suc n)) (next_lowest pend n)

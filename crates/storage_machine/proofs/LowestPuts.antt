-- The lowest sector, from a first on, that has a put.
use Rattle.std.proofs.Common.{◌≡◌, ℕ, ◌<◌, ◌≤◌, inl, inr, Option, Some, None, ◌==◌, min, List, [], ◌∷◌, fold, refl, ap, arith}
use Rattle.std.proofs.lemmas.Bool.{cases_Bool, cases_lt, eq-eqb, eqb-true, le-leb, lt-leb}
use Rattle.storage_machine.specs.Cuts.{least, nearer, next_left}
use Rattle.storage_machine.specs.PutIndex.{puts_on}
use Rattle.storage_model.specs.declared.marks.Put.{Put}
use Rattle.storage_model.specs.declared.marks.Mark.{Mark}
use Rattle.storage_model.specs.declared.marks.Mark.TheVariants.{Put as PutMark, Bar}

-- the sectors from a first one on, below an end, have no put
abbrev pub AreFree : ℕ → ℕ → List Mark → Type 0
AreFree from end marks = (t : ℕ) → from ≤ t → t < end → puts_on t marks ≡ []

free_other : (t : ℕ) (put : Put) (marks : List Mark) → puts_on t (PutMark put ∷ marks) ≡ [] → puts_on t marks ≡ []
free_other t put marks none =
    elim (cases_Bool (put.sector == t)) [
      | inl same ↦ absurd (cc (same, none))
      | inr other ↦ rw other at none
    ]

taken : (put : Put) (marks : List Mark) → puts_on put.sector (PutMark put ∷ marks) ≡ [] → ⊥
taken put marks none = let same = eq-eqb put.sector put.sector refl in cc (same, none)

-- none is found that is no put
none_from : (from : ℕ) (marks : List Mark) → ((t : ℕ) → from ≤ t → puts_on t marks ≡ []) → fold (nearer from) None marks ≡ None
none_from from [] free = refl
none_from from (Bar ∷ marks) free = none_from from marks free
none_from from (PutMark put ∷ marks) free =
    elim (cases_lt put.sector from) [
      | inl below ↦ rw (lt-leb from put.sector below) (none_from from marks (λ t above. free_other t put marks (free t above)))
      | inr above ↦ absurd (taken put marks (free put.sector above))
    ]

pub next_none : (from : ℕ) (marks : List Mark) → ((t : ℕ) → from ≤ t → puts_on t marks ≡ []) → next_left marks from ≡ None
unfolding next_left
next_none from marks free = none_from from marks free

-- a sector stays the lowest
lowest_stays : (from s : ℕ) (marks : List Mark) → AreFree from s marks → fold (nearer from) (Some s) marks ≡ Some s
lowest_stays from s [] free = refl
lowest_stays from s (Bar ∷ marks) free = lowest_stays from s marks free
lowest_stays from s (PutMark put ∷ marks) free =
    let rest = lowest_stays from s marks (λ t above below. free_other t put marks (free t above below)) in
    elim (cases_lt put.sector from) [
      | inl below ↦ rw (lt-leb from put.sector below) rest
      | inr above ↦ elim (cases_lt put.sector s) [
        | inl low ↦ absurd (taken put marks (free put.sector above low))
        | inr high ↦ let least : min s put.sector ≡ s = omega arith in rw (le-leb from put.sector above, least) rest
      ]
    ]

-- it is found
abbrev pub IsAbove : ℕ → Option ℕ → Type 0
IsAbove s None = Unit {0}
IsAbove s (Some k) = s ≤ k

least_of : (s : ℕ) (best : Option ℕ) → IsAbove s best → least best s ≡ Some s
least_of s None above = refl
least_of s (Some k) above = ap Some (omega arith)

above_least : (s n : ℕ) (best : Option ℕ) → IsAbove s best → s ≤ n → IsAbove s (least best n)
above_least s n None above more = more
above_least s n (Some k) above more = omega (arith, above, more)

lowest_found : (from s : ℕ) (best : Option ℕ) (marks : List Mark) → from ≤ s → AreFree from s marks → IsAbove s best → (puts_on s marks ≡ [] → ⊥) → fold (nearer from) best marks ≡ Some s
lowest_found from s best [] after free above some = absurd (some refl)
lowest_found from s best (Bar ∷ marks) after free above some = lowest_found from s best marks after free above some
lowest_found from s best (PutMark put ∷ marks) after free above some =
    let rest : AreFree from s marks = λ t a b. free_other t put marks (free t a b) in
    elim (cases_Bool (put.sector == s)) [
      | inl same ↦
          let is : put.sector ≡ s = eqb-true put.sector s same in
          rw (is, le-leb from s after, least_of s best above) (lowest_stays from s marks rest)
      | inr other ↦
          let some_rest : puts_on s marks ≡ [] → ⊥ = λ none. some (rw other none) in
          elim (cases_lt put.sector from) [
            | inl below ↦ rw (lt-leb from put.sector below) (lowest_found from s best marks after rest above some_rest)
            | inr over ↦ elim (cases_lt put.sector s) [
              | inl low ↦ absurd (taken put marks (free put.sector over low))
              | inr high ↦ rw (le-leb from put.sector over) (lowest_found from s (least best put.sector) marks after rest (above_least s put.sector best above high) some_rest)
            ]
          ]
    ]

pub next_is : (from s : ℕ) (marks : List Mark) → from ≤ s → AreFree from s marks → (puts_on s marks ≡ [] → ⊥) → next_left marks from ≡ Some s
unfolding next_left
next_is from s marks after free some = lowest_found from s None marks after free tt some

-- The fault of a number, found by its place in the list.
use Rattle.std.proofs.Common.{zero, suc, inl, inr, ◌≡◌, ℕ, ◌+◌, ◌<◌, ◌≤◌, ◌==◌, Bool, true, false, List, [], ◌∷◌, Some, None, length, get_or, arith, refl, sym, eq-eqb}
use Rattle.std.proofs.lemmas.Bool.{cases_order, ne_eqb}
use Rattle.std.proofs.lemmas.List.{get_or_default}
use Rattle.std.specs.List.{find}
use Rattle.storage_model.specs.declared.faults.Hit.{Hit}
use Rattle.storage_model.specs.Faults.{IsValidHits}
use Rattle.bus_link.specs.Hits.{IsPast, fault_of}

found_at : (p : Hit → Bool) (xs : List Hit) (at : ℕ) (d : Hit) → at < length xs → ((k : ℕ) → k < at → p (get_or xs k d) ≡ false)
    → p (get_or xs at d) ≡ true → find p xs ≡ Some (get_or xs at d)
found_at p [] at d within before here = absurd (omega arith)
found_at p (x ∷ xs) zero d within before here = rw here refl
found_at p (x ∷ xs) (suc at) d within before here =
    let first : p x ≡ false = before 0 (omega arith) in
    rw first (found_at p xs at d (omega arith) (λ k below. before (suc k) (omega arith)) here)

found_nowhere : (p : Hit → Bool) (xs : List Hit) (d : Hit) → ((k : ℕ) → k < length xs → p (get_or xs k d) ≡ false) → find p xs ≡ None
found_nowhere p [] d none = refl
found_nowhere p (x ∷ xs) d none =
    let first : p x ≡ false = none 0 (omega arith) in
    rw first (found_nowhere p xs d (λ k below. none (suc k) (omega arith)))

pub past_more : (hits : List Hit) (number place : ℕ) (none : Hit) → IsPast hits number place → place < length hits
    → (get_or hits place none).n < number → IsPast hits number (place + 1)
past_more hits number place none past more here = record {
  within = omega arith;
  before = λ k none' below. elim (cases_order k place) [
    | inl same ↦ rw (same, get_or_default hits place none' none more) here
    | inr (inl less) ↦ past.before k none' less
    | inr (inr over) ↦ absurd (omega arith)
  ];
}

pub hit_here : (hits : List Hit) (number place : ℕ) (none : Hit) → IsPast hits number place → place < length hits
    → (get_or hits place none).n ≡ number → Some (get_or hits place none) ≡ fault_of hits number
hit_here hits number place none past within same =
    sym (found_at (λ hit. hit.n == number) hits place none within
    (λ k below. ne_eqb (get_or hits k none).n number (λ equal. let less = past.before k none below in omega arith))
    (eq-eqb (get_or hits place none).n number same))

pub hit_nowhere : (hits : List Hit) (number place : ℕ) (none : Hit) → IsValidHits hits → IsPast hits number place → place < length hits
    → number < (get_or hits place none).n → None ≡ fault_of hits number
hit_nowhere hits number place none valid past within above =
    sym (found_nowhere (λ hit. hit.n == number) hits none (λ k inside. ne_eqb (get_or hits k none).n number (λ equal.
    elim (cases_order k place) [
      | inl same ↦ let more : number < (get_or hits k none).n = rw same above in omega arith
      | inr (inl less) ↦ let less' = past.before k none less in omega arith
      | inr (inr over) ↦ let more = valid place k none over inside in omega arith
    ])))

pub hit_passed : (hits : List Hit) (number place : ℕ) (none : Hit) → IsPast hits number place → length hits ≤ place → None ≡ fault_of hits number
hit_passed hits number place none past over =
    sym (found_nowhere (λ hit. hit.n == number) hits none (λ k inside. ne_eqb (get_or hits k none).n number (λ equal.
    let less = past.before k none (omega arith) in omega arith)))

-- the place for a later number
pub past_later : (hits : List Hit) (number later place : ℕ) → number ≤ later → IsPast hits number place → IsPast hits later place
past_later hits number later place le past = record { within = past.within; before = λ k none below. let less = past.before k none below in omega arith }

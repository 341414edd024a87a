-- The fault of a call number, found by its place in the list.
use Rattle.std.proofs.Common.{zero, suc, inl, inr, ◌∙◌, ◌≡◌, ◌≢◌, ℕ, ◌+◌, ◌<◌, ◌≤◌, ◌==◌, ◌&&◌, Bool, true, false, List, [], ◌∷◌, Some, None, length, get_or, arith, refl, sym, eq-eqb}
use Rattle.storage_model.specs.Faults.{IsValidArrayHits}
use Rattle.std.proofs.lemmas.Bool.{cases_order, false≢true, ne_eqb, true≢false}
use Rattle.std.proofs.lemmas.List.{get_or_default}
use Rattle.std.specs.Bool.{beq}
use Rattle.std.specs.List.{find}
use Rattle.storage_model.specs.declared.faults.ArrayHit.{ArrayHit}
use Rattle.array_edge.specs.Hits.{IsPast, hit_of, is_hit}

pub found_at : {X : Type 0} (p : X → Bool) (xs : List X) (at : ℕ) (d : X) → at < length xs → ((k : ℕ) → k < at → p (get_or xs k d) ≡ false) → p (get_or xs at d) ≡ true → find p xs ≡ Some (get_or xs at d)
found_at p [] at d within before here = absurd (omega arith)
found_at p (x ∷ xs) zero d within before here = rw here refl
found_at p (x ∷ xs) (suc at) d within before here =
    let first : p x ≡ false = before 0 (omega arith) in
    rw first (found_at p xs at d (omega arith) (λ k below. before (suc k) (omega arith)) here)

pub found_nowhere : {X : Type 0} (p : X → Bool) (xs : List X) (d : X) → ((k : ℕ) → k < length xs → p (get_or xs k d) ≡ false) → find p xs ≡ None
found_nowhere p [] d none = refl
found_nowhere p (x ∷ xs) d none =
    let first : p x ≡ false = none 0 (omega arith) in
    rw first (found_nowhere p xs d (λ k below. none (suc k) (omega arith)))

under_kind : (a b test : Bool) → (a ≡ b → test ≡ false) → (beq a b && test) ≡ false
under_kind true true test other = other refl
under_kind true false test other = refl
under_kind false true test other = refl
under_kind false false test other = other refl

of_kind : (a b test : Bool) → a ≡ b → test ≡ true → (beq a b && test) ≡ true
of_kind true true test kind here = here
of_kind true false test kind here = absurd (true≢false kind)
of_kind false true test kind here = absurd (false≢true kind)
of_kind false false test kind here = here

pub same_kind : (a b : Bool) → beq a b ≡ true → a ≡ b
same_kind true true test = refl
same_kind true false test = absurd (false≢true test)
same_kind false true test = absurd (false≢true test)
same_kind false false test = refl

pub other_kind : (a b : Bool) → beq a b ≡ false → a ≡ b → ⊥
other_kind true true test kind = true≢false test
other_kind true false test kind = true≢false kind
other_kind false true test kind = false≢true kind
other_kind false false test kind = true≢false test

-- a fault of another kind or number
pub other_hit : (fetch : Bool) (number : ℕ) (hit : ArrayHit) → (hit.fetch ≡ fetch → hit.n ≢ number) → is_hit fetch number hit ≡ false
other_hit fetch number hit apart = under_kind hit.fetch fetch (hit.n == number) (λ kind. ne_eqb hit.n number (apart kind))

pub this_hit : (fetch : Bool) (number : ℕ) (hit : ArrayHit) → hit.fetch ≡ fetch → hit.n ≡ number → is_hit fetch number hit ≡ true
this_hit fetch number hit kind same = of_kind hit.fetch fetch (hit.n == number) kind (eq-eqb hit.n number same)

pub past_more : (hits : List ArrayHit) (fetch : Bool) (number place : ℕ) (none : ArrayHit) → IsPast hits fetch number place → place < length hits
    → ((get_or hits place none).fetch ≡ fetch → (get_or hits place none).n < number) → IsPast hits fetch number (place + 1)
past_more hits fetch number place none past more here = record {
  within = omega arith;
  before = λ k none' below. elim (cases_order k place) [
    | inl same ↦ rw (same, get_or_default hits place none' none more) here
    | inr (inl less) ↦ past.before k none' less
    | inr (inr over) ↦ absurd (omega arith)
  ];
}

pub hit_here : (hits : List ArrayHit) (fetch : Bool) (number place : ℕ) (none : ArrayHit) → IsPast hits fetch number place → place < length hits
    → (get_or hits place none).fetch ≡ fetch → (get_or hits place none).n ≡ number → Some (get_or hits place none) ≡ hit_of hits fetch number
hit_here hits fetch number place none past within kind same =
    sym (found_at (is_hit fetch number) hits place none within
    (λ k below. other_hit fetch number (get_or hits k none) (λ k_kind. let less = past.before k none below k_kind in omega arith))
    (this_hit fetch number (get_or hits place none) kind same))

pub hit_nowhere : (hits : List ArrayHit) (fetch : Bool) (number place : ℕ) (none : ArrayHit) → IsValidArrayHits hits → IsPast hits fetch number place → place < length hits
    → (get_or hits place none).fetch ≡ fetch → number < (get_or hits place none).n → None ≡ hit_of hits fetch number
hit_nowhere hits fetch number place none valid past within kind above =
    sym (found_nowhere (is_hit fetch number) hits none (λ k inside. other_hit fetch number (get_or hits k none) (λ k_kind.
    elim (cases_order k place) [
      | inl same ↦ let more : number < (get_or hits k none).n = rw same above in omega arith
      | inr (inl less) ↦ let less' = past.before k none less k_kind in omega arith
      | inr (inr over) ↦ let more = valid.rising place k none over inside (kind ∙ sym k_kind) in omega arith
    ])))

pub hit_passed : (hits : List ArrayHit) (fetch : Bool) (number place : ℕ) (none : ArrayHit) → IsPast hits fetch number place → length hits ≤ place → None ≡ hit_of hits fetch number
hit_passed hits fetch number place none past over =
    sym (found_nowhere (is_hit fetch number) hits none (λ k inside. other_hit fetch number (get_or hits k none) (λ k_kind.
    let less = past.before k none (omega arith) k_kind in omega arith)))

-- the place for a later number
pub past_later : (hits : List ArrayHit) (fetch : Bool) (number later place : ℕ) → number ≤ later → IsPast hits fetch number place → IsPast hits fetch later place
past_later hits fetch number later place le past = record { within = past.within; before = λ k none below kind. let less = past.before k none below kind in omega arith }

-- The first slot of a list that passes a test, by a loop over its places.
use Rattle.std.proofs.Common.{◌≡◌, ℕ, zero, suc, ◌+◌, ◌<◌, ◌≤◌, Bool, true, false, List, [], ◌∷◌, map, take, drop, refl, sym, ap, ◌∙◌, arith, add-one, length}
use Rattle.std.specs.Prelude.{Some, None, slice_get, cond}
use Rattle.std.specs.List.{find}
use Rattle.std.proofs.lemmas.Option.{none-some, same_Some, slice_get_past}
use Rattle.std.specs.Option.{option_map}
use Rattle.cq_regs.specs.declared.slots.Ringed.{Ringed}
use Rattle.cq_schedule.specs.Order.{order_of}

taken : (f : Ringed → ℕ) (ring : List Ringed) (n k : ℕ) → k < n → slice_get (take n (map f ring)) k ≡ option_map f (slice_get ring k)
taken f ring zero k below = absurd (omega arith)
taken f [] (suc n) k below = refl
taken f (r ∷ ring) (suc n) zero below = refl
taken f (r ∷ ring) (suc n) (suc k) below = taken f ring n k (omega arith)

-- the k-th slot in order of ringing
pub order_at : (ring : List Ringed) (k : ℕ) → k < 32 → slice_get (order_of ring) k ≡ option_map (λ r. r.slot) (slice_get ring k)
order_at ring k below = taken (λ r. r.slot) ring 32 k below

short : (xs : List ℕ) (n : ℕ) → length (take n xs) ≤ n
short xs zero = omega arith
short [] (suc n) = omega arith
short (x ∷ xs) (suc n) = omega (arith, short xs n)

none_left : (p : ℕ → Bool) (xs : List ℕ) (k : ℕ) → slice_get xs k ≡ None → find p (drop k xs) ≡ None
none_left p [] zero past = refl
none_left p [] (suc k) past = refl
none_left p (x ∷ xs) zero past = absurd (none-some x (sym past))
none_left p (x ∷ xs) (suc k) past = none_left p xs k past

next_left : (p : ℕ → Bool) (xs : List ℕ) (k x : ℕ) → slice_get xs k ≡ Some x → find p (drop k xs) ≡ cond (p x) (Some x) (find p (drop (suc k) xs))
next_left p [] k x here = absurd (none-some x here)
next_left p (y ∷ xs) zero x here = rw (same_Some y x here) refl
next_left p (y ∷ xs) (suc k) x here = next_left p xs k x here

-- none of the first k slots passes
pub record IsPast (p : ℕ → Bool) (xs : List ℕ) (k : ℕ) : Type 0 where
  pub same : find p xs ≡ find p (drop k xs)

pub past_none : (p : ℕ → Bool) (xs : List ℕ) → IsPast p xs 0
past_none p xs = record { same = refl }

pub past_more : (p : ℕ → Bool) (xs : List ℕ) (k x : ℕ) → IsPast p xs k → slice_get xs k ≡ Some x → p x ≡ false → IsPast p xs (k + 1)
past_more p xs k x h here fails =
    record { same = h.same ∙ next_left p xs k x here ∙ ap (λ b. cond b (Some x) (find p (drop (suc k) xs))) fails ∙ ap (λ n. find p (drop n xs)) (sym (add-one k)) }

pub past_found : (p : ℕ → Bool) (xs : List ℕ) (k x : ℕ) → IsPast p xs k → slice_get xs k ≡ Some x → p x ≡ true → Some x ≡ find p xs
past_found p xs k x h here passes =
    sym (h.same ∙ next_left p xs k x here ∙ ap (λ b. cond b (Some x) (find p (drop (suc k) xs))) passes)

pub past_end : (p : ℕ → Bool) (xs : List ℕ) (k : ℕ) → IsPast p xs k → slice_get xs k ≡ None → None ≡ find p xs
past_end p xs k h past = sym (h.same ∙ none_left p xs k past)

-- there is no slot behind the last place
pub order_ends : (ring : List Ringed) → slice_get (order_of ring) 32 ≡ None
order_ends ring = slice_get_past (order_of ring) 32 (short (map (λ r. r.slot) ring) 32)

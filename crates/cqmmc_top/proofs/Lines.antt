-- How many lines of a fault text befall the calls of an array.
use Rattle.std.proofs.Common.{◌≡◌, ◌≤◌, ◌⊎◌, ◌+◌, ◌==◌, ◌||◌, ◌^◌, ◌-◌, inl, inr, ℕ, zero, suc, Bool, true, false, List, [], ◌∷◌, length, refl, arith}
use Rattle.std.proofs.lemmas.Bool.{eqb-true}
use Rattle.std.specs.Prelude.{◌&&◌, count_by, not}
use Rattle.storage_model.specs.Count.{Count, Rose}
use Rattle.storage_model.specs.declared.faults.ArrayHit.{ArrayHit}
use Rattle.trace_print.specs.Prints.{RoseBy}
use Rattle.array_edge.specs.Hits.{is_reached, reached_cuts, reached_fails}
use Rattle.array_edge.specs.Script.{with_more}
use Rattle.power_step.proofs.Counting.{count_no, count_yes}
use Rattle.whole_run.specs.Cuts.{RoseWith}

counted : {X : Type 0} (p : X → Bool) (x : X) (xs : List X) (n m : ℕ) (flag : Bool) → p x ≡ flag → count_by p xs ≤ n → (flag ≡ true → n + 1 ≤ m) → n ≤ m → count_by p (x ∷ xs) ≤ m
counted p x xs n m true is rest raised kept = let more = count_yes p x xs is in let one = raised refl in omega (arith, more, rest, one)
counted p x xs n m false is rest raised kept = let same = count_no p x xs is in omega (arith, same, rest, kept)

count_short : {X : Type 0} (p : X → Bool) (xs : List X) → count_by p xs ≤ length xs
count_short p [] = omega arith
count_short p (x ∷ xs) = counted p x xs (length xs) (length (x ∷ xs)) (p x) refl (count_short p xs) (λ is. omega arith) (omega arith)

pub fails_short : (programs fetches : ℕ) (hits : List ArrayHit) → reached_fails programs fetches hits ≤ length hits
fails_short programs fetches hits = count_short (λ hit. is_reached programs fetches hit && not hit.cut) hits

pub cuts_short : (programs fetches : ℕ) (hits : List ArrayHit) → reached_cuts programs fetches hits ≤ length hits
cuts_short programs fetches hits = count_short (λ hit. is_reached programs fetches hit && hit.cut) hits

-- a count with those of a counter that is far from its end
stands_still : (n k : ℕ) (stands : Bool) → n ≤ k → k ≤ 4096 → (stands || (n == 2 ^ 64 - 1)) ≡ true → stands ≡ true
stands_still n k true few most is = refl
stands_still n k false few most is = let same : n ≡ 2 ^ 64 - 1 = eqb-true n (2 ^ 64 - 1) is in absurd (omega (arith, few, most, same))

-- what it rose by is of the count, or of the counter
pub rose_parts : (m n k : ℕ) (old new : Count) → n ≤ k → k ≤ 4096 → RoseBy m (with_more old 0) (with_more new n) → (old.value + m ≤ new.value + k) ⊎ (new.stands ≡ true)
rose_parts m n k old new few most (inl up) = inl (omega (arith, up, few))
rose_parts m n k old new few most (inr end) = inr (stands_still n k new.stands few most end)

pub rose_either : (n k : ℕ) (old new : Count) → n ≤ k → k ≤ 4096 → Rose (with_more old 0) (with_more new n) → Rose old new ⊎ (1 ≤ k)
rose_either zero k old new few most (inl up) = inl (inl (omega (arith, up)))
rose_either (suc n) k old new few most (inl up) = inr (omega (arith, few))
rose_either n k old new few most (inr end) = inl (inr (stands_still n k new.stands few most end))

-- and so with what else may cut the power
pub rose_with : (m n k more : ℕ) (old new : Count) → n ≤ k → k ≤ 4096 → RoseWith m 0 more (with_more old 0) (with_more new n) → (old.value + m ≤ new.value + (k + more)) ⊎ (new.stands ≡ true)
rose_with m n k more old new few most (inl up) = inl (omega (arith, up, few))
rose_with m n k more old new few most (inr end) = inr (stands_still n k new.stands few most end)

-- Tests of each number below a bound, and of some number.
use Rattle.std.proofs.Common.{◌≡◌, ℕ, ◌<◌, Bool, true, false, refl}
use Rattle.std.proofs.lemmas.Bool.{false_from_ne_true, both_ways}
use Rattle.std.proofs.lemmas.Bool.Decides.{Decides-below_and, Decides-below_or}
use Rattle.storage_model.specs.Left.{every_below, some_below}

pub every_below_from : (n : ℕ) (test : ℕ → Bool) → ((k : ℕ) → k < n → test k ≡ true) → every_below n test ≡ true
every_below_from n test all = (Decides-below_and test (λ k. test k ≡ true) (λ m. every_below m test) (λ k. (λ h. h, λ h. h)) refl (λ _. refl) n).1 all

pub every_below_at : (n : ℕ) (test : ℕ → Bool) (k : ℕ) → every_below n test ≡ true → k < n → test k ≡ true
every_below_at n test k h below = (Decides-below_and test (λ k. test k ≡ true) (λ m. every_below m test) (λ k. (λ h. h, λ h. h)) refl (λ _. refl) n).0 h k below

pub every_below_fails : (n : ℕ) (test : ℕ → Bool) (k : ℕ) → k < n → test k ≡ false → every_below n test ≡ false
every_below_fails n test k below fails = false_from_ne_true (every_below n test) (λ h. both_ways (test k) fails (every_below_at n test k h below))

pub some_below_from : (n : ℕ) (test : ℕ → Bool) (k : ℕ) → k < n → test k ≡ true → some_below n test ≡ true
some_below_from n test k below holds = (Decides-below_or test (λ k. test k ≡ true) (λ m. some_below m test) (λ k. (λ h. h, λ h. h)) refl (λ _. refl) n).1 (k, below, holds)

pub some_below_at : (n : ℕ) (test : ℕ → Bool) → some_below n test ≡ true → (k : ℕ) × (k < n) × (test k ≡ true)
some_below_at n test h = (Decides-below_or test (λ k. test k ≡ true) (λ m. some_below m test) (λ k. (λ h. h, λ h. h)) refl (λ _. refl) n).0 h

pub some_below_none : (n : ℕ) (test : ℕ → Bool) → ((k : ℕ) → k < n → test k ≡ false) → some_below n test ≡ false
some_below_none n test none = false_from_ne_true (some_below n test) (λ h. let found = some_below_at n test h in both_ways (test found.0) (none found.0 found.1) found.2)

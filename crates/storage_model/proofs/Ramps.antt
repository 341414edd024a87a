-- A ramp, a byte at a time.
use Rattle.std.proofs.Common.{◌≡◌, ℕ, ◌+◌, ◌*◌, ◌%◌, ◌<◌, List, [], length, take, set, refl, arith}
use Rattle.std.proofs.lemmas.List.{take_more_set, take_all}
use Rattle.std.proofs.lemmas.List.FromFn.{map-range_with_len_more}
use Rattle.storage_model.specs.Plan.{ramp}

pub ramp_start : (start k : ℕ) → ◌≡◌ {A = List ℕ} [] (ramp start k 0)
unfolding ramp
ramp_start start k = refl

pub ramp_more : (start k base i byte : ℕ) (bytes : List ℕ) → i < length bytes → base ≡ start + 31 * k → byte ≡ (base + 7 * i) % 256 → take i bytes ≡ ramp start k i
    → take (i + 1) (set bytes i byte) ≡ ramp start k (i + 1)
unfolding ramp
ramp_more start k base i byte bytes below is value done =
    let more = map-range_with_len_more (λ j. (start + 31 * k + 7 * j) % 256) 0 i i (omega arith) in
    let kept = take_more_set bytes i byte below in
    cc

pub ramp_whole : (start k n : ℕ) (bytes : List ℕ) → length bytes ≡ n → take n bytes ≡ ramp start k n → bytes ≡ ramp start k n
ramp_whole start k n bytes long done = let all = take_all n bytes (omega arith) in cc

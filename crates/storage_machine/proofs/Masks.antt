-- The bits of tags fit.
use Rattle.std.proofs.Common.{◌≡◌, ℕ, zero, suc, ◌+◌, ◌*◌, ◌^◌, ◌<◌, ◌≤◌, ◌%◌, Bool, true, false, Option, List, arith, if◌then◌else◌, lit<}
use Rattle.std.proofs.Math.Nat.{pow-suc}
use Rattle.std.proofs.Math.Pow.{pow_mono}
use Rattle.storage_machine.specs.Slots.{asks, mask_below, slot_at}
use Rattle.storage_machine.specs.declared.slots.Question.{Question}
use Rattle.storage_machine.specs.declared.state.Task.{Task}

bit_fits : (b : Bool) (mask power : ℕ) → mask < power → mask + (if b then power else 0) < power * 2
bit_fits true mask power below = omega arith
bit_fits false mask power below = omega arith

pub mask_fits : (question : Question) (slots : List (Option Task)) (tag : ℕ) → mask_below question slots tag < 2 ^ tag
mask_fits question slots zero = lit< tt
mask_fits question slots (suc tag) = rw pow-suc (bit_fits (asks question (slot_at slots tag)) (mask_below question slots tag) (2 ^ tag) (mask_fits question slots tag))

power_below : (tag : ℕ) → tag < 32 → 2 ^ tag ≤ 2147483648
power_below tag below = pow_mono {i = tag} {j = 31} (omega arith)

sum_fits : (mask power : ℕ) → mask < power → power ≤ 2147483648 → mask + (1 * power) % 4294967296 < 4294967296
sum_fits mask power below small = omega arith

pub more_fits : (question : Question) (slots : List (Option Task)) (mask tag : ℕ) → tag < 32 → mask ≡ mask_below question slots tag
    → mask + (1 * 2 ^ tag) % 4294967296 < 4294967296
more_fits question slots mask tag below is =
    let fits = mask_fits question slots tag in
    sum_fits mask (2 ^ tag) (rw is fits) (power_below tag below)

-- The word of the ready tasks.
use Rattle.std.proofs.Common.{◌≡◌, ℕ, zero, suc, ◌+◌, ◌*◌, ◌/◌, ◌%◌, ◌^◌, ◌<◌, ◌≤◌, Bool, true, false, List, [], ◌∷◌, ◌++◌, length, get_or, take, refl, sym, ap, ◌∙◌, arith}
use Rattle.std.specs.Prelude.{Option, None}
use Rattle.std.specs.Int.{bit_at, from_bool}
use Rattle.std.specs.Prelude.{◌↔◌}
use Rattle.std.proofs.lemmas.Bool.{false≢true}
use Rattle.std.proofs.lemmas.Nat.Bits.{bit_at-zero, bit_at_lowest, bit_at-suc}
use Rattle.std.proofs.Math.Nat.{pow-succ', min-eq_left, mod-eq_of_lt}
use Rattle.std.proofs.lemmas.Nat.{pow_below}
use Rattle.std.proofs.lemmas.List.{take_more, length-take}
use Rattle.task_queue.specs.declared.queue.Place.{Place}
use Rattle.task_queue.specs.Places.{Queue}
use Rattle.task_queue.specs.Queue.{IsReady, is_ready, place_of, ready_bits, ready_word}

from_bool-le : (b : Bool) → from_bool b ≤ 1
from_bool-le true = omega arith
from_bool-le false = omega arith

doubled : (w p f q : ℕ) → q ≡ 2 * p → f ≤ 1 → w < p → f + 2 * w < q
doubled w p f q e h l = omega arith

-- the word has no more bits than there are places
pub ready_bits-lt : (slots : List (Option Place)) → ready_bits slots < 2 ^ length slots
unfolding ready_bits
ready_bits-lt [] = omega arith
ready_bits-lt (slot ∷ slots) =
    doubled (ready_bits slots) (2 ^ length slots) (from_bool (is_ready slot)) (2 ^ suc (length slots)) (pow-succ' 2 (length slots))
    (from_bool-le (is_ready slot)) (ready_bits-lt slots)

pushed : (w v g p q f : ℕ) → w ≡ v + g * p → q ≡ 2 * p → f + 2 * w ≡ f + 2 * v + g * q
pushed w v g p q f e h = rw (e, h) (omega arith)

-- one place more
pub ready_bits-push : (slots : List (Option Place)) (slot : Option Place)
    → ready_bits (slots ++ slot ∷ []) ≡ ready_bits slots + from_bool (is_ready slot) * 2 ^ length slots
unfolding ready_bits
ready_bits-push [] slot = omega arith
ready_bits-push (first ∷ slots) slot =
    pushed (ready_bits (slots ++ slot ∷ [])) (ready_bits slots) (from_bool (is_ready slot)) (2 ^ length slots) (2 ^ suc (length slots))
    (from_bool (is_ready first)) (ready_bits-push slots slot) (pow-succ' 2 (length slots))

-- the word of the first places, after one place more
pub ready_bits-more : (slots : List (Option Place)) (i : ℕ) (d : Option Place) → i < length slots
    → ready_bits (take (i + 1) slots) ≡ ready_bits (take i slots) + from_bool (is_ready (get_or slots i d)) * 2 ^ i
ready_bits-more slots i d below =
    let long : length (take i slots) ≡ i = length-take i slots ∙ min-eq_left (omega arith) in
    ap ready_bits (take_more slots i d below) ∙ ready_bits-push (take i slots) (get_or slots i d)
    ∙ ap (λ n. ready_bits (take i slots) + from_bool (is_ready (get_or slots i d)) * 2 ^ n) long

low_bit : (w f : ℕ) → f ≤ 1 → (f + 2 * w) % 2 ≡ f
low_bit w f h = omega arith

high_bits : (w f : ℕ) → f ≤ 1 → (f + 2 * w) / 2 ≡ w
high_bits w f h = omega arith

-- bit i is set where task i is ready
pub bit_at-ready_bits : (slots : List (Option Place)) (i : ℕ) → bit_at (ready_bits slots) i ≡ from_bool (is_ready (get_or slots i None))
unfolding ready_bits
bit_at-ready_bits [] i = bit_at-zero i
bit_at-ready_bits (slot ∷ slots) zero =
    bit_at_lowest (from_bool (is_ready slot) + 2 * ready_bits slots) ∙ low_bit (ready_bits slots) (from_bool (is_ready slot)) (from_bool-le (is_ready slot))
bit_at-ready_bits (slot ∷ slots) (suc i) =
    bit_at-suc (from_bool (is_ready slot) + 2 * ready_bits slots) i
    ∙ ap (λ n. bit_at n i) (high_bits (ready_bits slots) (from_bool (is_ready slot)) (from_bool-le (is_ready slot)))
    ∙ bit_at-ready_bits slots i

one_is : (b : Bool) (n : ℕ) → n ≡ from_bool b → (n ≡ 1) ↔ (b ≡ true)
one_is true n e = (λ h. refl, λ h. e)
one_is false n e = (λ h. absurd (omega (arith, e)), λ h. absurd (false≢true h))

-- bit i of the status word is set where task i is ready
pub bit_at-ready_word : (queue : Queue) (i : ℕ) → (bit_at (ready_word queue) i ≡ 1) ↔ IsReady queue i
bit_at-ready_word queue i = one_is (is_ready (place_of queue i)) (bit_at (ready_word queue) i) (bit_at-ready_bits queue.slots i)

scaled : (f p q : ℕ) → f ≤ 1 → p < q → f * p < q
scaled f p q h l = grind arith

-- a step of the loop: the flag of one place more is added at its bit
pub ready_bits-step : (slots : List (Option Place)) (i word flag : ℕ) → i < length slots → length slots ≤ 31
    → word ≡ ready_bits (take i slots) → flag ≡ from_bool (is_ready (get_or slots i None))
    → word + flag * 2 ^ i % 2 ^ 32 ≡ ready_bits (take (i + 1) slots)
ready_bits-step slots i word flag below long so_far here =
    let small : flag ≤ 1 = omega (arith, from_bool-le (is_ready (get_or slots i None))) in
    let fits : flag * 2 ^ i < 2 ^ 32 = scaled flag (2 ^ i) (2 ^ 32) small (pow_below i 32 (omega arith)) in
    let whole : flag * 2 ^ i % 2 ^ 32 ≡ flag * 2 ^ i = mod-eq_of_lt fits in
    rw (whole, so_far, here) (sym (ready_bits-more slots i None below))

-- and the sum fits
pub ready_bits-step_lt : (slots : List (Option Place)) (i : ℕ) → i < length slots → length slots ≤ 31
    → ready_bits (take (i + 1) slots) < 2 ^ 32
ready_bits-step_lt slots i below long =
    let size : length (take (i + 1) slots) ≡ i + 1 = length-take (i + 1) slots ∙ min-eq_left (omega arith) in
    let near = ready_bits-lt (take (i + 1) slots) in
    let room : 2 ^ length (take (i + 1) slots) < 2 ^ 32 = pow_below (length (take (i + 1) slots)) 32 (omega arith) in
    omega (arith, near, room)

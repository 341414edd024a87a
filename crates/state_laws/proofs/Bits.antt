-- A mask of tags is the word that has their bits.
use Rattle.std.proofs.Common.{◌≡◌, ℕ, zero, suc, ◌+◌, ◌*◌, ◌^◌, ◌/◌, ◌%◌, ◌<◌, ◌≤◌, ◌==◌, Bool, true, false, cond, Option, List, length, refl, sym, ap, ◌∙◌, arith}
use Rattle.std.specs.Prelude.{not, None}
use Rattle.std.specs.Int.{bit_at}
use Rattle.std.proofs.Math.Nat.{div-add-mod, mul-add, mul_comm, mul_left_comm, pow-suc}
use Rattle.std.proofs.lemmas.Bool.{eqb-true, eqb-false, eq-eqb, false_from_ne_true, true≢false}
use Rattle.std.proofs.lemmas.List.{get_or_default}
use Rattle.std.proofs.lemmas.List.Folds.{Any-from_list_any, list_any_at}
use Rattle.std.proofs.lemmas.Nat.{mod_below, mod_low, pow_pos}
use Rattle.std.proofs.lemmas.Nat.Bits.{bit_at-lt, bit_at-zero, same_from_bits_below}
use Rattle.cq_regs.specs.Slots.{has_bit}
use Rattle.storage_machine.specs.Slots.{asks, has, mask_below, mask_of, slot_at}
use Rattle.storage_machine.specs.declared.slots.Question.{Question}
use Rattle.storage_machine.specs.declared.state.Task.{Task}

one_bit : (b power : ℕ) (is : Bool) → (b == 1) ≡ is → b < 2 → cond is power 0 ≡ b * power
one_bit b power true e small = let one : b ≡ 1 = eqb-true b 1 e in rw one (omega arith)
one_bit b power false e small = let none : b ≡ 0 = omega (arith, eqb-false b 1 e) in rw none (omega arith)

-- a number by its part above a bit, that bit, and its part below
by_parts : (q m h b r c : ℕ) → m * q + r ≡ c → q ≡ h * 2 + b → h * (m * 2) + (b * m + r) ≡ c
by_parts q m h b r c e f =
    let split : m * q ≡ m * (h * 2) + m * b = ap (λ n. m * n) f ∙ mul-add m (h * 2) b in
    let high : h * (m * 2) ≡ m * (h * 2) = mul_left_comm h m 2 in
    let low : m * b ≡ b * m = mul_comm m b in
    omega (arith, split, high, low, e)

fits : (b m r : ℕ) → b < 2 → r < m → b * m + r < m * 2
fits zero m r small low = omega arith
fits (suc zero) m r small low = omega arith
fits (suc (suc b)) m r small low = absurd (omega arith)

next_part : (c n : ℕ) → c % 2 ^ suc n ≡ c % 2 ^ n + bit_at c n * 2 ^ n
next_part c n =
    let q = c / 2 ^ n in
    let whole : (q / 2) * (2 ^ n * 2) + ((q % 2) * 2 ^ n + c % 2 ^ n) ≡ c = by_parts q (2 ^ n) (q / 2) (q % 2) (c % 2 ^ n) c (div-add-mod c (2 ^ n)) (omega arith) in
    let twice : 2 ^ suc n ≡ 2 ^ n * 2 = pow-suc 2 n in
    let low : (q % 2) * 2 ^ n + c % 2 ^ n < 2 ^ n * 2 = fits (q % 2) (2 ^ n) (c % 2 ^ n) (omega arith) (mod_below c (2 ^ n) (pow_pos n)) in
    let part : ((q / 2) * 2 ^ suc n + ((q % 2) * 2 ^ n + c % 2 ^ n)) % 2 ^ suc n ≡ (q % 2) * 2 ^ n + c % 2 ^ n = mod_low (q / 2) (suc n) ((q % 2) * 2 ^ n + c % 2 ^ n) (omega (arith, low, twice)) in
    let same : (q / 2) * 2 ^ suc n + ((q % 2) * 2 ^ n + c % 2 ^ n) ≡ c = ap (λ m. (q / 2) * m + ((q % 2) * 2 ^ n + c % 2 ^ n)) twice ∙ whole in
    ap (λ k. k % 2 ^ suc n) (sym same) ∙ (part ∙ omega arith)

mask_part : (question : Question) (slots : List (Option Task)) (word n : ℕ) → n ≤ 32 → ((tag : ℕ) → tag < 32 → asks question (slot_at slots tag) ≡ has_bit word tag)
    → mask_below question slots n ≡ word % 2 ^ n
mask_part question slots word zero few same = omega arith
mask_part question slots word (suc n) few same =
    let so_far = mask_part question slots word n (omega arith) same in
    let bit : cond (asks question (slot_at slots n)) (2 ^ n) 0 ≡ bit_at word n * 2 ^ n = ap (λ b. cond b (2 ^ n) 0) (same n (omega arith)) ∙ one_bit (bit_at word n) (2 ^ n) (has_bit word n) refl (bit_at-lt word n) in
    omega (arith, so_far, bit, next_part word n)

pub mask_is : (question : Question) (slots : List (Option Task)) (word : ℕ) → word < 2 ^ 32 → ((tag : ℕ) → tag < 32 → asks question (slot_at slots tag) ≡ has_bit word tag)
    → mask_of question slots ≡ word
unfolding mask_of
mask_is question slots word small same = let whole = mask_part question slots word 32 (omega arith) same in omega (arith, whole, small)

pub no_bits : (word : ℕ) → word ≡ 0 → (tag : ℕ) → has_bit word tag ≡ false
no_bits word e tag = ap (λ n. has_bit n tag) e ∙ ap (λ n. n == 1) (bit_at-zero tag)

bit_none : (b : ℕ) → (b == 1) ≡ false → b < 2 → b ≡ 0
bit_none b e small = omega (arith, eqb-false b 1 e)

-- a tag is in the mask where its word isn't 0
pub any_is : (question : Question) (slots : List (Option Task)) (word : ℕ) → length slots ≡ 32 → word < 2 ^ 32
    → ((tag : ℕ) → tag < 32 → asks question (slot_at slots tag) ≡ has_bit word tag) → has question slots ≡ not (word == 0)
any_is question slots word long small same = by_case (has question slots) refl
  where
    by_case : (b : Bool) → has question slots ≡ b → b ≡ not (word == 0)
    by_case true e =
        let found = Any-from_list_any (asks question) slots e in
        let below : found.0 < 32 = omega (arith, found.2, long) in
        let there : slot_at slots found.0 ≡ found.1 = get_or_default slots found.0 None found.1 found.2 ∙ found.3 in
        let set : has_bit word found.0 ≡ true = sym (same found.0 below) ∙ (ap (asks question) there ∙ found.4) in
        sym (ap not (false_from_ne_true (word == 0) (λ z. true≢false (sym set ∙ no_bits word (eqb-true word 0 z) found.0))))
    by_case false e =
        let none : word ≡ 0 = same_from_bits_below 32 word 0 small (omega arith) (λ tag below.
        let clear : has_bit word tag ≡ false = sym (same tag below) ∙ false_from_ne_true (asks question (slot_at slots tag))
        (λ set. true≢false (sym (list_any_at (asks question) slots tag None (omega (arith, below, long)) set) ∙ e)) in
        bit_none (bit_at word tag) clear (bit_at-lt word tag) ∙ sym (bit_at-zero tag)) in
        sym (ap not (eq-eqb word 0 none))

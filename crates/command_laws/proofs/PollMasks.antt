-- The tasks that a poll makes ready: the card's word, the slots that are ready after it, and the machine's mask are one.
use Rattle.std.proofs.Common.{◌≡◌, ◌==◌, ◌+◌, ◌*◌, ◌^◌, ◌/◌, ◌%◌, ◌-◌, ◌<◌, ◌≤◌, ℕ, zero, suc, Bool, true, false, cond, length, get_or, refl, sym, ◌∙◌, ap, arith, min, ⊎_elim}
use Rattle.std.specs.Prelude.{List, Option, Some, None}
use Rattle.std.specs.Int.{bit_at, from_bool}
use Rattle.std.specs.Int.RustNames.{bit_and}
use Rattle.std.proofs.Math.Nat.{div-add-mod, mul-add, mul_comm, mul_left_comm, pow-suc}
use Rattle.std.proofs.lemmas.Bool.{cases_lt, eqb-true, eqb-false}
use Rattle.std.proofs.lemmas.List.{get_or_past}
use Rattle.std.proofs.lemmas.Nat.{mod_below, mod_low, pow_below, pow_pos}
use Rattle.std.proofs.lemmas.Nat.Bits.{bit_at-lt, bit_at_and, bit_at_ones, same_from_bits}
use Rattle.cq_regs.specs.Slots.{has_bit, progress_of}
use Rattle.cq_regs.specs.declared.slots.Progress.TheVariants.{Ready}
use Rattle.cq_regs.specs.declared.slots.Ringed.{Ringed}
use Rattle.cq_schedule.specs.Held.{same}
use Rattle.storage_machine.specs.Slots.{asks, mask_below, mask_of, slot_at}
use Rattle.storage_machine.specs.declared.slots.Question.{Question}
use Rattle.storage_machine.specs.declared.state.Task.{Task}
use Rattle.task_queue.specs.Places.{Queue}
use Rattle.task_queue.specs.Queue.{chosen, is_ready, marked, ready_word, with_mark}
use Rattle.task_queue.specs.declared.queue.Place.{Place}
use Rattle.task_queue.proofs.Marks.{length-marked, marked-at}
use Rattle.task_queue.proofs.Words.{bit_at-ready_bits, ready_bits-lt}
use Rattle.world_state.specs.Engine.{ready_below, ready_mask}

one_bit : (b power : ℕ) (is : Bool) → (b == 1) ≡ is → b < 2 → cond is power 0 ≡ b * power
one_bit b power true e small = let one : b ≡ 1 = eqb-true b 1 e in rw one (omega arith)
one_bit b power false e small = let none : b ≡ 0 = omega (arith, eqb-false b 1 e) in rw none (omega arith)

-- a number by its part above a bit, that bit, and its part below
by_parts : (q m h b r c : ℕ) → m * q + r ≡ c → q ≡ h * 2 + b → h * (m * 2) + (b * m + r) ≡ c
by_parts q m h b r c e f =
    let split : m * q ≡ m * (h * 2) + m * b = ap (λ n. m * n) f ∙ mul-add m (h * 2) b in
    let high : h * (m * 2) ≡ m * (h * 2) = mul_left_comm h m 2 in
    let low : m * b ≡ b * m = mul_comm m b in
    omega (arith, split, high, low, e)

fits : (b m r : ℕ) → b < 2 → r < m → b * m + r < m * 2
fits zero m r small low = omega arith
fits (suc zero) m r small low = omega arith
fits (suc (suc b)) m r small low = absurd (omega arith)

next_part : (c n : ℕ) → c % 2 ^ suc n ≡ c % 2 ^ n + bit_at c n * 2 ^ n
next_part c n =
    let q = c / 2 ^ n in
    let whole : (q / 2) * (2 ^ n * 2) + ((q % 2) * 2 ^ n + c % 2 ^ n) ≡ c = by_parts q (2 ^ n) (q / 2) (q % 2) (c % 2 ^ n) c (div-add-mod c (2 ^ n)) (omega arith) in
    let twice : 2 ^ suc n ≡ 2 ^ n * 2 = pow-suc 2 n in
    let low : (q % 2) * 2 ^ n + c % 2 ^ n < 2 ^ n * 2 = fits (q % 2) (2 ^ n) (c % 2 ^ n) (omega arith) (mod_below c (2 ^ n) (pow_pos n)) in
    let part : ((q / 2) * 2 ^ suc n + ((q % 2) * 2 ^ n + c % 2 ^ n)) % 2 ^ suc n ≡ (q % 2) * 2 ^ n + c % 2 ^ n = mod_low (q / 2) (suc n) ((q % 2) * 2 ^ n + c % 2 ^ n) (omega (arith, low, twice)) in
    let same : (q / 2) * 2 ^ suc n + ((q % 2) * 2 ^ n + c % 2 ^ n) ≡ c = ap (λ m. (q / 2) * m + ((q % 2) * 2 ^ n + c % 2 ^ n)) twice ∙ whole in
    ap (λ k. k % 2 ^ suc n) (sym same) ∙ (part ∙ omega arith)

-- the machine's mask is the word that has its bits
mask_part : (question : Question) (slots : List (Option Task)) (word n : ℕ) → n ≤ 32 → ((tag : ℕ) → tag < 32 → asks question (slot_at slots tag) ≡ has_bit word tag)
    → mask_below question slots n ≡ word % 2 ^ n
mask_part question slots word zero few same = omega arith
mask_part question slots word (suc n) few same =
    let so_far = mask_part question slots word n (omega arith) same in
    let bit : cond (asks question (slot_at slots n)) (2 ^ n) 0 ≡ bit_at word n * 2 ^ n = ap (λ b. cond b (2 ^ n) 0) (same n (omega arith)) ∙ one_bit (bit_at word n) (2 ^ n) (has_bit word n) refl (bit_at-lt word n) in
    omega (arith, so_far, bit, next_part word n)

mask_is : (question : Question) (slots : List (Option Task)) (word : ℕ) → word < 2 ^ 32 → ((tag : ℕ) → tag < 32 → asks question (slot_at slots tag) ≡ has_bit word tag)
    → mask_of question slots ≡ word
unfolding mask_of
mask_is question slots word small same = let whole = mask_part question slots word 32 (omega arith) same in omega (arith, whole, small)

-- and so is that of the slots that are ready
ready_part : (ring : List Ringed) (word n : ℕ) → n ≤ 32 → ((tag : ℕ) → tag < 32 → same (progress_of ring tag) Ready ≡ has_bit word tag) → ready_below ring n ≡ word % 2 ^ n
ready_part ring word zero few alike = omega arith
ready_part ring word (suc n) few alike =
    let so_far = ready_part ring word n (omega arith) alike in
    let bit : cond (same (progress_of ring n) Ready) (2 ^ n) 0 ≡ bit_at word n * 2 ^ n = ap (λ b. cond b (2 ^ n) 0) (alike n (omega arith)) ∙ one_bit (bit_at word n) (2 ^ n) (has_bit word n) refl (bit_at-lt word n) in
    omega (arith, so_far, bit, next_part word n)

pub ready_is : (ring : List Ringed) (word : ℕ) → word < 2 ^ 32 → ((tag : ℕ) → tag < 32 → same (progress_of ring tag) Ready ≡ has_bit word tag) → ready_mask ring ≡ word
unfolding ready_mask
ready_is ring word small alike = let whole = ready_part ring word 32 (omega arith) alike in omega (arith, whole, small)

-- the word of the queue has the bits of the places that are chosen
pub word_small : (queue : Queue) (choice : ℕ) → length queue.slots ≤ 31 → ready_word (chosen queue choice) < 2 ^ 32
word_small queue choice few =
    let low = ready_bits-lt (marked choice queue.slots) in
    let same_size = length-marked choice queue.slots in
    let room : 2 ^ length (marked choice queue.slots) < 2 ^ 32 = pow_below (length (marked choice queue.slots)) 32 (omega (arith, same_size, few)) in
    omega (arith, low, room)

bit_is : (queue : Queue) (choice i : ℕ) → bit_at (ready_word (chosen queue choice)) i ≡ from_bool (is_ready (with_mark (bit_at choice i == 1) (get_or queue.slots i None)))
bit_is queue choice i =
    bit_at-ready_bits (marked choice queue.slots) i ∙ ap (λ place. from_bool (is_ready place)) (marked-at choice queue.slots i)

abbrev ones : ℕ
ones = 2 ^ 32 - 1

either_bit : (bit : ℕ) → bit < 2 → min 1 bit ≡ from_bool (bit == 1)
either_bit zero small = refl
either_bit (suc zero) small = refl
either_bit (suc (suc n)) small = absurd (omega arith)

chosen_bit : (choice i : ℕ) (slots : List (Option Place)) (o : Option Place) → get_or slots i None ≡ o → length slots ≤ 31
    → min (from_bool (is_ready (with_mark (bit_at ones i == 1) o))) (bit_at choice i) ≡ from_bool (is_ready (with_mark (bit_at choice i == 1) o))
chosen_bit choice i slots None e few = omega arith
chosen_bit choice i slots (Some place) e few =
    ⊎_elim
    (λ below.
    ap (λ b. min (from_bool (b == 1)) (bit_at choice i)) (bit_at_ones 32 i (omega (arith, below, few))) ∙ either_bit (bit_at choice i) (bit_at-lt choice i))
    (λ past. absurd (cc (e, get_or_past slots i None past)))
    (cases_lt i (length slots))

-- the places that are filled, and those of them that are chosen
pub chosen_is : (queue : Queue) (choice : ℕ) → length queue.slots ≤ 31
    → bit_and (ready_word (chosen queue ones)) choice ≡ ready_word (chosen queue choice)
chosen_is queue choice few =
    same_from_bits (bit_and (ready_word (chosen queue ones)) choice) (ready_word (chosen queue choice))
    (λ i.
    bit_at_and (ready_word (chosen queue ones)) choice i ∙ ap (λ b. min b (bit_at choice i)) (bit_is queue ones i)
    ∙ chosen_bit choice i queue.slots (get_or queue.slots i None) refl few ∙ sym (bit_is queue choice i))

from_bit : (b : Bool) → (from_bool b == 1) ≡ b
from_bit true = refl
from_bit false = refl

-- the machine's mask of the next word, where the sent tasks are those that the card has
pub polled_is : (question : Question) (slots : List (Option Task)) (queue : Queue) (choice : ℕ) → length queue.slots ≤ 31
    → ((tag : ℕ) → tag < 32 → asks question (slot_at slots tag) ≡ is_ready (with_mark true (get_or queue.slots tag None)))
    → bit_and (mask_of question slots) choice ≡ ready_word (chosen queue choice)
polled_is question slots queue choice few asked =
    ap (λ mask. bit_and mask choice)
    (mask_is question slots (ready_word (chosen queue ones)) (word_small queue ones few)
    (λ tag below.
    asked tag below
    ∙ sym (ap (λ b. b == 1) (bit_is queue ones tag) ∙ from_bit (is_ready (with_mark (bit_at ones tag == 1) (get_or queue.slots tag None)))
    ∙ ap (λ b. is_ready (with_mark (b == 1) (get_or queue.slots tag None))) (bit_at_ones 32 tag below))))
    ∙ chosen_is queue choice few

pub word_bit : (queue : Queue) (choice tag : ℕ) → has_bit (ready_word (chosen queue choice)) tag ≡ is_ready (with_mark (bit_at choice tag == 1) (get_or queue.slots tag None))
word_bit queue choice tag =
    ap (λ b. b == 1) (bit_is queue choice tag) ∙ from_bit (is_ready (with_mark (bit_at choice tag == 1) (get_or queue.slots tag None)))

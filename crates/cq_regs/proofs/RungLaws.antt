-- What a write of the doorbell adds to the rung slots.
use Rattle.std.proofs.Common.{◌≡◌, ◌≢◌, ℕ, zero, suc, ◌+◌, ◌-◌, ◌^◌, ◌<◌, ◌≤◌, Bool, true, false, List, [], ◌∷◌, ◌++◌, map, length, get_or, refl, sym, ap, ◌∙◌, min, arith, subst, append_assoc, add-one}
use Rattle.std.specs.Prelude.{◌==◌, ◌||◌, ◌&&◌, not, cond}
use Rattle.std.specs.Int.{bit_at, from_bool, w32}
use Rattle.std.specs.Int.RustNames.{bit_and}
use Rattle.std.specs.List.{All, AllPairs, filter, list_any, IsDistinct}
use Rattle.std.proofs.lemmas.Bool.{eqb-true, eqb-false, false≢true}
use Rattle.std.proofs.lemmas.Bool.Decides.{nat_tests}
use Rattle.std.proofs.lemmas.List.{append-nil, map-append, length-map, length-append, get_or-map}
use Rattle.std.proofs.lemmas.List.Elements.{All-nil, All-cons, All-head, All-tail, All-filter, All-map, All-push, All-weaker, filter-append}
use Rattle.std.proofs.lemmas.List.Kept.{AllPairs-cons}
use Rattle.std.proofs.lemmas.List.Folds.{list_any-append}
use Rattle.std.proofs.lemmas.Map.Keys.{IsDistinct-from_apart}
use Rattle.std.proofs.lemmas.Map.Steps.{length-le_from_distinct_below}
use Rattle.std.proofs.lemmas.Nat.Bits.{bit_at_and, bit_at_not, bit_at-lt}
use Rattle.std.proofs.Math.Dec.{eqb}
use Rattle.cq_regs.specs.declared.slots.Ringed.{Ringed}
use Rattle.cq_regs.specs.Slots.{is_rung, progress_of, IsRing, slots_word, has_bit, newly_rung, first_slots, with_first, AreNotRung, rings, rung}
use Rattle.cq_regs.proofs.RingLaws.{has_slot, rung-has_slot, bit_at-slots_word}

-- the first slots that pass a test, and one more
filter-first : (p : ℕ → Bool) (n : ℕ) → filter p (first_slots (n + 1)) ≡ filter p (first_slots n) ++ cond (p n) (n ∷ []) []
unfolding first_slots
filter-first p n = rw add-one (filter-append p (first_slots n) (n ∷ []))

pub with_first-more : (ring : List Ringed) (word n : ℕ) → with_first ring word (n + 1) ≡ with_first ring word n ++ map newly_rung (cond (has_bit word n) (n ∷ []) [])
with_first-more ring word n =
    ap (λ xs. ring ++ map newly_rung xs) (filter-first (has_bit word) n)
    ∙ ap (λ xs. ring ++ xs) (map-append newly_rung (filter (has_bit word) (first_slots n)) (cond (has_bit word n) (n ∷ []) []))
    ∙ sym (append_assoc ring (map newly_rung (filter (has_bit word) (first_slots n))) (map newly_rung (cond (has_bit word n) (n ∷ []) [])))

pub with_first-set : (ring : List Ringed) (word n : ℕ) → has_bit word n ≡ true → with_first ring word (n + 1) ≡ with_first ring word n ++ newly_rung n ∷ []
with_first-set ring word n set = with_first-more ring word n ∙ ap (λ b. with_first ring word n ++ map newly_rung (cond b (n ∷ []) [])) set

pub with_first-clear : (ring : List Ringed) (word n : ℕ) → has_bit word n ≡ false → with_first ring word (n + 1) ≡ with_first ring word n
with_first-clear ring word n clear =
    with_first-more ring word n ∙ ap (λ b. with_first ring word n ++ map newly_rung (cond b (n ∷ []) [])) clear ∙ append-nil (with_first ring word n)

pub with_first-none : (ring : List Ringed) (word : ℕ) → with_first ring word 0 ≡ ring
unfolding first_slots
with_first-none ring word = append-nil ring

first-below : (n : ℕ) → All (λ k. k < n) (first_slots n)
unfolding first_slots
first-below zero = All-nil (λ k. k < 0)
first-below (suc n) =
    All-push (λ k. k < suc n) (first_slots n) n (All-weaker (λ k. k < n) (λ k. k < suc n) (λ k h. omega arith) (first_slots n) (first-below n)) (omega arith)

later : (m n : ℕ) (b : Bool) → (m == n) ≡ b → m < n → b ≡ false
later m n true e h = let same = eqb-true m n e in absurd (omega (arith, same))
later m n false e h = refl

new-absent : (slots : List ℕ) (n : ℕ) → All (λ k. k < n) slots → has_slot (map newly_rung slots) n ≡ false
new-absent [] n below = refl
new-absent (k ∷ slots) n below =
    rw (later k n (k == n) refl (All-head (λ k. k < n) k slots below)) (new-absent slots n (All-tail (λ k. k < n) k slots below))

neither : (b c : Bool) → b ≡ false → c ≡ false → (b || c) ≡ false
neither true c e f = e
neither false c e f = f

-- a slot that is to be rung next is not in the list
absent : (ring : List Ringed) (word n : ℕ) → IsRing ring → AreNotRung ring word → n < 32 → has_bit word n ≡ true
    → has_slot (with_first ring word n) n ≡ false
absent ring word n h apart below set =
    list_any-append (λ r. r.slot == n) ring (map newly_rung (filter (has_bit word) (first_slots n)))
    ∙ neither (has_slot ring n) (has_slot (map newly_rung (filter (has_bit word) (first_slots n))) n)
    (sym (rung-has_slot ring n h.started) ∙ apart n below set)
    (new-absent (filter (has_bit word) (first_slots n)) n (All-filter (has_bit word) (λ k. k < n) (first_slots n) (first-below n)))

other_slot : (m n : ℕ) → (m == n) ≡ false → m ≢ n
other_slot m n e h = eqb-false m n e h

first_of_or : (b c : Bool) → (b || c) ≡ false → b ≡ false
first_of_or true c e = e
first_of_or false c e = refl

second_of_or : (b c : Bool) → (b || c) ≡ false → c ≡ false
second_of_or true c e = absurd (false≢true (sym e))
second_of_or false c e = e

absent-all : (ring : List Ringed) (n : ℕ) → has_slot ring n ≡ false → All (λ r. r.slot ≢ n) ring
absent-all [] n e = All-nil (λ r. r.slot ≢ n)
absent-all (r ∷ ring) n e =
    All-cons (λ r. r.slot ≢ n) r ring (other_slot r.slot n (first_of_or (r.slot == n) (has_slot ring n) e))
    (absent-all ring n (second_of_or (r.slot == n) (has_slot ring n) e))

apart-push : (ring : List Ringed) (s : Ringed) → AllPairs (λ r s. r.slot ≢ s.slot) ring → All (λ r. r.slot ≢ s.slot) ring
    → AllPairs (λ r s. r.slot ≢ s.slot) (ring ++ s ∷ [])
apart-push [] s apart others = AllPairs-cons (λ r s. r.slot ≢ s.slot) s [] (All-nil (λ r. s.slot ≢ r.slot)) apart
apart-push (r ∷ ring) s apart others =
    AllPairs-cons (λ r s. r.slot ≢ s.slot) r (ring ++ s ∷ [])
    (All-push (λ q. r.slot ≢ q.slot) ring s (λ j d high. apart 0 (suc j) d (omega arith) (omega arith)) (All-head (λ r. r.slot ≢ s.slot) r ring others))
    (apart-push ring s (λ i j d low high. apart (suc i) (suc j) d (omega arith) (omega arith)) (All-tail (λ r. r.slot ≢ s.slot) r ring others))

IsRing-push : (ring : List Ringed) (n : ℕ) → IsRing ring → n < 32 → has_slot ring n ≡ false → IsRing (ring ++ newly_rung n ∷ [])
IsRing-push ring n h below e = record {
  apart = apart-push ring (newly_rung n) h.apart (absent-all ring n e);
  below = All-push (λ r. r.slot < 32) ring (newly_rung n) h.below below;
  started = All-push (λ r. is_rung r.progress ≡ true) ring (newly_rung n) h.started refl;
}

first-step : (b : Bool) (ring : List Ringed) (word n : ℕ) → has_bit word n ≡ b → IsRing ring → AreNotRung ring word → n < 32
    → IsRing (with_first ring word n) → IsRing (with_first ring word (n + 1))
first-step true ring word n e h apart below so_far =
    subst IsRing (sym (with_first-set ring word n e)) (IsRing-push (with_first ring word n) n so_far below (absent ring word n h apart below e))
first-step false ring word n e h apart below so_far = subst IsRing (sym (with_first-clear ring word n e)) so_far

pub IsRing-with_first : (ring : List Ringed) (word n : ℕ) → IsRing ring → AreNotRung ring word → n ≤ 32 → IsRing (with_first ring word n)
IsRing-with_first ring word zero h apart few = subst IsRing (sym (with_first-none ring word)) h
IsRing-with_first ring word (suc n) h apart few =
    let below : n < 32 = omega arith in
    subst (λ k. IsRing (with_first ring word k)) (add-one n)
    (first-step (has_bit word n) ring word n refl h apart below (IsRing-with_first ring word n h apart (omega arith)))

length-slots : (ring : List Ringed) → length (map (λ r. r.slot) ring) ≡ length ring
length-slots ring = simp length-map

unlike : (m n : ℕ) (b : Bool) → (m == n) ≡ b → m ≢ n → b ≡ false
unlike m n true e h = absurd (h (eqb-true m n e))
unlike m n false e h = refl

apart_slots : (ring : List Ringed) (i j d : ℕ) (r : Ringed) → i < j → j < length ring → (get_or ring i r).slot ≢ (get_or ring j r).slot
    → eqb (get_or (map (λ r. r.slot) ring) i d) (get_or (map (λ r. r.slot) ring) j d) ≡ false
apart_slots ring i j d r low inside differ =
    let near : i < length ring = omega arith in
    rw (get_or-map (λ r. r.slot) ring i r d near, get_or-map (λ r. r.slot) ring j r d inside)
    (unlike (get_or ring i r).slot (get_or ring j r).slot (eqb (get_or ring i r).slot (get_or ring j r).slot) refl differ)

member_first : (b : Bool) (k : ℕ) (slots : List ℕ) (q : ℕ) → eqb q k ≡ b → k < 32 → (list_any (eqb q) slots ≡ true → q < 32)
    → (b || list_any (eqb q) slots) ≡ true → q < 32
member_first true k slots q e below rest h = subst (λ n. n < 32) (sym (eqb-true q k e)) below
member_first false k slots q e below rest h = rest h

member_below : (slots : List ℕ) (q : ℕ) → All (λ k. k < 32) slots → list_any (eqb q) slots ≡ true → q < 32
member_below [] q below e = absurd (false≢true e)
member_below (k ∷ slots) q below e =
    member_first (eqb q k) k slots q refl (All-head (λ k. k < 32) k slots below) (member_below slots q (All-tail (λ k. k < 32) k slots below)) e

-- there are at most 32
slots_apart : (ring : List Ringed) → IsRing ring → IsDistinct eqb (map (λ r. r.slot) ring)
slots_apart ring h =
    IsDistinct-from_apart eqb (map (λ r. r.slot) ring)
    (λ i j d low high.
    let inside : j < length ring = subst (λ n. j < n) (length-slots ring) high in
    apart_slots ring i j d (newly_rung 0) low inside (h.apart i j (newly_rung 0) low inside))

slots_below : (ring : List Ringed) → IsRing ring → (q : ℕ) → list_any (eqb q) (map (λ r. r.slot) ring) ≡ true → q < 32
slots_below ring h q e = member_below (map (λ r. r.slot) ring) q (All-map (λ k. k < 32) (λ r. r.slot) ring h.below) e

pub length-ring : (ring : List Ringed) → IsRing ring → length ring ≤ 32
length-ring ring h =
    let few = length-le_from_distinct_below (map (λ r. r.slot) ring) 32 (slots_apart ring h) (slots_below ring h) in
    let same : length (map (λ r. r.slot) ring) ≡ length ring = simp length-map in
    omega (arith, few, same)

-- so there is room for a slot that is to be rung
pub room : (ring : List Ringed) (word n : ℕ) → IsRing ring → AreNotRung ring word → n < 32 → has_bit word n ≡ true
    → length (with_first ring word n) < 32
room ring word n h apart below set =
    let few = length-ring (with_first ring word (n + 1)) (IsRing-with_first ring word (n + 1) h apart (omega arith)) in
    let more : length (with_first ring word (n + 1)) ≡ length (with_first ring word n) + 1 =
    ap length (with_first-set ring word n set) ∙ simp length-append in
    omega (arith, few, more)

-- the slots of a write without those that are rung
both_bits : (n d w : ℕ) (b : Bool) → n ≡ min d (1 - w) → d < 2 → w ≡ from_bool b → (n == 1) ≡ ((d == 1) && not b)
both_bits n d w true e small f = grind (arith, nat_tests)
both_bits n d w false e small f = grind (arith, nat_tests)

pub bit-anew : (ring : List Ringed) (doorbells slot : ℕ) → IsRing ring → slots_word ring < 2 ^ 32 → slot < 32
    → has_bit (bit_and doorbells (2 ^ 32 - 1 - slots_word ring)) slot ≡ rings ring doorbells slot
bit-anew ring doorbells slot h fits below =
    both_bits (bit_at (bit_and doorbells (2 ^ 32 - 1 - slots_word ring)) slot) (bit_at doorbells slot) (bit_at (slots_word ring) slot)
    (is_rung (progress_of ring slot))
    (bit_at_and doorbells (2 ^ 32 - 1 - slots_word ring) slot
    ∙ ap (λ n. min (bit_at doorbells slot) n) (bit_at_not w32 (slots_word ring) slot fits below))
    (bit_at-lt doorbells slot)
    (bit_at-slots_word ring slot h)

second_of_and : (b c : Bool) → (b && not c) ≡ true → c ≡ false
second_of_and true true e = sym e
second_of_and true false e = refl
second_of_and false c e = absurd (false≢true e)

pub anew-apart : (ring : List Ringed) (doorbells : ℕ) → IsRing ring → slots_word ring < 2 ^ 32
    → AreNotRung ring (bit_and doorbells (2 ^ 32 - 1 - slots_word ring))
anew-apart ring doorbells h fits slot below set =
    second_of_and (has_bit doorbells slot) (is_rung (progress_of ring slot)) (sym (bit-anew ring doorbells slot h fits below) ∙ set)

filter-alike : (p q : ℕ → Bool) (n : ℕ) → ((k : ℕ) → k < n → p k ≡ q k) → filter p (first_slots n) ≡ filter q (first_slots n)
unfolding first_slots
filter-alike p q zero alike = refl
filter-alike p q (suc n) alike =
    filter-append p (first_slots n) (n ∷ [])
    ∙ ap (λ xs. xs ++ filter p (n ∷ [])) (filter-alike p q n (λ k low. alike k (omega arith)))
    ∙ ap (λ b. filter q (first_slots n) ++ cond b (n ∷ []) []) (alike n (omega arith))
    ∙ sym (filter-append q (first_slots n) (n ∷ []))

-- what the loop adds is what the write rings
pub rung-anew : (ring : List Ringed) (doorbells : ℕ) → IsRing ring → slots_word ring < 2 ^ 32
    → with_first ring (bit_and doorbells (2 ^ 32 - 1 - slots_word ring)) 32 ≡ rung ring doorbells
rung-anew ring doorbells h fits =
    ap (λ xs. ring ++ map newly_rung xs)
    (filter-alike (has_bit (bit_and doorbells (2 ^ 32 - 1 - slots_word ring))) (rings ring doorbells) 32
    (λ k low. bit-anew ring doorbells k h fits low))

-- What a change of the rung slots keeps, and the bits of their words.
use Rattle.std.proofs.Common.{◌≡◌, ◌≢◌, ℕ, suc, ◌+◌, ◌^◌, ◌<◌, Bool, true, false, List, [], ◌∷◌, ◌++◌, map, length, get_or, take, drop, set, refl, sym, ap, ◌∙◌, max, arith, subst}
use Rattle.std.specs.Prelude.{◌==◌, ◌||◌, cond, Option, Some}
use Rattle.std.specs.Option.{option_map_or}
use Rattle.std.specs.Int.{bit_at, from_bool}
use Rattle.std.specs.List.{All, AllPairs, filter, find, fold, list_any}
use Rattle.std.proofs.lemmas.Bool.{eq-eqb, eqb-true, eqb-false}
use Rattle.std.proofs.lemmas.List.{get_or-map, get_or_default, length-map}
use Rattle.std.proofs.lemmas.List.Edits.{map_over_more}
use Rattle.std.proofs.lemmas.List.Elements.{All-head, All-tail, All-filter, All-map, All-weaker}
use Rattle.std.proofs.lemmas.List.Kept.{AllPairs-filter}
use Rattle.std.proofs.lemmas.Nat.Bits.{bit_at_or, bit_at-zero, bit_at-pow_same, bit_at-pow_other}
use Rattle.std.proofs.lemmas.List.Folds.{list_any-from_Any}
use Rattle.std.proofs.Math.Seq.{take-append_seam}
use Rattle.cq_regs.specs.declared.slots.Progress.{Progress}
use Rattle.cq_regs.specs.declared.slots.Progress.TheVariants.{Idle, Rung, Named, Sent, Ready, Active}
use Rattle.cq_regs.specs.declared.slots.Ringed.{Ringed}
use Rattle.cq_regs.specs.Slots.{is_rung, is_sent, next, readied, moved_at, readied_by, progress_of, IsRing, with_slot, slots_word, sent_slots, has_bit}

-- whether a slot is in the list
abbrev pub has_slot : List Ringed → ℕ → Bool
has_slot ring slot = list_any (λ r. r.slot == slot) ring

pub IsRing-filter : (p : Ringed → Bool) (ring : List Ringed) → IsRing ring → IsRing (filter p ring)
IsRing-filter p ring h = record {
  apart = AllPairs-filter (λ r s. r.slot ≢ s.slot) p ring h.apart;
  below = All-filter p (λ r. r.slot < 32) ring h.below;
  started = All-filter p (λ r. is_rung r.progress ≡ true) ring h.started;
}

slot-map : (f : Ringed → Ringed) (ring : List Ringed) → ((r : Ringed) → (f r).slot ≡ r.slot) → (i : ℕ) (d : Ringed)
    → i < length ring → (get_or (map f ring) i d).slot ≡ (get_or ring i d).slot
slot-map f ring keeps i d low = ap (λ r. r.slot) (get_or-map f ring i d d low) ∙ keeps (get_or ring i d)

length_map_ring : (f : Ringed → Ringed) (ring : List Ringed) → length (map f ring) ≡ length ring
length_map_ring f ring = simp length-map

apart-map : (f : Ringed → Ringed) (ring : List Ringed) → ((r : Ringed) → (f r).slot ≡ r.slot)
    → AllPairs (λ r s. r.slot ≢ s.slot) ring → AllPairs (λ r s. r.slot ≢ s.slot) (map f ring)
apart-map f ring keeps apart i j d low high =
    let inside : j < length ring = subst (λ n. j < n) (length_map_ring f ring) high in
    let near : i < length ring = omega arith in
    λ same. apart i j d low inside (sym (slot-map f ring keeps i d near) ∙ same ∙ slot-map f ring keeps j d inside)

pub IsRing-map : (f : Ringed → Ringed) (ring : List Ringed) → ((r : Ringed) → (f r).slot ≡ r.slot)
    → ((r : Ringed) → is_rung r.progress ≡ true → is_rung (f r).progress ≡ true) → IsRing ring → IsRing (map f ring)
IsRing-map f ring keeps starts h = record {
  apart = apart-map f ring keeps h.apart;
  below = All-map (λ r. r.slot < 32) f ring (λ k d l. subst (λ n. n < 32) (sym (keeps (get_or ring k d))) (h.below k d l));
  started = All-map (λ r. is_rung r.progress ≡ true) f ring (λ k d l. starts (get_or ring k d) (h.started k d l));
}

rung-next : (p : Progress) → is_rung p ≡ true → is_rung (next p) ≡ true
rung-next Idle h = h
rung-next Rung h = refl
rung-next Named h = refl
rung-next Sent h = refl
rung-next Ready h = refl
rung-next Active h = refl

rung-readied : (p : Progress) → is_rung p ≡ true → is_rung (readied p) ≡ true
rung-readied Idle h = h
rung-readied Rung h = refl
rung-readied Named h = refl
rung-readied Sent h = refl
rung-readied Ready h = refl
rung-readied Active h = refl

changed_slot : (b : Bool) (r : Ringed) (p : Progress) → (cond b (record r { progress = p }) r).slot ≡ r.slot
changed_slot true r p = refl
changed_slot false r p = refl

changed_rung : (b : Bool) (r : Ringed) (p : Progress) → is_rung p ≡ true → is_rung r.progress ≡ true
    → is_rung (cond b (record r { progress = p }) r).progress ≡ true
changed_rung true r p h k = h
changed_rung false r p h k = k

pub IsRing-advanced : (ring : List Ringed) (slot : ℕ) → IsRing ring → IsRing (map (moved_at slot) ring)
IsRing-advanced ring slot h =
    IsRing-map (moved_at slot) ring (λ r. changed_slot (r.slot == slot) r (next r.progress))
    (λ r k. changed_rung (r.slot == slot) r (next r.progress) (rung-next r.progress k) k) h

pub IsRing-made_ready : (ring : List Ringed) (word : ℕ) → IsRing ring → IsRing (map (readied_by word) ring)
IsRing-made_ready ring word h =
    IsRing-map (readied_by word) ring (λ r. changed_slot (has_bit word r.slot) r (readied r.progress))
    (λ r k. changed_rung (has_bit word r.slot) r (readied r.progress) (rung-readied r.progress k) k) h

pow_bit : (s t : ℕ) (b : Bool) → (s == t) ≡ b → bit_at (2 ^ s) t ≡ from_bool b
pow_bit s t true e = subst (λ n. bit_at (2 ^ s) n ≡ 1) (eqb-true s t e) (bit_at-pow_same s)
pow_bit s t false e = bit_at-pow_other s t (λ h. eqb-false s t e (sym h))

with_bit : (n b : ℕ) (p q : Bool) → b ≡ from_bool p → max (max n b) (from_bool q) ≡ max n (from_bool (p || q))
with_bit n b true true e = rw e (grind arith)
with_bit n b true false e = rw e (grind arith)
with_bit n b false true e = rw e (grind arith)
with_bit n b false false e = rw e (grind arith)

fold-cons : (word : ℕ) (r : Ringed) (ring : List Ringed) → fold with_slot word (r ∷ ring) ≡ fold with_slot (with_slot word r) ring
fold-cons word r ring = refl

bit_at-fold : (ring : List Ringed) (word slot : ℕ)
    → bit_at (fold with_slot word ring) slot ≡ max (bit_at word slot) (from_bool (has_slot ring slot))
bit_at-fold [] word slot = omega arith
bit_at-fold (r ∷ ring) word slot =
    ap (λ n. bit_at n slot) (fold-cons word r ring)
    ∙ bit_at-fold ring (with_slot word r) slot
    ∙ ap (λ n. max n (from_bool (has_slot ring slot))) (bit_at_or word (2 ^ r.slot) slot)
    ∙ with_bit (bit_at word slot) (bit_at (2 ^ r.slot) slot) (r.slot == slot) (has_slot ring slot) (pow_bit r.slot slot (r.slot == slot) refl)

found_or : (b : Bool) (r : Ringed) (rest : Option Ringed)
    → option_map_or (λ r. r.progress) (cond b (Some r) rest) Idle ≡ cond b r.progress (option_map_or (λ r. r.progress) rest Idle)
found_or true r rest = refl
found_or false r rest = refl

rung-first : (b : Bool) (p q : Progress) (has : Bool) → is_rung p ≡ true → is_rung q ≡ has → is_rung (cond b p q) ≡ (b || has)
rung-first true p q has h k = h
rung-first false p q has h k = k

-- a slot is in the list where it is rung
pub rung-has_slot : (ring : List Ringed) (slot : ℕ) → All (λ r. is_rung r.progress ≡ true) ring
    → is_rung (progress_of ring slot) ≡ has_slot ring slot
rung-has_slot [] slot started = refl
rung-has_slot (r ∷ ring) slot started =
    ap is_rung (found_or (r.slot == slot) r (find (λ r. r.slot == slot) ring))
    ∙ rung-first (r.slot == slot) r.progress (progress_of ring slot) (has_slot ring slot)
    (All-head (λ r. is_rung r.progress ≡ true) r ring started)
    (rung-has_slot ring slot (All-tail (λ r. is_rung r.progress ≡ true) r ring started))

word_bit : (ring : List Ringed) (slot : ℕ) → bit_at (slots_word ring) slot ≡ from_bool (has_slot ring slot)
word_bit ring slot =
    let whole = bit_at-fold ring 0 slot in
    let none = bit_at-zero slot in
    omega (arith, whole, none)

-- the bits of the word of the rung slots
pub bit_at-slots_word : (ring : List Ringed) (slot : ℕ) → IsRing ring
    → bit_at (slots_word ring) slot ≡ from_bool (is_rung (progress_of ring slot))
bit_at-slots_word ring slot h =
    word_bit ring slot
    ∙ ap from_bool (sym (rung-has_slot ring slot h.started))

absent-kept : (b : Bool) (r : Ringed) (ring : List Ringed) (slot : ℕ) → (r.slot == slot) ≡ false → has_slot ring slot ≡ false
    → has_slot (cond b (r ∷ ring) ring) slot ≡ false
absent-kept true r ring slot e h = rw e h
absent-kept false r ring slot e h = h

absent_by : (b : Bool) (n slot : ℕ) → (n == slot) ≡ b → n ≢ slot → b ≡ false
absent_by true n slot e h = absurd (h (eqb-true n slot e))
absent_by false n slot e h = refl

absent-filter : (p : Ringed → Bool) (ring : List Ringed) (slot : ℕ) → All (λ r. (r.slot == slot) ≡ false) ring
    → has_slot (filter p ring) slot ≡ false
absent-filter p [] slot absent = refl
absent-filter p (r ∷ ring) slot absent =
    absent-kept (p r) r (filter p ring) slot (All-head (λ r. (r.slot == slot) ≡ false) r ring absent)
    (absent-filter p ring slot (All-tail (λ r. (r.slot == slot) ≡ false) r ring absent))

apart-tail : (r : Ringed) (ring : List Ringed) → AllPairs (λ r s. r.slot ≢ s.slot) (r ∷ ring) → AllPairs (λ r s. r.slot ≢ s.slot) ring
apart-tail r ring apart i j d low high = apart (suc i) (suc j) d (omega arith) (omega arith)

apart-head : (r : Ringed) (ring : List Ringed) → AllPairs (λ r s. r.slot ≢ s.slot) (r ∷ ring) → All (λ s. r.slot ≢ s.slot) ring
apart-head r ring apart j d high = apart 0 (suc j) d (omega arith) (omega arith)

absent_of : (m n slot : ℕ) → (m == slot) ≡ true → m ≢ n → (n == slot) ≡ false
absent_of m n slot e apart = absent_by (n == slot) n slot refl (λ h. apart (eqb-true m slot e ∙ sym h))

sent-first : (b s : Bool) (r : Ringed) (ring : List Ringed) (slot : ℕ) (p : Progress)
    → (r.slot == slot) ≡ b → is_sent r.progress ≡ s → All (λ s. r.slot ≢ s.slot) ring
    → has_slot (sent_slots ring) slot ≡ is_sent p
    → has_slot (cond s (r ∷ sent_slots ring) (sent_slots ring)) slot ≡ is_sent (cond b r.progress p)
sent-first true true r ring slot p e k apart same = rw (e, k)
sent-first true false r ring slot p e k apart same =
    absent-filter (λ r. is_sent r.progress) ring slot (All-weaker (λ s. r.slot ≢ s.slot) (λ s. (s.slot == slot) ≡ false) (λ s h. absent_of r.slot s.slot slot e h) ring apart) ∙ sym k
sent-first false true r ring slot p e k apart same = rw e same
sent-first false false r ring slot p e k apart same = same

-- the bits of the word of the sent slots
pub has_slot-sent : (ring : List Ringed) (slot : ℕ) → AllPairs (λ r s. r.slot ≢ s.slot) ring
    → has_slot (sent_slots ring) slot ≡ is_sent (progress_of ring slot)
has_slot-sent [] slot apart = refl
has_slot-sent (r ∷ ring) slot apart =
    sent-first (r.slot == slot) (is_sent r.progress) r ring slot (progress_of ring slot) refl refl (apart-head r ring apart)
    (has_slot-sent ring slot (apart-tail r ring apart))
    ∙ ap is_sent (sym (found_or (r.slot == slot) r (find (λ r. r.slot == slot) ring)))

pub bit_at-sent_word : (ring : List Ringed) (slot : ℕ) → IsRing ring
    → bit_at (slots_word (sent_slots ring)) slot ≡ from_bool (is_sent (progress_of ring slot))
bit_at-sent_word ring slot h =
    word_bit (sent_slots ring) slot
    ∙ ap from_bool (has_slot-sent ring slot h.apart)

-- the entry at a place is rung
pub rung_at : (ring : List Ringed) (k : ℕ) (r : Ringed) → IsRing ring → k < length ring → get_or ring k r ≡ r
    → is_rung (progress_of ring r.slot) ≡ true
rung_at ring k r h inside here =
    rung-has_slot ring r.slot h.started
    ∙ list_any-from_Any (λ s. s.slot == r.slot) ring (k, r, inside, here, eq-eqb r.slot r.slot refl)

-- a write of as many entries leaves those
pub refill_whole : (xs ys : List Ringed) → length ys ≡ length xs → take (length xs) (ys ++ drop (length ys) xs) ≡ ys
refill_whole xs ys e = rw (← e) (take-append_seam ys (drop (length ys) xs))

-- a step of a loop that changes each entry
pub mapped_step : (f : Ringed → Ringed) (xs ys : List Ringed) (i : ℕ) (d r : Ringed) → i < length xs → length ys ≡ length xs
    → ys ≡ map f (take i xs) ++ drop i xs → r ≡ f (get_or ys i d) → set ys i r ≡ map f (take (i + 1) xs) ++ drop (i + 1) xs
mapped_step f xs ys i d r inside long so_far e =
    let within : i < length ys = omega arith in
    rw e (map_over_more f xs ys i (get_or ys i d) inside so_far (get_or_default ys i d (get_or ys i d) within))

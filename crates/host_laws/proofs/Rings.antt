-- One slot more is rung, the last in the order of ringing.
use Rattle.std.proofs.Common.{◌≡◌, ◌∙◌, ◌<◌, ◌≤◌, ◌^◌, ◌==◌, ◌&&◌, ◌++◌, ℕ, zero, suc, Bool, true, false, cond, not, List, [], ◌∷◌, Option, None, Some, length, map, filter, find, nat_lt, nat_eq, refl, ap, sym, subst, arith, append-nil, eqb-true, take_all, lt-ltb, pow_mono, if◌then◌else◌, lit≤}
use Rattle.std.proofs.lemmas.Bool.{eqb-false}
use Rattle.std.proofs.lemmas.List.{length-map, map-append}
use Rattle.std.proofs.lemmas.List.Elements.{filter-append}
use Rattle.std.proofs.lemmas.List.Folds.{find-append}
use Rattle.std.proofs.lemmas.Nat.Bits.{bit_at-pow_other, bit_at-pow_same}
use Rattle.std.specs.Option.{option_or}
use Rattle.cq_regs.specs.declared.slots.Progress.TheVariants.{Rung}
use Rattle.cq_regs.specs.declared.slots.Ringed.{Ringed}
use Rattle.cq_regs.proofs.ProgressLaws.{progress_rung}
use Rattle.cq_regs.proofs.RungLaws.{IsRing-with_first, length-ring}
use Rattle.cq_regs.specs.Slots.{AreNotRung, IsRing, first_slots, has_bit, is_rung, newly_rung, progress_of, rings, rung}
use Rattle.cq_schedule.specs.Order.{order_of}
use Rattle.host_laws.proofs.Tags.{below_more, below_that, not_below, not_lower}

-- the word of one slot
bit_if : (b : Bool) (tag slot : ℕ) → (slot == tag) ≡ b → has_bit (2 ^ tag) slot ≡ b
bit_if true tag slot e =
    ap (λ n. has_bit (2 ^ tag) n) (eqb-true slot tag e) ∙ ap (λ n. nat_eq n 1) (bit_at-pow_same tag)
bit_if false tag slot e = ap (λ n. nat_eq n 1) (bit_at-pow_other tag slot (eqb-false slot tag e))

pub bit_of : (tag slot : ℕ) → has_bit (2 ^ tag) slot ≡ (slot == tag)
bit_of tag slot = bit_if (slot == tag) tag slot refl

ring_if : (b : Bool) (ring : List Ringed) (tag slot : ℕ) → (slot == tag) ≡ b → is_rung (progress_of ring tag) ≡ false
    → (b && not (is_rung (progress_of ring slot))) ≡ b
ring_if true ring tag slot e idle = ap (λ n. not (is_rung (progress_of ring n))) (eqb-true slot tag e) ∙ ap not idle
ring_if false ring tag slot e idle = refl

-- a write of that word rings the slot alone
pub rings_one : (ring : List Ringed) (tag slot : ℕ) → is_rung (progress_of ring tag) ≡ false → rings ring (2 ^ tag) slot ≡ (slot == tag)
rings_one ring tag slot idle =
    ap (λ b. b && not (is_rung (progress_of ring slot))) (bit_of tag slot) ∙ ring_if (slot == tag) ring tag slot refl idle

alike : (p q : ℕ → Bool) (xs : List ℕ) → ((k : ℕ) → p k ≡ q k) → filter p xs ≡ filter q xs
alike p q [] same = refl
alike p q (x ∷ xs) same = rw (same x, alike p q xs same) refl

last_at : (tag : ℕ) → ((if nat_lt tag tag then tag ∷ [] else []) ++ tag ∷ []) ≡ (if nat_lt tag (suc tag) then tag ∷ [] else [])
last_at tag =
    ap (λ b. (if b then tag ∷ [] else []) ++ tag ∷ []) (not_below tag) ∙ sym (ap (λ b. if b then tag ∷ [] else []) (below_that tag))

found_last : (n tag : ℕ) (last : Bool) → (n == tag) ≡ last → filter (λ slot. slot == tag) (first_slots n) ≡ (if nat_lt tag n then tag ∷ [] else [])
    → (filter (λ slot. slot == tag) (first_slots n) ++ cond last (n ∷ []) []) ≡ (if nat_lt tag (suc n) then tag ∷ [] else [])
found_last n tag true e before =
    let same = eqb-true n tag e in
    rw before (ap (λ m. (if nat_lt tag m then tag ∷ [] else []) ++ m ∷ []) same ∙ (last_at tag ∙ ap (λ m. if nat_lt tag (suc m) then tag ∷ [] else []) (sym same)))
found_last n tag false e before =
    let apart = eqb-false n tag e in
    append-nil (filter (λ slot. slot == tag) (first_slots n)) ∙ (before ∙ sym (ap (λ b. if b then tag ∷ [] else []) (below_more tag n (λ e. apart (sym e)))))

found_one : (n tag : ℕ) → filter (λ slot. slot == tag) (first_slots n) ≡ (if nat_lt tag n then tag ∷ [] else [])
unfolding first_slots
found_one zero tag = sym (ap (λ b. if b then tag ∷ [] else []) (not_lower tag 0 (omega arith)))
found_one (suc n) tag =
    filter-append (λ slot. slot == tag) (first_slots n) (n ∷ []) ∙ found_last n tag (n == tag) refl (found_one n tag)

only_one : (tag : ℕ) → tag < 32 → filter (λ slot. slot == tag) (first_slots 32) ≡ tag ∷ []
only_one tag low = found_one 32 tag ∙ ap (λ b. if b then tag ∷ [] else []) (lt-ltb tag 32 low)

pub rung_one : (ring : List Ringed) (tag : ℕ) → tag < 32 → is_rung (progress_of ring tag) ≡ false → rung ring (2 ^ tag) ≡ ring ++ newly_rung tag ∷ []
rung_one ring tag low idle =
    ap (λ xs. ring ++ map newly_rung xs) (alike (rings ring (2 ^ tag)) (λ slot. slot == tag) (first_slots 32) (λ k. rings_one ring tag k idle) ∙ only_one tag low)

not_rung : (ring : List Ringed) (tag : ℕ) → is_rung (progress_of ring tag) ≡ false → AreNotRung ring (2 ^ tag)
not_rung ring tag idle slot below set =
    let same : slot ≡ tag = eqb-true slot tag (sym (bit_of tag slot) ∙ set) in
    ap (λ n. is_rung (progress_of ring n)) same ∙ idle

pub ring_one : (ring : List Ringed) (tag : ℕ) → tag < 32 → is_rung (progress_of ring tag) ≡ false → IsRing ring → IsRing (ring ++ newly_rung tag ∷ [])
ring_one ring tag low idle is =
    subst (λ xs. IsRing (ring ++ map newly_rung xs)) (alike (has_bit (2 ^ tag)) (λ slot. slot == tag) (first_slots 32) (λ k. bit_of tag k) ∙ only_one tag low)
    (IsRing-with_first ring (2 ^ tag) 32 is (not_rung ring tag idle) (lit≤ tt))

small_word : (tag : ℕ) → tag < 32 → 2 ^ tag < 2 ^ 32
small_word tag low = let most = pow_mono {i = tag} {j = 31} (omega (arith, low)) in omega (arith, most)

-- how far each slot is then
pub progress_one : (ring : List Ringed) (tag slot : ℕ) → tag < 32 → is_rung (progress_of ring tag) ≡ false → IsRing ring
    → progress_of (ring ++ newly_rung tag ∷ []) slot ≡ cond (slot == tag) Rung (progress_of ring slot)
progress_one ring tag slot low idle is =
    ap (λ r. progress_of r slot) (sym (rung_one ring tag low idle))
    ∙ (progress_rung ring (2 ^ tag) slot is (small_word tag low) ∙ ap (λ b. cond b Rung (progress_of ring slot)) (rings_one ring tag slot idle))

-- the order of ringing
order_all : (ring : List Ringed) → length ring ≤ 32 → order_of ring ≡ map (λ r. r.slot) ring
order_all ring few = take_all 32 (map (λ r. r.slot) ring) (let same : length (map (λ r. r.slot) ring) ≡ length ring = simp length-map in omega (arith, same, few))

pub order_one : (ring : List Ringed) (tag : ℕ) → tag < 32 → is_rung (progress_of ring tag) ≡ false → IsRing ring
    → order_of (ring ++ newly_rung tag ∷ []) ≡ order_of ring ++ tag ∷ []
order_one ring tag low idle is =
    order_all (ring ++ newly_rung tag ∷ []) (length-ring (ring ++ newly_rung tag ∷ []) (ring_one ring tag low idle is))
    ∙ (map-append (λ r. r.slot) ring (newly_rung tag ∷ []) ∙ ap (λ xs. xs ++ tag ∷ []) (sym (order_all ring (length-ring ring is))))

-- a search in that order, for what neither an idle slot is nor one that was just rung
pub find_alike : (p q : ℕ → Bool) (xs : List ℕ) → ((k : ℕ) → p k ≡ q k) → find p xs ≡ find q xs
find_alike p q [] same = refl
find_alike p q (x ∷ xs) same = rw (same x, find_alike p q xs same) refl

or_none : (found : Option ℕ) → option_or found None ≡ found
or_none None = refl
or_none (Some x) = refl

none_last : (p : ℕ → Bool) (tag : ℕ) → p tag ≡ false → find p (tag ∷ []) ≡ None
none_last p tag e = rw e refl

pub find_one : (p q : ℕ → Bool) (xs : List ℕ) (tag : ℕ) → ((k : ℕ) → p k ≡ q k) → q tag ≡ false → find p (xs ++ tag ∷ []) ≡ find q xs
find_one p q xs tag same none =
    find_alike p q (xs ++ tag ∷ []) same ∙ (find-append q xs (tag ∷ []) ∙ (ap (option_or (find q xs)) (none_last q tag none) ∙ or_none (find q xs)))

-- How far each slot is after a change of the list.
use Rattle.std.proofs.Common.{◌<◌, ◌≤◌, ◌^◌, ◌++◌, zero, suc, arith, ◌≡◌, ℕ, Bool, true, false, List, [], ◌∷◌, map, refl, sym, ap, ◌∙◌, subst}
use Rattle.std.specs.Prelude.{◌||◌, ◌&&◌, nat_lt, ◌==◌, not, cond, Option, Some}
use Rattle.std.proofs.lemmas.Bool.{false≢true}
use Rattle.std.proofs.lemmas.Bool.Decides.{nat_tests}
use Rattle.std.proofs.lemmas.List.Folds.{list_any-append}
use Rattle.std.proofs.lemmas.Map.Views.{any-filter_same}
use Rattle.std.proofs.lemmas.Nat.Bits.{bit_at_above}
use Rattle.cq_regs.proofs.RingLaws.{has_slot, rung-has_slot}
use Rattle.std.specs.List.{filter, list_any, find}
use Rattle.std.specs.Option.{option_map_or}
use Rattle.std.proofs.lemmas.Bool.{eqb-true}
use Rattle.cq_regs.specs.declared.slots.Progress.{Progress}
use Rattle.cq_regs.specs.declared.slots.Progress.TheVariants.{Idle, Rung, Named, Sent, Ready, Active}
use Rattle.cq_regs.specs.declared.slots.Ringed.{Ringed}
use Rattle.cq_regs.specs.Slots.{IsRing, is_rung, first_slots, newly_rung, rings, rung, has_bit, next, readied, moved_at, readied_by, advanced, made_ready, without, progress_of}

progress_first : (b : Bool) (r : Ringed) (rest : Option Ringed)
    → option_map_or (λ r. r.progress) (cond b (Some r) rest) Idle ≡ cond b r.progress (option_map_or (λ r. r.progress) rest Idle)
progress_first true r rest = refl
progress_first false r rest = refl

progress_cons : (r : Ringed) (ring : List Ringed) (slot : ℕ) → progress_of (r ∷ ring) slot ≡ cond (r.slot == slot) r.progress (progress_of ring slot)
progress_cons r ring slot = progress_first (r.slot == slot) r (find (λ r. r.slot == slot) ring)

changed_first : (after : ℕ → Progress → Progress) (b : Bool) (s slot : ℕ) (p q : Progress) → (s == slot) ≡ b
    → cond b (after s p) (after slot q) ≡ after slot (cond b p q)
changed_first after true s slot p q e = ap (λ n. after n p) (eqb-true s slot e)
changed_first after false s slot p q e = refl

progress_map : (f : Ringed → Ringed) (after : ℕ → Progress → Progress) (ring : List Ringed) (slot : ℕ)
    → ((r : Ringed) → (f r).slot ≡ r.slot) → ((r : Ringed) → (f r).progress ≡ after r.slot r.progress) → Idle ≡ after slot Idle
    → progress_of (map f ring) slot ≡ after slot (progress_of ring slot)
progress_map f after [] slot keeps changes idle = idle
progress_map f after (r ∷ ring) slot keeps changes idle =
    progress_cons (f r) (map f ring) slot
    ∙ ap (λ n. cond (n == slot) (f r).progress (progress_of (map f ring) slot)) (keeps r)
    ∙ ap (λ p. cond (r.slot == slot) p (progress_of (map f ring) slot)) (changes r)
    ∙ ap (λ q. cond (r.slot == slot) (after r.slot r.progress) q) (progress_map f after ring slot keeps changes idle)
    ∙ changed_first after (r.slot == slot) r.slot slot r.progress (progress_of ring slot) refl
    ∙ ap (after slot) (sym (progress_cons r ring slot))

same_slot : (b : Bool) (r : Ringed) (p : Progress) → (cond b (record r { progress = p }) r).slot ≡ r.slot
same_slot true r p = refl
same_slot false r p = refl

new_progress : (b : Bool) (r : Ringed) (p : Progress) → (cond b (record r { progress = p }) r).progress ≡ cond b p r.progress
new_progress true r p = refl
new_progress false r p = refl

both_idle : (b : Bool) → Idle ≡ cond b Idle Idle
both_idle true = refl
both_idle false = refl

pub progress_advanced : (ring : List Ringed) (slot other : ℕ)
    → progress_of (advanced ring slot) other ≡ cond (other == slot) (next (progress_of ring other)) (progress_of ring other)
progress_advanced ring slot other =
    progress_map (moved_at slot) (λ other progress. cond (other == slot) (next progress) progress) ring other
    (λ r. same_slot (r.slot == slot) r (next r.progress)) (λ r. new_progress (r.slot == slot) r (next r.progress)) (both_idle (other == slot))

pub progress_made_ready : (ring : List Ringed) (word other : ℕ)
    → progress_of (made_ready ring word) other ≡ cond (has_bit word other) (readied (progress_of ring other)) (progress_of ring other)
progress_made_ready ring word other =
    progress_map (readied_by word) (λ other progress. cond (has_bit word other) (readied progress) progress) ring other
    (λ r. same_slot (has_bit word r.slot) r (readied r.progress)) (λ r. new_progress (has_bit word r.slot) r (readied r.progress)) (both_idle (has_bit word other))

left_first : (out b : Bool) (r : Ringed) (ring : List Ringed) (slot other : ℕ) → (r.slot == slot) ≡ out → (r.slot == other) ≡ b
    → progress_of (without ring slot) other ≡ cond (other == slot) Idle (progress_of ring other)
    → progress_of (cond (not out) (r ∷ without ring slot) (without ring slot)) other
    ≡ cond (other == slot) Idle (cond b r.progress (progress_of ring other))
left_first true true r ring slot other e f rest =
    let same : (other == slot) ≡ true = subst (λ n. (n == slot) ≡ true) (eqb-true r.slot other f) e in
    rest ∙ ap (λ b. cond b Idle (progress_of ring other)) same ∙ sym (ap (λ b. cond b Idle r.progress) same)
left_first true false r ring slot other e f rest = rest
left_first false true r ring slot other e f rest =
    let apart : (other == slot) ≡ false = subst (λ n. (n == slot) ≡ false) (eqb-true r.slot other f) e in
    progress_cons r (without ring slot) other
    ∙ ap (λ b. cond b r.progress (progress_of (without ring slot) other)) f
    ∙ sym (ap (λ b. cond b Idle r.progress) apart)
left_first false false r ring slot other e f rest =
    progress_cons r (without ring slot) other
    ∙ ap (λ b. cond b r.progress (progress_of (without ring slot) other)) f
    ∙ rest

pub progress_without : (ring : List Ringed) (slot other : ℕ)
    → progress_of (without ring slot) other ≡ cond (other == slot) Idle (progress_of ring other)
progress_without [] slot other = both_idle (other == slot)
progress_without (r ∷ ring) slot other =
    left_first (r.slot == slot) (r.slot == other) r ring slot other refl refl (progress_without ring slot other)
    ∙ ap (λ p. cond (other == slot) Idle p) (sym (progress_cons r ring other))

regrouped : {A : Type 0} (b has : Bool) (p q t : A) → cond b p (cond has q t) ≡ cond (b || has) (cond b p q) t
regrouped true has p q t = refl
regrouped false has p q t = refl

progress_append : (ring more : List Ringed) (slot : ℕ)
    → progress_of (ring ++ more) slot ≡ cond (has_slot ring slot) (progress_of ring slot) (progress_of more slot)
progress_append [] more slot = refl
progress_append (r ∷ ring) more slot =
    progress_cons r (ring ++ more) slot
    ∙ ap (λ p. cond (r.slot == slot) r.progress p) (progress_append ring more slot)
    ∙ regrouped (r.slot == slot) (has_slot ring slot) r.progress (progress_of ring slot) (progress_of more slot)
    ∙ ap (λ p. cond ((r.slot == slot) || has_slot ring slot) p (progress_of more slot)) (sym (progress_cons r ring slot))

newly_first : (b has : Bool) → cond b Rung (cond has Rung Idle) ≡ cond (b || has) Rung Idle
newly_first true has = refl
newly_first false has = refl

progress_new : (slots : List ℕ) (slot : ℕ) → progress_of (map newly_rung slots) slot ≡ cond (list_any (λ k. k == slot) slots) Rung Idle
progress_new [] slot = refl
progress_new (k ∷ slots) slot =
    progress_cons (newly_rung k) (map newly_rung slots) slot
    ∙ ap (λ p. cond (k == slot) Rung p) (progress_new slots slot)
    ∙ newly_first (k == slot) (list_any (λ k. k == slot) slots)

first_step : (n slot : ℕ) → (nat_lt slot n || ((n == slot) || false)) ≡ nat_lt slot (suc n)
first_step n slot = grind (arith, nat_tests)

none_below : (slot : ℕ) → false ≡ nat_lt slot 0
none_below slot = grind (arith, nat_tests)

among_first : (n slot : ℕ) → list_any (λ k. k == slot) (first_slots n) ≡ nat_lt slot n
unfolding first_slots
among_first zero slot = none_below slot
among_first (suc n) slot =
    list_any-append (λ k. k == slot) (first_slots n) (n ∷ [])
    ∙ ap (λ b. b || ((n == slot) || false)) (among_first n slot)
    ∙ first_step n slot

chosen : (p : ℕ → Bool) (slot : ℕ) → list_any (λ k. k == slot) (filter p (first_slots 32)) ≡ (p slot && nat_lt slot 32)
chosen p slot =
    any-filter_same (λ k. k == slot) p (p slot) (λ k same. ap p (eqb-true k slot same)) (first_slots 32)
    ∙ ap (λ b. p slot && b) (among_first 32 slot)

idle_of : (p : Progress) → is_rung p ≡ false → p ≡ Idle
idle_of Idle e = refl
idle_of Rung e = absurd (false≢true (sym e))
idle_of Named e = absurd (false≢true (sym e))
idle_of Sent e = absurd (false≢true (sym e))
idle_of Ready e = absurd (false≢true (sym e))
idle_of Active e = absurd (false≢true (sym e))

rung_case : (has bit within : Bool) (p : Progress) → is_rung p ≡ has → (within ≡ false → bit ≡ false)
    → cond has p (cond ((bit && not (is_rung p)) && within) Rung Idle) ≡ cond (bit && not (is_rung p)) Rung p
rung_case true true within p e out = rw e refl
rung_case true false within p e out = refl
rung_case false true true p e out = rw e refl
rung_case false true false p e out = absurd (false≢true (sym (out refl)))
rung_case false false within p e out = sym (idle_of p e)

past_word : (word slot : ℕ) → word < 2 ^ 32 → nat_lt slot 32 ≡ false → has_bit word slot ≡ false
past_word word slot fits high =
    let over : 32 ≤ slot = grind (arith, nat_tests) in
    rw (bit_at_above word 32 slot fits over) refl

pub progress_rung : (ring : List Ringed) (doorbells slot : ℕ) → IsRing ring → doorbells < 2 ^ 32
    → progress_of (rung ring doorbells) slot ≡ cond (rings ring doorbells slot) Rung (progress_of ring slot)
progress_rung ring doorbells slot h fits =
    progress_append ring (map newly_rung (filter (rings ring doorbells) (first_slots 32))) slot
    ∙ ap (λ p. cond (has_slot ring slot) (progress_of ring slot) p)
    (progress_new (filter (rings ring doorbells) (first_slots 32)) slot ∙ ap (λ b. cond b Rung Idle) (chosen (rings ring doorbells) slot))
    ∙ rung_case (has_slot ring slot) (has_bit doorbells slot) (nat_lt slot 32) (progress_of ring slot) (rung-has_slot ring slot h.started)
    (past_word doorbells slot fits)

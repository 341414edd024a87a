-- How far the slots are, and the order in which they were rung.
use Rattle.std.proofs.Common.{◌≡◌, ◌≢◌, ℕ, Bool, true, false, cond, length, refl, sym, ◌∙◌, ap, subst, arith}
use Rattle.std.specs.Prelude.{◌==◌, ◌||◌, Option, Some, None, List, [], ◌∷◌, map, take}
use Rattle.std.specs.List.{find, list_any}
use Rattle.std.proofs.lemmas.Bool.{eq-eqb, eqb-true, false≢true, true≢false, false_from_ne_true}
use Rattle.std.proofs.lemmas.List.{length-map, take_all}
use Rattle.std.proofs.lemmas.Option.{none-some}
use Rattle.cq_regs.specs.declared.slots.Progress.{Progress}
use Rattle.cq_regs.specs.declared.slots.Progress.TheVariants.{Idle, Rung, Named, Sent, Ready, Active}
use Rattle.cq_regs.specs.declared.slots.Ringed.{Ringed}
use Rattle.cq_regs.specs.Slots.{IsRing, advanced, has_bit, is_rung, made_ready, moved_at, next, progress_of, readied, readied_by}
use Rattle.cq_regs.proofs.ProgressLaws.{progress_advanced, progress_made_ready}
use Rattle.cq_regs.proofs.RingLaws.{has_slot, rung-has_slot}
use Rattle.cq_regs.proofs.RungLaws.{length-ring}
use Rattle.cq_schedule.specs.Held.{same}
use Rattle.cq_schedule.specs.Order.{first_at, order_of}
use Rattle.cq_schedule.proofs.Progresses.{same-refl, same-true}

-- a slot that moved on
pub advanced-same : (ring : List Ringed) (slot : ℕ) → progress_of (advanced ring slot) slot ≡ next (progress_of ring slot)
advanced-same ring slot =
    progress_advanced ring slot slot ∙ ap (λ b. cond b (next (progress_of ring slot)) (progress_of ring slot)) (eq-eqb slot slot refl)

next_rung : (b : Bool) (p : Progress) → is_rung (cond b (next p) p) ≡ is_rung p
next_rung false p = refl
next_rung true Idle = refl
next_rung true Rung = refl
next_rung true Named = refl
next_rung true Sent = refl
next_rung true Ready = refl
next_rung true Active = refl

pub rung-advanced : (ring : List Ringed) (slot tag : ℕ) → is_rung (progress_of (advanced ring slot) tag) ≡ is_rung (progress_of ring tag)
rung-advanced ring slot tag = ap is_rung (progress_advanced ring slot tag) ∙ next_rung (tag == slot) (progress_of ring tag)

readied_rung : (b : Bool) (p : Progress) → is_rung (cond b (readied p) p) ≡ is_rung p
readied_rung false p = refl
readied_rung true Idle = refl
readied_rung true Rung = refl
readied_rung true Named = refl
readied_rung true Sent = refl
readied_rung true Ready = refl
readied_rung true Active = refl

pub rung-made_ready : (ring : List Ringed) (word tag : ℕ) → is_rung (progress_of (made_ready ring word) tag) ≡ is_rung (progress_of ring tag)
rung-made_ready ring word tag = ap is_rung (progress_made_ready ring word tag) ∙ readied_rung (has_bit word tag) (progress_of ring tag)

-- a change of how far slots are leaves their order
kept_slot : (b : Bool) (r : Ringed) (p : Progress) → (cond b (record r { progress = p }) r).slot ≡ r.slot
kept_slot true r p = refl
kept_slot false r p = refl

slots_map : (f : Ringed → Ringed) (ring : List Ringed) → ((r : Ringed) → (f r).slot ≡ r.slot) → map (λ r. r.slot) (map f ring) ≡ map (λ r. r.slot) ring
slots_map f [] keeps = refl
slots_map f (r ∷ ring) keeps =
    ap (λ s. s ∷ map (λ r. r.slot) (map f ring)) (keeps r) ∙ ap (λ rest. r.slot ∷ rest) (slots_map f ring keeps)

pub order_advanced : (ring : List Ringed) (slot : ℕ) → order_of (advanced ring slot) ≡ order_of ring
order_advanced ring slot = ap (λ rest. take 32 rest) (slots_map (moved_at slot) ring (λ r. kept_slot (r.slot == slot) r (next r.progress)))

pub order_made_ready : (ring : List Ringed) (word : ℕ) → order_of (made_ready ring word) ≡ order_of ring
order_made_ready ring word = ap (λ rest. take 32 rest) (slots_map (readied_by word) ring (λ r. kept_slot (has_bit word r.slot) r (readied r.progress)))

-- no slot has come just so far
find_none : (p : ℕ → Bool) (xs : List ℕ) → ((x : ℕ) → p x ≡ false) → find p xs ≡ None
find_none p [] fails = refl
find_none p (x ∷ xs) fails = ap (λ b. cond b (Some x) (find p xs)) (fails x) ∙ find_none p xs fails

pub first_none : (progress : Progress) (ring : List Ringed) → ((slot : ℕ) → progress_of ring slot ≢ progress) → first_at progress ring ≡ None
first_none progress ring none =
    find_none (λ slot. same (progress_of ring slot) progress) (order_of ring)
    (λ slot. false_from_ne_true (same (progress_of ring slot) progress) (λ e. none slot (same-true (progress_of ring slot) progress e)))

-- a slot that is found has come just so far
passes_if : (p : ℕ → Bool) (rest : Option ℕ) (x y : ℕ) (b : Bool) → p x ≡ b → (rest ≡ Some y → p y ≡ true) → cond b (Some x) rest ≡ Some y → p y ≡ true
passes_if p rest x y true f later e = let same_one : x ≡ y = cc e in subst (λ n. p n ≡ true) same_one f
passes_if p rest x y false f later e = later e

find_passes : (p : ℕ → Bool) (xs : List ℕ) (y : ℕ) → find p xs ≡ Some y → p y ≡ true
find_passes p [] y e = absurd (none-some y e)
find_passes p (x ∷ xs) y e = passes_if p (find p xs) x y (p x) refl (find_passes p xs y) e

pub first_is : (progress : Progress) (ring : List Ringed) (slot : ℕ) → first_at progress ring ≡ Some slot → progress_of ring slot ≡ progress
first_is progress ring slot e =
    same-true (progress_of ring slot) progress (find_passes (λ s. same (progress_of ring s) progress) (order_of ring) slot e)

-- each slot that is rung stands in the order
missed_if : (p : ℕ → Bool) (xs : List ℕ) (x y : ℕ) (b c : Bool) → p x ≡ b → (x == y) ≡ c
    → (find p xs ≡ None → list_any (λ k. k == y) xs ≡ true → p y ≡ true → ⊥)
    → cond b (Some x) (find p xs) ≡ None → (c || list_any (λ k. k == y) xs) ≡ true → p y ≡ true → ⊥
missed_if p xs x y true c f g rest e has passes = none-some x (sym e)
missed_if p xs x y false true f g rest e has passes =
    let same_one : x ≡ y = eqb-true x y g in
    true≢false (sym passes ∙ subst (λ n. p n ≡ false) same_one f)
missed_if p xs x y false false f g rest e has passes = rest e has passes

missed : (p : ℕ → Bool) (xs : List ℕ) (y : ℕ) → find p xs ≡ None → list_any (λ k. k == y) xs ≡ true → p y ≡ true → ⊥
missed p [] y e has passes = false≢true has
missed p (x ∷ xs) y e has passes = missed_if p xs x y (p x) (x == y) refl refl (missed p xs y) e has passes

any_slot : (ring : List Ringed) (slot : ℕ) → list_any (λ k. k == slot) (map (λ r. r.slot) ring) ≡ has_slot ring slot
any_slot [] slot = refl
any_slot (r ∷ ring) slot = ap (λ b. (r.slot == slot) || b) (any_slot ring slot)

whole_order : (ring : List Ringed) → IsRing ring → order_of ring ≡ map (λ r. r.slot) ring
whole_order ring h =
    let few = length-ring ring h in
    let long : length (map (λ r. r.slot) ring) ≡ length ring = simp length-map in
    take_all 32 (map (λ r. r.slot) ring) (omega (arith, few, long))

-- so where none is found, none has come so far
pub none_at : (progress : Progress) (ring : List Ringed) (slot : ℕ) → IsRing ring → first_at progress ring ≡ None → progress_of ring slot ≡ progress
    → is_rung progress ≡ true → ⊥
none_at progress ring slot h none is rung =
    let has : list_any (λ k. k == slot) (order_of ring) ≡ true =
    ap (λ xs. list_any (λ k. k == slot) xs) (whole_order ring h) ∙ any_slot ring slot ∙ sym (rung-has_slot ring slot h.started) ∙ ap is_rung is ∙ rung in
    let P : Progress → Type 0 = λ p. same p progress ≡ true in
    missed (λ s. same (progress_of ring s) progress) (order_of ring) slot none has (subst P (sym is) (same-refl progress))

-- one slot alone has come so far
found_if : (p : ℕ → Bool) (xs : List ℕ) (x y : ℕ) (b c : Bool) → p x ≡ b → (x == y) ≡ c → p y ≡ true → ((k : ℕ) → p k ≡ true → k ≡ y)
    → (list_any (λ k. k == y) xs ≡ true → find p xs ≡ Some y) → (c || list_any (λ k. k == y) xs) ≡ true → cond b (Some x) (find p xs) ≡ Some y
found_if p xs x y true c f g passes only rest has = ap (λ n. Some n) (only x f)
found_if p xs x y false true f g passes only rest has = absurd (true≢false (sym passes ∙ subst (λ n. p n ≡ false) (eqb-true x y g) f))
found_if p xs x y false false f g passes only rest has = rest has

find_only : (p : ℕ → Bool) (xs : List ℕ) (y : ℕ) → p y ≡ true → ((k : ℕ) → p k ≡ true → k ≡ y) → list_any (λ k. k == y) xs ≡ true → find p xs ≡ Some y
find_only p [] y passes only has = absurd (false≢true has)
find_only p (x ∷ xs) y passes only has = found_if p xs x y (p x) (x == y) refl refl passes only (find_only p xs y passes only) has

pub first_only : (progress : Progress) (ring : List Ringed) (slot : ℕ) → IsRing ring → progress_of ring slot ≡ progress → is_rung progress ≡ true
    → ((tag : ℕ) → progress_of ring tag ≡ progress → tag ≡ slot) → first_at progress ring ≡ Some slot
first_only progress ring slot h is rung only =
    let has : list_any (λ k. k == slot) (order_of ring) ≡ true =
    ap (λ xs. list_any (λ k. k == slot) xs) (whole_order ring h) ∙ any_slot ring slot ∙ sym (rung-has_slot ring slot h.started) ∙ ap is_rung is ∙ rung in
    let P : Progress → Type 0 = λ p. same p progress ≡ true in
    find_only (λ s. same (progress_of ring s) progress) (order_of ring) slot (subst P (sym is) (same-refl progress))
    (λ k e. only k (same-true (progress_of ring k) progress e)) has

pub find_alike : (p q : ℕ → Bool) (xs : List ℕ) → ((x : ℕ) → p x ≡ q x) → find p xs ≡ find q xs
find_alike p q [] alike = refl
find_alike p q (x ∷ xs) alike =
    ap (λ b. cond b (Some x) (find p xs)) (alike x) ∙ ap (λ rest. cond (q x) (Some x) rest) (find_alike p q xs alike)

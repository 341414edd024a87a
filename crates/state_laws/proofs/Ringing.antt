-- The slots in order of ringing are the rung ones.
use Rattle.std.proofs.Common.{◌≡◌, ◌≢◌, ℕ, ◌<◌, ◌≤◌, Bool, true, List, [], ◌∷◌, length, map, get_or, refl, sym, ap, subst, ◌∙◌, arith}
use Rattle.std.specs.Prelude.{is_some, ◌==◌}
use Rattle.std.specs.List.{All, AllPairs, list_any}
use Rattle.std.proofs.lemmas.Bool.{eqb-true}
use Rattle.std.proofs.lemmas.List.{get_or_default, length-map, get_or-map, take_all}
use Rattle.std.proofs.lemmas.List.Elements.{All-map, All-take}
use Rattle.std.proofs.lemmas.List.Folds.{Any-from_list_any, list_any_at}
use Rattle.std.proofs.lemmas.List.FromFn.{get_or-range_with_len, length-range_with_len}
use Rattle.cq_regs.specs.declared.slots.Progress.{Progress}
use Rattle.cq_regs.specs.declared.slots.Ringed.{Ringed}
use Rattle.cq_regs.specs.Slots.{IsRing, is_rung, progress_of}
use Rattle.cq_regs.proofs.RingLaws.{rung-has_slot, rung_at}
use Rattle.cq_regs.proofs.RungLaws.{length-ring}
use Rattle.cq_schedule.specs.Held.{same, slots}
use Rattle.cq_schedule.specs.Order.{first_at, order_of}
use Rattle.cq_schedule.proofs.Progresses.{same-true}
use Rattle.state_laws.proofs.Searches.{is_some_find, same_tests}

-- a slot is below 32 and rung
pub record IsRungSlot (ring : List Ringed) (slot : ℕ) : Type 0 where
  pub below : slot < 32
  pub rings : is_rung (progress_of ring slot) ≡ true

pub ring_slots : (ring : List Ringed) → IsRing ring → All (λ r. IsRungSlot ring r.slot) ring
ring_slots ring h k d low = record {
  below = h.below k d low;
  rings = rung_at ring k (get_or ring k d) h low (get_or_default ring k (get_or ring k d) d low);
}

pub order_slots : (ring : List Ringed) → IsRing ring → All (IsRungSlot ring) (order_of ring)
order_slots ring h = All-take (IsRungSlot ring) 32 (map (λ r. r.slot) ring) (All-map (IsRungSlot ring) (λ r. r.slot) ring (ring_slots ring h))

order_whole : (ring : List Ringed) → IsRing ring → order_of ring ≡ map (λ r. r.slot) ring
order_whole ring h = take_all 32 (map (λ r. r.slot) ring) (let few = length-ring ring h in let long = length-map ring (λ r. r.slot) in omega (arith, few, long))

-- a rung slot is in order of ringing
in_order : (ring : List Ringed) (test : ℕ → Bool) (slot : ℕ) → IsRing ring → is_rung (progress_of ring slot) ≡ true → test slot ≡ true
    → list_any test (order_of ring) ≡ true
in_order ring test slot h rings passes =
    let there = Any-from_list_any (λ r. r.slot == slot) ring (sym (rung-has_slot ring slot h.started) ∙ rings) in
    let is : (get_or ring there.0 there.1).slot ≡ slot = ap (λ r. r.slot) there.3 ∙ eqb-true there.1.slot slot there.4 in
    ap (list_any test) (order_whole ring h)
    ∙ list_any_at test (map (λ r. r.slot) ring) there.0 0 (let long = length-map ring (λ r. r.slot) in let low = there.2 in omega (arith, long, low))
    (ap test (get_or-map (λ r. r.slot) ring there.0 there.1 0 there.2 ∙ is) ∙ passes)

in_slots : (test : ℕ → Bool) (slot : ℕ) → slot < 32 → test slot ≡ true → list_any test slots ≡ true
unfolding slots
in_slots test slot below passes =
    list_any_at test slots slot 0 (omega (arith, below, length-range_with_len 0 32)) (ap test (get_or-range_with_len 0 32 slot 0 below ∙ omega arith) ∙ passes)

-- a test that only rung slots pass finds one in order of ringing where it finds one at all
pub any_rung : (ring : List Ringed) (test : ℕ → Bool) → IsRing ring → ((slot : ℕ) → test slot ≡ true → is_rung (progress_of ring slot) ≡ true)
    → list_any test slots ≡ list_any test (order_of ring)
any_rung ring test h rings =
    same_tests (list_any test slots) (list_any test (order_of ring))
    (λ e. let there = Any-from_list_any test slots e in in_order ring test there.1 h (rings there.1 there.4) there.4)
    (λ e.
    let there = Any-from_list_any test (order_of ring) e in
    let low = (order_slots ring h there.0 there.1 there.2).below in
    in_slots test there.1 (subst (λ n. n < 32) there.3 low) there.4)

rung_so_far : (q progress : Progress) → is_rung progress ≡ true → same q progress ≡ true → is_rung q ≡ true
rung_so_far q progress rings e = ap is_rung (same-true q progress e) ∙ rings

pub first_is_any : (ring : List Ringed) (progress : Progress) → IsRing ring → is_rung progress ≡ true
    → list_any (λ slot. same (progress_of ring slot) progress) slots ≡ is_some (first_at progress ring)
first_is_any ring progress h rings =
    any_rung ring (λ slot. same (progress_of ring slot) progress) h (λ slot e. rung_so_far (progress_of ring slot) progress rings e)
    ∙ sym (is_some_find (λ slot. same (progress_of ring slot) progress) (order_of ring))

-- where all rung slots are one, one is rung at most
pub ring_short : (ring : List Ringed) → IsRing ring → (slot : ℕ) → ((other : ℕ) → IsRungSlot ring other → other ≡ slot) → length ring ≤ 1
ring_short ring h slot one = by ring refl
  where
    by : (some : List Ringed) → ring ≡ some → length ring ≤ 1
    by [] e = let long : length ring ≡ 0 = ap length e in omega (arith, long)
    by (r ∷ []) e = let long : length ring ≡ 1 = ap length e in omega (arith, long)
    by (r ∷ s ∷ rest) e =
        let all : All (λ r. IsRungSlot ring r.slot) (r ∷ s ∷ rest) = subst (All (λ r. IsRungSlot ring r.slot)) e (ring_slots ring h) in
        let apart : AllPairs (λ r s. r.slot ≢ s.slot) (r ∷ s ∷ rest) = subst (AllPairs (λ r s. r.slot ≢ s.slot)) e h.apart in
        absurd (apart 0 1 r (omega arith) (omega arith) (one r.slot (all 0 r (omega arith)) ∙ sym (one s.slot (all 1 r (omega arith)))))

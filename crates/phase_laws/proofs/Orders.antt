-- The slots in order of ringing, and the data of the done reads, once a task was completed.
use Rattle.std.proofs.Common.{◌≡◌, ◌≢◌, ◌<◌, ◌≤◌, ◌+◌, ◌-◌, ◌==◌, ℕ, zero, suc, refl, sym, ◌∙◌, ap, subst, arith, inl, inr, zero-add, get_or}
use Rattle.std.specs.Prelude.{Bool, true, false, not, cond, Option, Some, None, List, [], ◌∷◌, map, take, drop, length, slice_set, slice_range}
use Rattle.std.specs.List.{filter, range_with_len}
use Rattle.std.proofs.lemmas.Bool.Decides.{eqb_tells}
use Rattle.std.proofs.lemmas.List.{get_or-drop, get_or-set_other, get_or-set_same, get_or-take, length-drop, length-take-le}
use Rattle.std.proofs.lemmas.List.FromFn.{get_or-map-range_with_len, length-map-range_with_len}
use Rattle.std.proofs.Math.ListN.{length-set}
use Rattle.cq_regs.proofs.RingLaws.{IsRing-filter}
use Rattle.cq_regs.proofs.RungLaws.{length-ring}
use Rattle.cq_regs.specs.Slots.{IsRing, has_bit, without}
use Rattle.cq_regs.specs.declared.slots.Ringed.{Ringed}
use Rattle.cq_schedule.specs.Held.{slots}
use Rattle.cq_schedule.specs.Order.{order_of}
use Rattle.storage_machine.specs.Jobs.{sector_of}
use Rattle.storage_model.proofs.Appends.{length-contents_now}
use Rattle.storage_model.specs.Contents.{contents_now, sector_at}
use Rattle.storage_model.specs.declared.block.Block.{Block}
use Rattle.world_state.specs.Path.{PathState, holder, job}
use Rattle.world_state.specs.Reading.{blocks_held, data_by, data_of, is_done}
use Rattle.phase_laws.proofs.Slotted.{same_list}

-- ---- the order

few_all : (n : ℕ) (ring : List Ringed) → length ring ≤ n → take n (map (λ r. r.slot) ring) ≡ map (λ r. r.slot) ring
few_all zero [] few = refl
few_all (suc n) [] few = refl
few_all zero (r ∷ ring) few = absurd (omega (arith, few))
few_all (suc n) (r ∷ ring) few = ap (λ xs. r.slot ∷ xs) (few_all n ring (omega (arith, few)))

abbrev kept_slots : List Ringed → ℕ → List ℕ
kept_slots ring slot = filter (λ other. not (other == slot)) (map (λ r. r.slot) ring)

by_both : (r : Ringed) (ring : List Ringed) (slot : ℕ) (b : Bool) → map (λ r. r.slot) (without ring slot) ≡ kept_slots ring slot
    → map (λ (r : Ringed). r.slot) (cond b (r ∷ without ring slot) (without ring slot)) ≡ cond b (r.slot ∷ kept_slots ring slot) (kept_slots ring slot)
by_both r ring slot true e = ap (λ xs. r.slot ∷ xs) e
by_both r ring slot false e = e

without_more : (r : Ringed) (ring : List Ringed) (slot : ℕ) (b : Bool) → not (r.slot == slot) ≡ b
    → map (λ r. r.slot) (without ring slot) ≡ kept_slots ring slot → map (λ r. r.slot) (without (r ∷ ring) slot) ≡ kept_slots (r ∷ ring) slot
without_more r ring slot b test e =
    ap (λ x. map (λ (r : Ringed). r.slot) (cond x (r ∷ without ring slot) (without ring slot))) test
    ∙ by_both r ring slot b e
    ∙ sym (ap (λ x. cond x (r.slot ∷ kept_slots ring slot) (kept_slots ring slot)) test)

slots_without : (ring : List Ringed) (slot : ℕ) → map (λ r. r.slot) (without ring slot) ≡ filter (λ other. not (other == slot)) (map (λ r. r.slot) ring)
slots_without [] slot = refl
slots_without (r ∷ ring) slot = without_more r ring slot (not (r.slot == slot)) refl (slots_without ring slot)

pub order_without : (ring : List Ringed) (slot : ℕ) → IsRing ring → order_of (without ring slot) ≡ filter (λ other. not (other == slot)) (order_of ring)
order_without ring slot is =
    few_all 32 (without ring slot) (length-ring (without ring slot) (IsRing-filter (λ r. not (r.slot == slot)) ring is))
    ∙ slots_without ring slot
    ∙ ap (λ xs. filter (λ other. not (other == slot)) xs) (sym (few_all 32 ring (length-ring ring is)))

-- ---- the data

data_long : (p : PathState) → length (data_of p) ≡ 32
unfolding data_of slots
data_long p = length-map-range_with_len (λ tag. data_by p tag (holder p tag)) 0 32

data_at : (p : PathState) (tag : ℕ) → tag < 32 → get_or (data_of p) tag [] ≡ data_by p tag (holder p tag)
unfolding data_of slots
data_at p tag below = get_or-map-range_with_len (λ tag. data_by p tag (holder p tag)) 0 32 tag tag [] below (zero-add tag)

-- where only one slot's data is new
pub data_set : (p q : PathState) (slot : ℕ) (xs : List Block) → slot < 32 → data_by q slot (holder q slot) ≡ xs
    → ((tag : ℕ) → tag < 32 → tag ≢ slot → data_by q tag (holder q tag) ≡ data_by p tag (holder p tag)) → data_of q ≡ slice_set (data_of p) slot xs
data_set p q slot xs below at others =
    same_list [] (data_of q) (slice_set (data_of p) slot xs) (data_long q ∙ sym (length-set (data_of p) slot xs ∙ data_long p))
    (λ tag low.
    let within : tag < 32 = subst (λ n. tag < n) (data_long q) low in
    let inside : slot < length (data_of p) = subst (λ n. slot < n) (sym (data_long p)) below in
    elim (eqb_tells tag slot) [
      | inl e ↦
          ap (λ n. get_or (data_of q) n []) e.1 ∙ data_at q slot below ∙ at
          ∙ sym (get_or-set_same (data_of p) slot xs [] inside)
          ∙ ap (λ n. get_or (slice_set (data_of p) slot xs) n []) (sym e.1)
      | inr e ↦
          data_at q tag within ∙ others tag within e.1 ∙ sym (data_at p tag within)
          ∙ sym (get_or-set_other (data_of p) slot tag xs [] e.1)
    ])

-- where none is
pub data_same : (p q : PathState) → ((tag : ℕ) → tag < 32 → data_by q tag (holder q tag) ≡ data_by p tag (holder p tag)) → data_of q ≡ data_of p
data_same p q each =
    same_list [] (data_of q) (data_of p) (data_long q ∙ sym (data_long p))
    (λ tag low.
    let within : tag < 32 = subst (λ n. tag < n) (data_long q) low in
    data_at q tag within ∙ each tag within ∙ sym (data_at p tag within))

-- ---- the sectors of a read

-- values that are those of the sectors, one by one
pub sectors_so : (f : ℕ → Block) (xs : List Block) (sector blocks : ℕ) → sector + blocks ≤ length xs
    → ((k : ℕ) → k < blocks → f k ≡ sector_at xs (sector + k)) → map f (range_with_len 0 blocks) ≡ slice_range xs sector (sector + blocks)
sectors_so f xs sector blocks fits each =
    let many : sector + blocks - sector ≡ blocks = omega arith in
    let left = length-drop sector xs in
    let room : blocks ≤ length (drop sector xs) = omega (arith, left, fits) in
    let size : length (slice_range xs sector (sector + blocks)) ≡ blocks = ap (λ n. length (take n (drop sector xs))) many ∙ length-take-le blocks (drop sector xs) room in
    let none : Block = record { 0 = [] } in
    same_list none (map f (range_with_len 0 blocks)) (slice_range xs sector (sector + blocks)) (length-map-range_with_len f 0 blocks ∙ sym size)
    (λ k low.
    let less : k < blocks = subst (λ n. k < n) (length-map-range_with_len f 0 blocks) low in
    get_or-map-range_with_len f 0 blocks k k none less (zero-add k) ∙ each k less
    ∙ sym (ap (λ n. get_or (take n (drop sector xs)) k none) many ∙ get_or-take blocks (drop sector xs) k none less ∙ get_or-drop sector xs k none))

-- What is due where a queue barrier stands alone: no slot is held back then.
use Rattle.std.proofs.Common.{◌≡◌, ◌<◌, ◌≤◌, ◌+◌, ℕ, zero, suc, Bool, true, false, cond, length, map, take, refl, sym, ap, ◌∙◌, subst, inl, inr, ⊎_elim, arith}
use Rattle.std.specs.Prelude.{List, [], ◌∷◌, Option, Some, None, slice_get}
use Rattle.std.specs.List.{find}
use Rattle.std.specs.Option.{option_map, option_map_or, MatchOption}
use Rattle.std.proofs.lemmas.Bool.{cases_lt, false≢true}
use Rattle.std.proofs.lemmas.Option.{none-some, same_Some, slice_get_past}
use Rattle.host_mem.specs.Memory.{Memory}
use Rattle.cq_regs.specs.declared.slots.Progress.TheVariants.{Rung, Named, Active}
use Rattle.cq_regs.specs.declared.slots.Ringed.{Ringed}
use Rattle.cq_regs.specs.State.{Registers}
use Rattle.cq_regs.specs.Slots.{progress_of}
use Rattle.cq_schedule.specs.declared.rules.Due.{Due}
use Rattle.cq_schedule.specs.declared.rules.Due.TheVariants.{Rest, Address, Serve}
use Rattle.cq_schedule.specs.Held.{Places, same}
use Rattle.cq_schedule.specs.Order.{order_of, first_at}
use Rattle.cq_schedule.specs.Meaning.{after_serving, before_serving, next_of_phase, plain_due, rests, AloneIfBars, IsDue, IsDueThen, IsNextServed}
use Rattle.cq_schedule.proofs.OneDue.{one_due}
use Rattle.cq_schedule.proofs.Progresses.{same-true, same-false}

-- the first of a list that passes a test, and where it stands
pub record IsFound (p : ℕ → Bool) (xs : List ℕ) (x : ℕ) : Type 0 where
  pub place : ℕ
  pub is_at : slice_get xs place ≡ Some x
  pub passes : p x ≡ true
  pub before : (j y : ℕ) → j < place → slice_get xs j ≡ Some y → p y ≡ false

abbrev pub Found : (ℕ → Bool) → List ℕ → Option ℕ → Type 0
Found p xs (Some x) = IsFound p xs x
Found p xs None = (j y : ℕ) → slice_get xs j ≡ Some y → p y ≡ false

found_later : (p : ℕ → Bool) (x : ℕ) (xs : List ℕ) (o : Option ℕ) → p x ≡ false → Found p xs o → Found p (x ∷ xs) o
found_later p x xs (Some y) e f = record {
  place = suc f.place;
  is_at = f.is_at;
  passes = f.passes;
  before = earlier;
}
  where
    earlier : (j z : ℕ) → j < suc f.place → slice_get (x ∷ xs) j ≡ Some z → p z ≡ false
    earlier zero z below at = subst (λ v. p v ≡ false) (same_Some x z at) e
    earlier (suc j) z below at = f.before j z (omega arith) at
found_later p x xs None e f = none
  where
    none : (j z : ℕ) → slice_get (x ∷ xs) j ≡ Some z → p z ≡ false
    none zero z at = subst (λ v. p v ≡ false) (same_Some x z at) e
    none (suc j) z at = f j z at

found_if : (p : ℕ → Bool) (x : ℕ) (xs : List ℕ) (b : Bool) → p x ≡ b → Found p xs (find p xs) → Found p (x ∷ xs) (cond b (Some x) (find p xs))
found_if p x xs true e f = record { place = 0; is_at = refl; passes = e; before = λ j y below at. absurd (omega arith) }
found_if p x xs false e f = found_later p x xs (find p xs) e f

found : (p : ℕ → Bool) (xs : List ℕ) → Found p xs (find p xs)
found p [] = λ j y at. absurd (none-some y (sym (slice_get_past [] j (omega arith)) ∙ at))
found p (x ∷ xs) = found_if p x xs (p x) refl (found p xs)

inside : (xs : List ℕ) (k x : ℕ) → slice_get xs k ≡ Some x → k < length xs
inside xs k x at = ⊎_elim (λ near. near) (λ far. absurd (none-some x (sym (slice_get_past xs k far) ∙ at))) (cases_lt k (length xs))

shorter : (f : Ringed → ℕ) (ring : List Ringed) (n : ℕ) → length (take n (map f ring)) ≤ length ring
shorter f ring zero = omega arith
shorter f [] (suc n) = omega arith
shorter f (r ∷ ring) (suc n) = omega (arith, shorter f ring n)

-- a place in the order of ringing is below the number of rung slots
rung_inside : (regs : Registers) (k slot : ℕ) → slice_get (order_of regs.ring) k ≡ Some slot → k < length regs.ring
rung_inside regs k slot at =
    let low = inside (order_of regs.ring) k slot at in
    let few = shorter (λ r. r.slot) regs.ring 32 in
    omega (arith, low, few)

first_served : (held : Places) (regs : Registers) (memory : Memory) → AloneIfBars held regs memory → (o : Option ℕ)
    → Found (λ slot. same (progress_of regs.ring slot) Rung) (order_of regs.ring) o → IsNextServed held regs memory o
first_served held regs memory alone (Some s) f = record {
  place = f.place;
  serves = record {
    is_at = f.is_at;
    is_rung = same-true (progress_of regs.ring s) Rung f.passes;
    is_free = λ back.
        let here = rung_inside regs f.place s f.is_at in
        ⊎_elim
        (λ own. let few = alone f.place s f.is_at own.1 in omega (arith, own.0, few, here))
        (λ earlier. let few = alone earlier.place earlier.slot earlier.is_at earlier.bars in omega (arith, earlier.before, few, here))
        back;
  };
  first = λ j slot below can.
      same-false (progress_of regs.ring slot) Rung (f.before j slot below can.is_at) can.is_rung;
}
first_served held regs memory alone None f = λ k slot can. same-false (progress_of regs.ring slot) Rung (f k slot can.is_at) can.is_rung

by_parts : (held : Places) (regs : Registers) (memory : Memory) (resting : Bool) (active named : Option ℕ)
    → IsNextServed held regs memory (first_at Rung regs.ring)
    → MatchOption (cond resting (Some Rest) (option_map_or (λ slot. Some (next_of_phase held slot)) active (option_map Address named)))
    (IsDueThen held regs memory (cond resting Rest (option_map_or (next_of_phase held) active (option_map_or Address named
    (option_map_or Serve (first_at Rung regs.ring) (after_serving held regs))))))
    (λ first. cond resting Rest (option_map_or (next_of_phase held) active (option_map_or Address named
    (option_map_or Serve (first_at Rung regs.ring) (after_serving held regs)))) ≡ first)
by_parts held regs memory true active named next = refl
by_parts held regs memory false (Some a) named next = refl
by_parts held regs memory false None (Some n) next = refl
by_parts held regs memory false None None next = record { served = first_at Rung regs.ring; next = next; is = refl }

pub plainly : (held : Places) (regs : Registers) (memory : Memory) (due : Due) → IsDue held regs memory due → AloneIfBars held regs memory
    → due ≡ plain_due held regs
plainly held regs memory due h alone =
    one_due held regs memory due (plain_due held regs) h
    (by_parts held regs memory (rests regs) (first_at Active regs.ring) (first_at Named regs.ring)
    (first_served held regs memory alone (first_at Rung regs.ring)
    (found (λ slot. same (progress_of regs.ring slot) Rung) (order_of regs.ring))))

-- What is due, and whether a data phase is under way.
use Rattle.std.proofs.Common.{◌≡◌, ◌+◌, ◌<◌, ℕ, refl, sym, ◌∙◌, ap, subst, arith, Bool, true, false, List}
use Rattle.std.specs.Prelude.{cond, is_some, nat_lt, ◌||◌, Option, Some, None}
use Rattle.std.specs.List.{list_any}
use Rattle.std.specs.Option.{MatchOption, option_map, option_map_or}
use Rattle.std.proofs.lemmas.Bool.{false≢true, or_parts, true≢false}
use Rattle.std.proofs.lemmas.List.Folds.{list_any_at}
use Rattle.std.proofs.lemmas.List.FromFn.{get_or-range_with_len, length-range_with_len}
use Rattle.host_mem.specs.Memory.{Memory}
use Rattle.cq_regs.specs.Slots.{IsRing, has_bit, progress_of}
use Rattle.cq_regs.specs.State.{Registers}
use Rattle.cq_regs.specs.declared.slots.Progress.TheVariants.{Active, Named}
use Rattle.cq_regs.specs.declared.slots.Ringed.{Ringed}
use Rattle.cq_schedule.specs.Held.{Places, same, slots}
use Rattle.cq_schedule.specs.Meaning.{HasItsSlot, IsDue, IsDueThen, next_of_phase, rests}
use Rattle.cq_schedule.specs.Order.{blocks_of, first_at, moved_of, order_of}
use Rattle.cq_schedule.specs.declared.rules.Due.{Due}
use Rattle.cq_schedule.specs.declared.rules.Due.TheVariants.{Rest, Block as NextBlock, Close, Address, Serve, Execute, Poll, Tick}
use Rattle.cq_schedule.proofs.Progresses.{same-true}
use Rattle.state_laws.proofs.Ringing.{IsRungSlot, first_is_any, order_slots}
use Rattle.state_laws.proofs.Searches.{found_one, found_passes}

-- a block or the end of a data phase, and a command of the bus
abbrev pub is_of_data : Due → Bool
is_of_data (NextBlock slot k) = true
is_of_data (Close slot) = true
is_of_data due = false

abbrev pub is_command : Due → Bool
is_command (Address slot) = true
is_command (Serve slot) = true
is_command (Execute slot) = true
is_command Poll = true
is_command due = false

rest_due : (held : Places) (regs : Registers) (memory : Memory) (due : Due) → IsDue held regs memory due → rests regs ≡ true → due ≡ Rest
rest_due held regs memory due h e =
    subst (λ b. MatchOption (cond b (Some Rest) (option_map_or (λ slot. Some (next_of_phase held slot)) (first_at Active regs.ring) (option_map Address (first_at Named regs.ring))))
    (IsDueThen held regs memory due) (λ first. due ≡ first)) e h

phase_due : (held : Places) (regs : Registers) (memory : Memory) (due : Due) → IsDue held regs memory due → rests regs ≡ false
    → (slot : ℕ) → first_at Active regs.ring ≡ Some slot → due ≡ next_of_phase held slot
phase_due held regs memory due h e slot active =
    let goes : MatchOption (option_map_or (λ slot. Some (next_of_phase held slot)) (first_at Active regs.ring) (option_map Address (first_at Named regs.ring)))
    (IsDueThen held regs memory due) (λ first. due ≡ first) =
    subst (λ b. MatchOption (cond b (Some Rest) (option_map_or (λ slot. Some (next_of_phase held slot)) (first_at Active regs.ring) (option_map Address (first_at Named regs.ring))))
    (IsDueThen held regs memory due) (λ first. due ≡ first)) e h in
    subst (λ o. MatchOption (option_map_or (λ slot. Some (next_of_phase held slot)) o (option_map Address (first_at Named regs.ring)))
    (IsDueThen held regs memory due) (λ first. due ≡ first)) active goes

no_command : (b : Bool) (slot k : ℕ) → is_command (cond b (NextBlock slot k) (Close slot)) ≡ false
no_command true slot k = refl
no_command false slot k = refl

-- a command is due only where no phase is under way
pub none_active : (held : Places) (regs : Registers) (memory : Memory) (due : Due) → IsDue held regs memory due → is_command due ≡ true → first_at Active regs.ring ≡ None
none_active held regs memory due h command = by (rests regs) refl (first_at Active regs.ring) refl
  where
    by : (resting : Bool) → rests regs ≡ resting → (active : Option ℕ) → first_at Active regs.ring ≡ active → first_at Active regs.ring ≡ None
    by true e active f = absurd (false≢true (sym (ap is_command (rest_due held regs memory due h e)) ∙ command))
    by false e None f = f
    by false e (Some slot) f =
        absurd (false≢true (sym (ap is_command (phase_due held regs memory due h e slot f)
        ∙ no_command (nat_lt (moved_of held slot) (blocks_of held slot)) slot (moved_of held slot)) ∙ command))

not_resting : (b : Bool) → (b ≡ true → ⊥) → b ≡ false
not_resting true never = absurd (never refl)
not_resting false never = refl

-- where something but rest is due, the engine has not stopped
pub not_stopped : (held : Places) (regs : Registers) (memory : Memory) (due : Due) → IsDue held regs memory due → (due ≡ Rest → ⊥) → regs.stopped ≡ false
not_stopped held regs memory due h more =
    let goes = not_resting (rests regs) (λ e. more (rest_due held regs memory due h e)) in
    (or_parts regs.halted regs.stopped (or_parts _ (regs.halted || regs.stopped) goes).1).1

-- a slot below 32 that passes a test
any_at : (test : ℕ → Bool) (slot : ℕ) → slot < 32 → test slot ≡ true → list_any test slots ≡ true
unfolding slots
any_at test slot below passes =
    let zero_in : 0 + slot ≡ slot = omega arith in
    list_any_at test slots slot 0 (omega (arith, below, length-range_with_len 0 32)) (ap test (get_or-range_with_len 0 32 slot 0 below ∙ zero_in) ∙ passes)

any_active : (ring : List Ringed) (slot : ℕ) → IsRing ring → slot < 32 → progress_of ring slot ≡ Active → is_some (first_at Active ring) ≡ true
any_active ring slot h below is =
    sym (first_is_any ring Active h refl) ∙ any_at (λ s. same (progress_of ring s) Active) slot below (ap (λ q. same q Active) is)

pub none_so_far : (ring : List Ringed) (slot : ℕ) → IsRing ring → first_at Active ring ≡ None → slot < 32 → progress_of ring slot ≡ Active → ⊥
none_so_far ring slot h none below is = true≢false (sym (any_active ring slot h below is) ∙ ap is_some none)

-- where a block or an end is due, a slot is active
pub some_active : (held : Places) (regs : Registers) (due : Due) → IsRing regs.ring → HasItsSlot held regs due → is_of_data due ≡ true → is_some (first_at Active regs.ring) ≡ true
some_active held regs (NextBlock slot k) h i e = any_active regs.ring slot h i.0.below i.0.is_at
some_active held regs (Close slot) h i e = any_active regs.ring slot h i.0.below i.0.is_at
some_active held regs Rest h i e = absurd (false≢true e)
some_active held regs Tick h i e = absurd (false≢true e)
some_active held regs Poll h i e = absurd (false≢true e)
some_active held regs (Address slot) h i e = absurd (false≢true e)
some_active held regs (Serve slot) h i e = absurd (false≢true e)
some_active held regs (Execute slot) h i e = absurd (false≢true e)

-- the active slot that is found
pub record IsActive (ring : List Ringed) (slot : ℕ) : Type 0 where
  pub below : slot < 32
  pub is_at : progress_of ring slot ≡ Active

pub found_active : (ring : List Ringed) (slot : ℕ) → IsRing ring → first_at Active ring ≡ Some slot → IsActive ring slot
found_active ring slot h e = record {
  below = (found_one (IsRungSlot ring) (λ s. same (progress_of ring s) Active) (order_of ring) slot (order_slots ring h) e).below;
  is_at = same-true (progress_of ring slot) Active (found_passes (λ s. same (progress_of ring s) Active) (order_of ring) slot e);
}

-- What an event leaves of the tasks that the engine holds.
use Rattle.std.proofs.Common.{◌≡◌, ◌≢◌, ◌<◌, ℕ, refl, sym, ◌∙◌, ap, subst, arith, zero-add}
use Rattle.std.specs.Prelude.{Option, Some, None, IfSome, cond, slice_set}
use Rattle.std.specs.Option.{option_map}
use Rattle.std.proofs.lemmas.List.FromFn.{get_or-map-range_with_len}
use Rattle.cq_regs.specs.declared.slots.Progress.{Progress}
use Rattle.cq_regs.specs.State.{Registers}
use Rattle.cq_regs.specs.Slots.{progress_of}
use Rattle.cq_schedule.specs.declared.held.HeldTask.{HeldTask}
use Rattle.cq_schedule.specs.Held.{Places, held_at, kept, left_at, noted, remembered, same, slots, with_block}
use Rattle.cq_schedule.proofs.Progresses.{same-refl}
use Rattle.cq_engine.proofs.Places.{length-remembered, set-other, set-same}

pub remembered_at : (held : Places) (regs : Registers) (s : ℕ) → s < 32 → held_at (remembered held regs) s ≡ kept (progress_of regs.ring s) (held_at held s)
unfolding slots
remembered_at held regs s below =
    get_or-map-range_with_len (λ slot. kept (progress_of regs.ring slot) (held_at held slot)) 0 32 s s None below (zero-add s)

pub noted_at : (held : Places) (regs : Registers) (s : ℕ) → s < 32 → held_at (noted held regs) s ≡ left_at (progress_of regs.ring s) (held_at held s)
unfolding slots
noted_at held regs s below =
    get_or-map-range_with_len (λ slot. left_at (progress_of regs.ring slot) (held_at held slot)) 0 32 s s None below (zero-add s)

-- a task that was left as far as its slot is stays held
pub kept_so : (p : Progress) (place : Option HeldTask) → IfSome place (λ h. h.progress ≡ p) → kept p place ≡ place
kept_so p None h = refl
kept_so p (Some held) h = ap (λ b. cond b (Some held) None) (ap (λ q. same q p) h ∙ same-refl p)

left_so : (p : Progress) (place : Option HeldTask) → IfSome place (λ h. h.progress ≡ p) → left_at p place ≡ place
left_so p None h = refl
left_so p (Some held) h = ap (λ q. Some (record held { progress = q })) (sym h)

pub remembered_so : (held : Places) (regs : Registers) (s : ℕ) → s < 32 → IfSome (held_at held s) (λ h. h.progress ≡ progress_of regs.ring s)
    → held_at (remembered held regs) s ≡ held_at held s
remembered_so held regs s below h = remembered_at held regs s below ∙ kept_so (progress_of regs.ring s) (held_at held s) h

-- a place that an event leaves alone, of a slot that is as far as it was
pub stays_held : (held after : Places) (regs r : Registers) (s : ℕ) → s < 32 → held_at after s ≡ held_at (remembered held regs) s
    → progress_of r.ring s ≡ progress_of regs.ring s → IfSome (held_at held s) (λ h. h.progress ≡ progress_of regs.ring s)
    → held_at (noted after r) s ≡ held_at held s
stays_held held after regs r s below e p h =
    noted_at after r s below
    ∙ ap (left_at (progress_of r.ring s)) (e ∙ remembered_so held regs s below h)
    ∙ ap (λ q. left_at q (held_at held s)) p
    ∙ left_so (progress_of regs.ring s) (held_at held s) h

pub set_elsewhere : (held : Places) (regs : Registers) (slot s : ℕ) (place : Option HeldTask) → s ≢ slot
    → held_at (slice_set (remembered held regs) slot place) s ≡ held_at (remembered held regs) s
set_elsewhere held regs slot s place apart = set-other (remembered held regs) slot s place apart

set_here : (held : Places) (regs : Registers) (slot : ℕ) (place : Option HeldTask) → slot < 32
    → held_at (slice_set (remembered held regs) slot place) slot ≡ place
set_here held regs slot place below =
    let long = length-remembered held regs in
    set-same (remembered held regs) slot place (omega (arith, below, long))

-- a block was counted
pub one_more_held : (held : Places) (regs r : Registers) (slot : ℕ) (h : HeldTask) → slot < 32 → held_at held slot ≡ Some h
    → h.progress ≡ progress_of regs.ring slot → progress_of r.ring slot ≡ progress_of regs.ring slot
    → held_at (noted (slice_set (remembered held regs) slot (option_map with_block (held_at (remembered held regs) slot))) r) slot ≡ Some (with_block h)
one_more_held held regs r slot h below at far p =
    let P : Option HeldTask → Type 0 = λ o. IfSome o (λ h. h.progress ≡ progress_of regs.ring slot) in
    let there : held_at (remembered held regs) slot ≡ Some h = remembered_so held regs slot below (subst P (sym at) far) ∙ at in
    noted_at (slice_set (remembered held regs) slot (option_map with_block (held_at (remembered held regs) slot))) r slot below
    ∙ ap (left_at (progress_of r.ring slot))
    (set_here held regs slot (option_map with_block (held_at (remembered held regs) slot)) below ∙ ap (option_map with_block) there)
    ∙ ap (λ q. Some (record (with_block h) { progress = q })) (p ∙ sym far)

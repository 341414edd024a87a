-- What is due says of the registers: the engine doesn't rest, and which slot is in its data phase.
use Rattle.std.proofs.Common.{◌≡◌, ◌≢◌, ℕ, refl, sym, ◌∙◌, ap, subst}
use Rattle.std.specs.Prelude.{Bool, true, false, not, nat_lt, Option, Some, None, cond, List, [], ◌∷◌, MatchOption}
use Rattle.std.specs.List.{find}
use Rattle.std.specs.Option.{option_map, option_map_or}
use Rattle.std.proofs.lemmas.Bool.{false≢true, or_parts}
use Rattle.std.proofs.lemmas.Option.{none-some, same_Some}
use Rattle.host_mem.specs.Memory.{Memory}
use Rattle.cq_regs.specs.declared.slots.Progress.{Progress}
use Rattle.cq_regs.specs.declared.slots.Progress.TheVariants.{Idle, Named, Sent, Ready, Active}
use Rattle.cq_regs.specs.declared.slots.Ringed.{Ringed}
use Rattle.cq_regs.specs.State.{Registers}
use Rattle.cq_regs.specs.Slots.{has_bit, progress_of, without}
use Rattle.cq_schedule.specs.declared.rules.Due.{Due}
use Rattle.cq_schedule.specs.declared.rules.Due.TheVariants.{Rest, Block as NextBlock, Close, Address, Serve, Execute, Poll, Tick}
use Rattle.cq_schedule.specs.Held.{Places, same}
use Rattle.cq_schedule.specs.Meaning.{IsDue, IsDueThen, next_of_phase, rests}
use Rattle.cq_schedule.specs.Order.{blocks_of, first_at, first_high, moved_of, order_of}
use Rattle.cq_schedule.proofs.Progresses.{same-true}
use Rattle.cq_engine.specs.Standings.{OneOpen, is_open}
use Rattle.cq_engine.proofs.SlotLaws.{without-other, without-same}
use Rattle.std.proofs.lemmas.Bool.Decides.{eqb_tells}
use Rattle.std.proofs.Common.{inl, inr}

-- ---- the engine doesn't rest

rests_if : (b : Bool) (rest : Option Due) (later : Type 0) (due : Due) → MatchOption (cond b (Some Rest) rest) later (λ first. due ≡ first) → due ≢ Rest
    → b ≡ false
rests_if true rest later due h apart = absurd (apart h)
rests_if false rest later due h apart = refl

pub works : (held : Places) (regs : Registers) (memory : Memory) (due : Due) → IsDue held regs memory due → due ≢ Rest → rests regs ≡ false
works held regs memory due h apart =
    rests_if (rests regs) (option_map_or (λ slot. Some (next_of_phase held slot)) (first_at Active regs.ring) (option_map Address (first_at Named regs.ring)))
    (IsDueThen held regs memory due) due h apart

-- neither halted nor stopped
pub runs_on : (regs : Registers) → rests regs ≡ false → (regs.halted ≡ false) × (regs.stopped ≡ false)
runs_on regs e = or_parts regs.halted regs.stopped (or_parts (not (has_bit regs.configuration 0)) _ e).1

-- ---- the slot in its data phase

abbrev is_phase : Due → Bool
is_phase (NextBlock slot k) = true
is_phase (Close slot) = true
is_phase due = false

abbrev slot_of : Due → ℕ
slot_of (NextBlock slot k) = slot
slot_of (Close slot) = slot
slot_of due = 0

then_no_phase : (served high ready sent : Option ℕ)
    → is_phase (option_map_or Serve served (option_map_or Execute high (option_map_or Execute ready (option_map_or (λ _. Poll) sent Tick)))) ≡ false
then_no_phase (Some slot) high ready sent = refl
then_no_phase None (Some slot) ready sent = refl
then_no_phase None None (Some slot) sent = refl
then_no_phase None None None (Some slot) = refl
then_no_phase None None None None = refl

next_is : (held : Places) (slot : ℕ) (more : Bool)
    → (is_phase (cond more (NextBlock slot (moved_of held slot)) (Close slot)) ≡ true) × (slot_of (cond more (NextBlock slot (moved_of held slot)) (Close slot)) ≡ slot)
next_is held slot true = (refl, refl)
next_is held slot false = (refl, refl)

abbrev first_of : Places → Bool → (active named : Option ℕ) → Option Due
first_of held resting active named =
    cond resting (Some Rest) (option_map_or (λ slot. Some (next_of_phase held slot)) active (option_map Address named))

active_by : (held : Places) (regs : Registers) (memory : Memory) (due : Due) (resting : Bool) (active named : Option ℕ) → is_phase due ≡ true
    → MatchOption (first_of held resting active named) (IsDueThen held regs memory due) (λ first. due ≡ first) → active ≡ Some (slot_of due)
active_by held regs memory due true active named p h = absurd (false≢true (sym (ap is_phase h) ∙ p))
active_by held regs memory due false (Some slot) named p h =
    ap (λ n. Some n) (sym (ap slot_of h ∙ (next_is held slot (nat_lt (moved_of held slot) (blocks_of held slot))).1))
active_by held regs memory due false None (Some slot) p h = absurd (false≢true (sym (ap is_phase h) ∙ p))
active_by held regs memory due false None None p h =
    absurd (false≢true (sym (ap is_phase h.is ∙ then_no_phase h.served (first_high held regs.ring) (first_at Ready regs.ring) (first_at Sent regs.ring)) ∙ p))

-- of a block, or of the end of a phase
pub block_active : (held : Places) (regs : Registers) (memory : Memory) (slot k : ℕ) → IsDue held regs memory (NextBlock slot k)
    → first_at Active regs.ring ≡ Some slot
block_active held regs memory slot k h =
    active_by held regs memory (NextBlock slot k) (rests regs) (first_at Active regs.ring) (first_at Named regs.ring) refl h

pub close_active : (held : Places) (regs : Registers) (memory : Memory) (slot : ℕ) → IsDue held regs memory (Close slot)
    → first_at Active regs.ring ≡ Some slot
close_active held regs memory slot h =
    active_by held regs memory (Close slot) (rests regs) (first_at Active regs.ring) (first_at Named regs.ring) refl h

none_by : (held : Places) (regs : Registers) (memory : Memory) (slot : ℕ) (resting : Bool) (active named : Option ℕ)
    → MatchOption (first_of held resting active named) (IsDueThen held regs memory (Serve slot)) (λ first. Serve slot ≡ first)
    → (active ≡ None) × (named ≡ None)
none_by held regs memory slot true active named h = absurd (cc h)
none_by held regs memory slot false (Some other) named h =
    absurd (false≢true (ap is_phase h ∙ (next_is held other (nat_lt (moved_of held other) (blocks_of held other))).0))
none_by held regs memory slot false None (Some other) h = absurd (cc h)
none_by held regs memory slot false None None h = (refl, refl)

-- a slot is served where none is in its data phase, and none waits for its start sector
pub serve_calm : (held : Places) (regs : Registers) (memory : Memory) (slot : ℕ) → IsDue held regs memory (Serve slot)
    → (first_at Active regs.ring ≡ None) × (first_at Named regs.ring ≡ None)
serve_calm held regs memory slot h = none_by held regs memory slot (rests regs) (first_at Active regs.ring) (first_at Named regs.ring) h

-- ---- the first slot that has come so far

find_if : (p : ℕ → Bool) (y : ℕ) (ys : List ℕ) (x : ℕ) (b : Bool) → p y ≡ b → (find p ys ≡ Some x → p x ≡ true) → cond b (Some y) (find p ys) ≡ Some x
    → p x ≡ true
find_if p y ys x true e rest h = subst (λ n. p n ≡ true) (same_Some y x h) e
find_if p y ys x false e rest h = rest h

pub find_passes : (p : ℕ → Bool) (xs : List ℕ) (x : ℕ) → find p xs ≡ Some x → p x ≡ true
find_passes p [] x h = absurd (none-some x h)
find_passes p (y ∷ ys) x h = find_if p y ys x (p y) refl (find_passes p ys x) h

pub first_is : (progress : Progress) (ring : List Ringed) (slot : ℕ) → first_at progress ring ≡ Some slot → progress_of ring slot ≡ progress
first_is progress ring slot h =
    same-true (progress_of ring slot) progress (find_passes (λ s. same (progress_of ring s) progress) (order_of ring) slot h)

none_if : (progress : Progress) (ring : List Ringed) (o : Option ℕ) → first_at progress ring ≡ o → ((slot : ℕ) → progress_of ring slot ≢ progress)
    → first_at progress ring ≡ None
none_if progress ring (Some slot) e none = absurd (none slot (first_is progress ring slot e))
none_if progress ring None e none = e

pub first_none : (progress : Progress) (ring : List Ringed) → ((slot : ℕ) → progress_of ring slot ≢ progress) → first_at progress ring ≡ None
first_none progress ring none = none_if progress ring (first_at progress ring) refl none

-- once the slot in its data phase is idle, none is in one
pub none_active : (ring ring' : List Ringed) (slot : ℕ) → OneOpen ring → progress_of ring slot ≡ Active → ring' ≡ without ring slot
    → first_at Active ring' ≡ None
none_active ring ring' slot one active e =
    first_none Active ring'
    (λ other is.
    elim (eqb_tells other slot) [
      | inl t ↦
          let idle : progress_of ring' other ≡ Idle = ap (λ r. progress_of r other) e ∙ ap (progress_of (without ring slot)) t.1 ∙ without-same ring slot in
          absurd (cc (sym idle ∙ is))
      | inr t ↦
          let was : progress_of ring other ≡ Active = sym (ap (λ r. progress_of r other) e ∙ without-other ring slot other t.1) ∙ is in
          absurd (t.1 (one other slot (ap is_open was) (ap is_open active)))
    ])

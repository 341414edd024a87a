-- Nothing but the timer is due where no slot is rung, and only there.
use Rattle.std.proofs.Common.{◌≡◌, ◌<◌, ◌⊎◌, ℕ, Bool, true, false, cond, refl, sym, ap, ◌∙◌, subst, inl, inr, ⊎_elim, arith}
use Rattle.std.specs.Prelude.{◌↔◌, List, [], ◌∷◌, Option, Some, None, slice_get}
use Rattle.std.specs.List.{All, find}
use Rattle.std.specs.Option.{option_map, option_map_or, MatchOption}
use Rattle.std.proofs.lemmas.Bool.{eq-eqb, false≢true}
use Rattle.std.proofs.lemmas.List.Elements.{All-head}
use Rattle.std.proofs.lemmas.Option.{none-some, slice_get_past}
use Rattle.host_mem.specs.Memory.{Memory}
use Rattle.cq_regs.specs.declared.slots.Progress.{Progress}
use Rattle.cq_regs.specs.declared.slots.Progress.TheVariants.{Idle, Rung, Named, Sent, Ready, Active}
use Rattle.cq_regs.specs.declared.slots.Ringed.{Ringed}
use Rattle.cq_regs.specs.State.{Registers}
use Rattle.cq_regs.specs.Slots.{is_rung, progress_of, IsRing}
use Rattle.cq_schedule.specs.declared.rules.Due.{Due}
use Rattle.cq_schedule.specs.declared.rules.Due.TheVariants.{Rest, Block, Close, Address, Serve, Execute, Poll, Tick}
use Rattle.cq_schedule.specs.Held.{Places, same}
use Rattle.cq_schedule.specs.Order.{order_of, first_at, first_high, blocks_of, moved_of}
use Rattle.cq_schedule.specs.Meaning.{after_serving, before_serving, next_of_phase, rests, CanServe, IsAt, IsDue, IsDueThen, IsHeldBack, IsNextServed}
use Rattle.cq_schedule.proofs.OneDue.{one_due}
use Rattle.cq_schedule.proofs.Progresses.{same-refl}

-- ---- what is due, by its parts

abbrev pub before : Places → Bool → (active named : Option ℕ) → Option Due
before held resting active named =
    cond resting (Some Rest) (option_map_or (λ slot. Some (next_of_phase held slot)) active (option_map Address named))

abbrev pub after : (high ready sent : Option ℕ) → Due
after high ready sent = option_map_or Execute high (option_map_or Execute ready (option_map_or (λ _. Poll) sent Tick))

-- none of the rules before serving applies
record AreNone (resting : Bool) (active named : Option ℕ) : Type 0 where
  pub runs : resting ≡ false
  pub no_active : active ≡ None
  pub no_named : named ≡ None

before_none : (held : Places) (resting : Bool) (active named : Option ℕ) → before held resting active named ≡ None → AreNone resting active named
before_none held true active named e = absurd (none-some Rest (sym e))
before_none held false (Some a) named e = absurd (none-some (next_of_phase held a) (sym e))
before_none held false None (Some n) e = absurd (none-some (Address n) (sym e))
before_none held false None None e = record { runs = refl; no_active = refl; no_named = refl }

phase_not_tick : (b : Bool) (slot block : ℕ) → Tick ≡ cond b (Block slot block) (Close slot) → ⊥
phase_not_tick true slot block e = cc
phase_not_tick false slot block e = cc

phase_not_rest : (b : Bool) (slot block : ℕ) → Rest ≡ cond b (Block slot block) (Close slot) → ⊥
phase_not_rest true slot block e = cc
phase_not_rest false slot block e = cc

-- no slot served or executed, and no poll
record AreNoneThen (served high ready sent : Option ℕ) : Type 0 where
  pub no_served : served ≡ None
  pub no_high : high ≡ None
  pub no_ready : ready ≡ None
  pub no_sent : sent ≡ None

after_none : (served high ready sent : Option ℕ) → Tick ≡ option_map_or Serve served (after high ready sent) → AreNoneThen served high ready sent
after_none (Some s) high ready sent e = absurd cc
after_none None (Some h) ready sent e = absurd cc
after_none None None (Some r) sent e = absurd cc
after_none None None None (Some s) e = absurd cc
after_none None None None None e = record { no_served = refl; no_high = refl; no_ready = refl; no_sent = refl }

after_not_rest : (served high ready sent : Option ℕ) → Rest ≡ option_map_or Serve served (after high ready sent) → ⊥
after_not_rest (Some s) high ready sent e = cc
after_not_rest None (Some h) ready sent e = cc
after_not_rest None None (Some r) sent e = cc
after_not_rest None None None (Some s) e = cc
after_not_rest None None None None e = cc

-- ---- the timer

not_tick : (held : Places) (resting : Bool) (active named : Option ℕ) (P : Type 0) → MatchOption (before held resting active named) P (λ first. Tick ≡ first)
    → (before held resting active named ≡ None) × P
not_tick held true active named P h = absurd cc
not_tick held false (Some a) named P h = absurd (phase_not_tick _ _ _ h)
not_tick held false None (Some n) P h = absurd cc
not_tick held false None None P h = (refl, h)

head_progress : (r : Ringed) (ring : List Ringed) → progress_of (r ∷ ring) r.slot ≡ r.progress
head_progress r ring = rw (eq-eqb r.slot r.slot refl) refl

found_first : (p : ℕ → Bool) (x : ℕ) (xs : List ℕ) → p x ≡ true → find p (x ∷ xs) ≡ Some x
found_first p x xs e = rw e refl

clash : (o : Option ℕ) (x : ℕ) → o ≡ None → o ≡ Some x → ⊥
clash o x e f = none-some x (sym e ∙ f)

-- the first slot of the ring is due
head_due : (held : Places) (regs : Registers) (memory : Memory) (r : Ringed) (ring : List Ringed) (progress : Progress) → regs.ring ≡ r ∷ ring
    → r.progress ≡ progress → is_rung r.progress ≡ true → AreNone (rests regs) (first_at Active regs.ring) (first_at Named regs.ring)
    → (served : Option ℕ) → IsNextServed held regs memory served
    → AreNoneThen served (first_high held regs.ring) (first_at Ready regs.ring) (first_at Sent regs.ring) → ⊥
head_due held regs memory r ring progress e is rung b served next a = by progress is
  where
    first : (p : Progress) → r.progress ≡ p → first_at p regs.ring ≡ Some r.slot
    first p h =
        ap (λ (xs : List Ringed). first_at p xs) e
        ∙ found_first (λ slot. same (progress_of (r ∷ ring) slot) p) r.slot _ (ap (λ q. same q p) (head_progress r ring ∙ h) ∙ same-refl p)

    none : IsNextServed held regs memory None
    none = let P : Option ℕ → Type 0 = λ o. IsNextServed held regs memory o in subst P a.no_served next

    serves : r.progress ≡ Rung → CanServe held regs memory 0 r.slot
    serves h = record {
      is_at = ap (λ (xs : List Ringed). slice_get (order_of xs) 0) e;
      is_rung = ap (λ (xs : List Ringed). progress_of xs r.slot) e ∙ head_progress r ring ∙ h;
      is_free = λ back. ⊎_elim (λ own. omega (arith, own.0)) (λ earlier. omega (arith, earlier.before)) back;
    }

    by : (p : Progress) → r.progress ≡ p → ⊥
    by Idle h = false≢true (sym (ap is_rung h) ∙ rung)
    by Rung h = none 0 r.slot (serves h)
    by Named h = clash (first_at Named regs.ring) r.slot b.no_named (first Named h)
    by Sent h = clash (first_at Sent regs.ring) r.slot a.no_sent (first Sent h)
    by Ready h = clash (first_at Ready regs.ring) r.slot a.no_ready (first Ready h)
    by Active h = clash (first_at Active regs.ring) r.slot b.no_active (first Active h)

empty : (held : Places) (regs : Registers) (memory : Memory) (ring : List Ringed) → regs.ring ≡ ring → IsRing ring
    → AreNone (rests regs) (first_at Active regs.ring) (first_at Named regs.ring)
    → (served : Option ℕ) → IsNextServed held regs memory served
    → AreNoneThen served (first_high held regs.ring) (first_at Ready regs.ring) (first_at Sent regs.ring) → regs.ring ≡ []
empty held regs memory [] e sound b served next a = e
empty held regs memory (r ∷ ring) e sound b served next a =
    absurd (head_due held regs memory r ring r.progress e refl (All-head (λ r. is_rung r.progress ≡ true) r ring sound.started) b served next a)

ticks_idle : (held : Places) (regs : Registers) (memory : Memory) → IsRing regs.ring → IsDue held regs memory Tick
    → (rests regs ≡ false) × (regs.ring ≡ [])
ticks_idle held regs memory sound h =
    let t = not_tick held (rests regs) (first_at Active regs.ring) (first_at Named regs.ring) (IsDueThen held regs memory Tick) h in
    let b = before_none held (rests regs) (first_at Active regs.ring) (first_at Named regs.ring) t.0 in
    let a = after_none t.1.served (first_high held regs.ring) (first_at Ready regs.ring) (first_at Sent regs.ring) t.1.is in
    (b.runs, empty held regs memory regs.ring refl sound b t.1.served t.1.next a)

before_empty : (held : Places) (resting : Bool) (ring : List Ringed) → resting ≡ false → ring ≡ []
    → before held resting (first_at Active ring) (first_at Named ring) ≡ None
before_empty held true ring r e = absurd (false≢true (sym r))
before_empty held false ring r e = ap (λ (xs : List Ringed). before held false (first_at Active xs) (first_at Named xs)) e

idle_ticks : (held : Places) (regs : Registers) (memory : Memory) → rests regs ≡ false → regs.ring ≡ [] → IsDue held regs memory Tick
idle_ticks held regs memory r e =
    let P : Option Due → Type 0 = λ o. MatchOption o (IsDueThen held regs memory Tick) (λ first. Tick ≡ first) in
    subst P (sym (before_empty held (rests regs) regs.ring r e))
    (record {
      served = None;
      next = λ k slot can.
          none-some slot (sym (slice_get_past [] k (omega arith)) ∙ sym (ap (λ (xs : List Ringed). slice_get (order_of xs) k) e) ∙ can.is_at);
      is = sym (ap (λ (xs : List Ringed). after (first_high held xs) (first_at Ready xs) (first_at Sent xs)) e);
    })

pub tick_exactly : (held : Places) (regs : Registers) (memory : Memory) (due : Due) → IsRing regs.ring → IsDue held regs memory due
    → (due ≡ Tick) ↔ ((rests regs ≡ false) × (regs.ring ≡ []))
tick_exactly held regs memory due sound h = (
  λ e. ticks_idle held regs memory sound (subst (IsDue held regs memory) e h),
  λ idle. one_due held regs memory due Tick h (idle_ticks held regs memory idle.0 idle.1),
)

-- ---- the rest

not_rest : (held : Places) (resting : Bool) (active named : Option ℕ) (P : Type 0) → (P → ⊥)
    → MatchOption (before held resting active named) P (λ first. Rest ≡ first) → resting ≡ true
not_rest held true active named P not h = refl
not_rest held false (Some a) named P not h = absurd (phase_not_rest _ _ _ h)
not_rest held false None (Some n) P not h = absurd cc
not_rest held false None None P not h = absurd (not h)

rest_rests : (held : Places) (regs : Registers) (memory : Memory) → IsDue held regs memory Rest → rests regs ≡ true
rest_rests held regs memory h =
    not_rest held (rests regs) (first_at Active regs.ring) (first_at Named regs.ring) (IsDueThen held regs memory Rest)
    (λ then. after_not_rest then.served (first_high held regs.ring) (first_at Ready regs.ring) (first_at Sent regs.ring) then.is) h

resting_rests : (held : Places) (resting : Bool) (active named : Option ℕ) (P : Type 0) (due : Due) → resting ≡ true
    → MatchOption (before held resting active named) P (λ first. due ≡ first) → due ≡ Rest
resting_rests held true active named P due e h = h
resting_rests held false active named P due e h = absurd (false≢true e)

rests_rest : (held : Places) (regs : Registers) (memory : Memory) (due : Due) → rests regs ≡ true → IsDue held regs memory due → due ≡ Rest
rests_rest held regs memory due r h =
    resting_rests held (rests regs) (first_at Active regs.ring) (first_at Named regs.ring) (IsDueThen held regs memory due) due r h

empty_idles : (held : Places) (regs : Registers) (memory : Memory) (due : Due) (resting : Bool) → rests regs ≡ resting → IsRing regs.ring
    → regs.ring ≡ [] → IsDue held regs memory due → (due ≡ Rest) ⊎ (due ≡ Tick)
empty_idles held regs memory due true r sound e h = inl (rests_rest held regs memory due r h)
empty_idles held regs memory due false r sound e h = inr ((tick_exactly held regs memory due sound h).1 (r, e))

-- nothing is done just where the engine rests or no slot is rung
pub idle_exactly : (held : Places) (regs : Registers) (memory : Memory) (due : Due) → IsRing regs.ring → IsDue held regs memory due
    → ((due ≡ Rest) ⊎ (due ≡ Tick)) ↔ ((rests regs ≡ true) ⊎ (regs.ring ≡ []))
idle_exactly held regs memory due sound h = (
  λ idle.
      elim idle [
        | inl e ↦ inl (rest_rests held regs memory (subst (IsDue held regs memory) e h))
        | inr e ↦ inr ((tick_exactly held regs memory due sound h).0 e).1
      ],
  λ idle.
      elim idle [
        | inl r ↦ inl (rests_rest held regs memory due r h)
        | inr e ↦ empty_idles held regs memory due (rests regs) refl sound e h
      ],
)

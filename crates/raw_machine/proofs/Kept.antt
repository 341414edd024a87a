-- The engine goes on holding its tasks through each event, and what each outcome leaves of the rung slots.
use Rattle.std.proofs.Common.{◌≡◌, ◌≢◌, ◌<◌, ◌++◌, ℕ, length, refl, sym, ◌∙◌, ap, subst, arith, inl, inr}
use Rattle.std.specs.Prelude.{Bool, true, false, not, ◌==◌, Option, Some, None, slice_set, cond, if◌then◌else◌, List, [], ◌∷◌, map}
use Rattle.std.specs.List.{All, filter, find}
use Rattle.std.specs.Option.{IsSomeAnd, option_map, option_map_or}
use Rattle.std.proofs.lemmas.Bool.{eq-eqb, eqb-true, false≢true, ne_eqb}
use Rattle.std.proofs.lemmas.Bool.Decides.{eqb_tells}
use Rattle.std.proofs.lemmas.List.Elements.{All-append, All-filter, All-map, All-nil}
use Rattle.cq_regs.specs.declared.slots.Progress.{Progress}
use Rattle.cq_regs.specs.declared.slots.Progress.TheVariants.{Idle, Rung, Named, Sent, Ready, Active}
use Rattle.cq_regs.specs.declared.slots.Ringed.{Ringed}
use Rattle.cq_regs.specs.State.{Registers}
use Rattle.cq_regs.specs.Slots.{advanced, first_slots, has_bit, is_rung, made_ready, moved_at, newly_rung, next, progress_of, readied, readied_by, rings, rung, without, without_slots}
use Rattle.cq_regs.proofs.ProgressLaws.{progress_made_ready}
use Rattle.cq_task.specs.declared.slot.DataTask.{DataTask}
use Rattle.cq_schedule.specs.declared.held.HeldTask.{HeldTask}
use Rattle.cq_schedule.specs.Held.{Places, held_at, kept, left_at, newly_held, noted, remembered, same, with_block}
use Rattle.cq_schedule.specs.Holding.{is_begun}
use Rattle.cq_schedule.proofs.Progresses.{same-refl}
use Rattle.cq_engine.proofs.Places.{set-other, set-same}
use Rattle.cq_engine.proofs.SlotLaws.{advanced-other, made_ready-begun, without-other, without-same}
use Rattle.raw_machine.specs.Telling.{IsBetweenTasks, Keeps}
use Rattle.raw_machine.proofs.WorkLeft.{advanced-same, kept-left, noted-at, remembered-at}

-- What is held of a slot is this task, and no block of it moved where its data phase is not under way: as far as the slot is, or however far the
-- engine left it.
abbrev pub HoldsAt : Progress → Option DataTask → Option HeldTask → Type 0
HoldsAt progress task place = IsSomeAnd place (λ h. (h.progress ≡ progress) × (task ≡ Some h.task) × (progress ≢ Active → h.moved ≡ 0))

abbrev pub HasAt : Progress → Option DataTask → Option HeldTask → Type 0
HasAt progress task place = IsSomeAnd place (λ h. (task ≡ Some h.task) × (progress ≢ Active → h.moved ≡ 0))

-- the tasks of the slots that are begun are held, however far the engine left them
abbrev pub Has : Places → Registers → (ℕ → Option DataTask) → Type 0
Has held regs tasks = (slot : ℕ) → slot < 32 → is_begun (progress_of regs.ring slot) ≡ true
    → IsSomeAnd (held_at held slot) (λ h. (tasks slot ≡ Some h.task) × (progress_of regs.ring slot ≢ Active → h.moved ≡ 0))

kept-same : (progress : Progress) (task : Option DataTask) (place : Option HeldTask) → HoldsAt progress task place → HoldsAt progress task (kept progress place)
kept-same progress task None h = h
kept-same progress task (Some held) h =
    let passes : same held.progress progress ≡ true = rw h.0 (same-refl progress) in
    let P : Bool → Type 0 = λ b. HoldsAt progress task (cond b (Some held) None) in
    subst P (sym passes) h

-- at an event's begin the engine remembers what it holds
pub keeps_remembered : (held : Places) (regs : Registers) (tasks : ℕ → Option DataTask) → Keeps held regs tasks → Keeps (remembered held regs) regs tasks
keeps_remembered held regs tasks keeps slot below begun =
    let P : Option HeldTask → Type 0 = λ place. HoldsAt (progress_of regs.ring slot) (tasks slot) place in
    subst P (sym (remembered-at held regs slot below)) (kept-same (progress_of regs.ring slot) (tasks slot) (held_at held slot) (keeps slot below begun))

holds_has : (progress : Progress) (task : Option DataTask) (place : Option HeldTask) → HoldsAt progress task place → HasAt progress task place
holds_has progress task None h = h
holds_has progress task (Some held) h = (h.1, h.2)

pub keeps_has : (held : Places) (regs : Registers) (tasks : ℕ → Option DataTask) → Keeps held regs tasks → Has held regs tasks
keeps_has held regs tasks keeps slot below begun =
    holds_has (progress_of regs.ring slot) (tasks slot) (held_at held slot) (keeps slot below begun)

left-holds : (progress : Progress) (task : Option DataTask) (place : Option HeldTask) → HasAt progress task place → HoldsAt progress task (left_at progress place)
left-holds progress task None h = h
left-holds progress task (Some held) h = (refl, h.0, h.1)

-- at its end the engine notes how far each slot is
pub has_noted : (held : Places) (regs : Registers) (tasks : ℕ → Option DataTask) → Has held regs tasks → Keeps (noted held regs) regs tasks
has_noted held regs tasks has slot below begun =
    let P : Option HeldTask → Type 0 = λ place. HoldsAt (progress_of regs.ring slot) (tasks slot) place in
    subst P (sym (noted-at held regs slot below)) (left-holds (progress_of regs.ring slot) (tasks slot) (held_at held slot) (has slot below begun))

pub noted_at : (held : Places) (regs : Registers) (slot : ℕ) → slot < 32 → held_at (noted held regs) slot ≡ left_at (progress_of regs.ring slot) (held_at held slot)
noted_at held regs slot below = noted-at held regs slot below

-- at the next event's begin a place is what the last one left, with how far its slot is
pub remembered_noted : (held : Places) (regs : Registers) (slot : ℕ) → slot < 32
    → held_at (remembered (noted held regs) regs) slot ≡ left_at (progress_of regs.ring slot) (held_at held slot)
remembered_noted held regs slot below =
    remembered-at (noted held regs) regs slot below
    ∙ ap (kept (progress_of regs.ring slot)) (noted-at held regs slot below)
    ∙ kept-left (progress_of regs.ring slot) (held_at held slot)

begun_along : (p q : Progress) → p ≡ q → is_begun p ≡ true → is_begun q ≡ true
begun_along p q e h = sym (ap is_begun e) ∙ h

-- A slot that is begun was begun, and its data phase is under way where it was.
abbrev Onward : (p p' : Progress) → Type 0
Onward p p' = is_begun p' ≡ true → (is_begun p ≡ true) × (p' ≢ Active → p ≢ Active)

onward_same : (p p' : Progress) → p' ≡ p → Onward p p'
onward_same p p' e begun = (begun_along p' p e begun, λ far is. far (e ∙ is))

onward_idle : (p p' : Progress) → p' ≡ Idle → Onward p p'
onward_idle p p' e begun = absurd (false≢true (begun_along p' Idle e begun))

onward_next : (p p' : Progress) → p' ≡ next p → is_begun p ≡ true → Onward p p'
onward_next p p' e was begun = (was, λ far is. far (e ∙ ap next is))

onward_readied : (p p' : Progress) (b : Bool) → p' ≡ cond b (readied p) p → is_begun p' ≡ is_begun p → Onward p p'
onward_readied p p' false e f begun = onward_same p p' e begun
onward_readied p p' true e f begun = (sym f ∙ begun, λ far is. far (e ∙ ap readied is))

has_further : (p p' : Progress) (task : Option DataTask) (place : Option HeldTask) → (p' ≢ Active → p ≢ Active) → HasAt p task place → HasAt p' task place
has_further p p' task None on h = h
has_further p p' task (Some held) on h = (h.0, λ far. h.1 (on far))

has_along : (p : Progress) (task task' : Option DataTask) (place place' : Option HeldTask) → task' ≡ task → place' ≡ place → HasAt p task place → HasAt p task' place'
has_along p task task' place place' e f h =
    let P : Option HeldTask → Type 0 = λ o. HasAt p task' o in
    let Q : Option DataTask → Type 0 = λ t. HasAt p t place in
    subst P (sym f) (subst Q (sym e) h)

-- the tasks stay held of slots that were begun
has_onward : (held : Places) (regs regs' : Registers) (tasks : ℕ → Option DataTask) → Has held regs tasks
    → ((other : ℕ) → Onward (progress_of regs.ring other) (progress_of regs'.ring other)) → Has held regs' tasks
has_onward held regs regs' tasks has onward other below begun =
    let on = onward other begun in
    has_further (progress_of regs.ring other) (progress_of regs'.ring other) (tasks other) (held_at held other) on.1 (has other below on.0)

-- and where one place was written, of that slot too
has_written : (held : Places) (regs regs' : Registers) (tasks tasks' : ℕ → Option DataTask) (slot : ℕ) (place : Option HeldTask) → Has held regs tasks
    → ((other : ℕ) → other ≢ slot → progress_of regs'.ring other ≡ progress_of regs.ring other)
    → ((other : ℕ) → other ≢ slot → tasks' other ≡ tasks other)
    → (slot < 32 → is_begun (progress_of regs'.ring slot) ≡ true → HasAt (progress_of regs'.ring slot) (tasks' slot) (held_at (slice_set held slot place) slot))
    → Has (slice_set held slot place) regs' tasks'
has_written held regs regs' tasks tasks' slot place has rings others here other below begun =
    elim (eqb_tells other slot) [
      | inl t ↦
          let P : ℕ → Type 0 =
          λ n. n < 32 → is_begun (progress_of regs'.ring n) ≡ true → HasAt (progress_of regs'.ring n) (tasks' n) (held_at (slice_set held slot place) n) in
          subst P (sym t.1) here below begun
      | inr t ↦
          let on = onward_same (progress_of regs.ring other) (progress_of regs'.ring other) (rings other t.1) begun in
          has_along (progress_of regs'.ring other) (tasks other) (tasks' other) (held_at held other) (held_at (slice_set held slot place) other)
          (others other t.1) (set-other held slot other place t.1)
          (has_further (progress_of regs.ring other) (progress_of regs'.ring other) (tasks other) (held_at held other) on.1 (has other below on.0))
    ]

-- a slot that is idle now, and the others
idle_now : (regs regs' : Registers) (slot other : ℕ) → regs'.ring ≡ without regs.ring slot → other ≡ slot → progress_of regs'.ring other ≡ Idle
idle_now regs regs' slot other ring e =
    ap (λ r. progress_of r other) ring ∙ ap (progress_of (without regs.ring slot)) e ∙ without-same regs.ring slot

left_now : (regs regs' : Registers) (slot other : ℕ) → regs'.ring ≡ without regs.ring slot → other ≢ slot
    → progress_of regs'.ring other ≡ progress_of regs.ring other
left_now regs regs' slot other ring apart = ap (λ r. progress_of r other) ring ∙ without-other regs.ring slot other apart

-- a slot that moved on, and the others
pub advanced_to : (regs regs' : Registers) (slot : ℕ) → regs'.ring ≡ advanced regs.ring slot
    → progress_of regs'.ring slot ≡ next (progress_of regs.ring slot)
advanced_to regs regs' slot ring = ap (λ r. progress_of r slot) ring ∙ advanced-same regs.ring slot

advanced_now : (regs regs' : Registers) (slot other : ℕ) → regs'.ring ≡ advanced regs.ring slot → other ≢ slot
    → progress_of regs'.ring other ≡ progress_of regs.ring other
advanced_now regs regs' slot other ring apart = ap (λ r. progress_of r other) ring ∙ advanced-other regs.ring slot other apart

-- a slot is dropped, or its direct command is complete
pub has_idle : (held : Places) (regs regs' : Registers) (tasks : ℕ → Option DataTask) (slot : ℕ) → Has held regs tasks
    → regs'.ring ≡ without regs.ring slot → Has held regs' tasks
has_idle held regs regs' tasks slot has ring =
    has_onward held regs regs' tasks has
    (λ other.
    elim (eqb_tells other slot) [
      | inl t ↦ onward_idle (progress_of regs.ring other) (progress_of regs'.ring other) (idle_now regs regs' slot other ring t.1)
      | inr t ↦ onward_same (progress_of regs.ring other) (progress_of regs'.ring other) (left_now regs regs' slot other ring t.1)
    ])

-- the task of a slot is complete
pub has_finished : (held : Places) (regs regs' : Registers) (tasks : ℕ → Option DataTask) (slot : ℕ) → Has held regs tasks
    → regs'.ring ≡ without regs.ring slot → Has (slice_set held slot None) regs' tasks
has_finished held regs regs' tasks slot has ring =
    has_written held regs regs' tasks tasks slot None has (λ other apart. left_now regs regs' slot other ring apart) (λ other apart. refl)
    (λ below begun. absurd (false≢true (begun_along (progress_of regs'.ring slot) Idle (idle_now regs regs' slot slot ring refl) begun)))

-- a slot is named, and its task is held
pub has_named : (held : Places) (regs regs' : Registers) (tasks : ℕ → Option DataTask) (slot : ℕ) (task : DataTask) → length held ≡ 32 → slot < 32
    → Has held regs tasks → regs'.ring ≡ advanced regs.ring slot
    → Has (slice_set held slot (Some (newly_held task))) regs' (λ other. if other == slot then Some task else tasks other)
has_named held regs regs' tasks slot task long below has ring =
    let tasks' : ℕ → Option DataTask = λ other. cond (other == slot) (Some task) (tasks other) in
    let place = Some (newly_held task) in
    let inside : slot < length held = omega (arith, below, long) in
    let here : tasks' slot ≡ Some task = ap (λ b. cond b (Some task) (tasks slot)) (eq-eqb slot slot refl) in
    has_written held regs regs' tasks tasks' slot place has (λ other apart. advanced_now regs regs' slot other ring apart)
    (λ other apart. ap (λ b. cond b (Some task) (tasks other)) (ne_eqb other slot apart))
    (λ _ begun.
    has_along (progress_of regs'.ring slot) (Some task) (tasks' slot) place (held_at (slice_set held slot place) slot) here
    (set-same held slot place inside) (refl, λ _. refl))

-- a slot that was begun moved on
pub has_advanced : (held : Places) (regs regs' : Registers) (tasks : ℕ → Option DataTask) (slot : ℕ) → Has held regs tasks
    → regs'.ring ≡ advanced regs.ring slot → is_begun (progress_of regs.ring slot) ≡ true → Has held regs' tasks
has_advanced held regs regs' tasks slot has ring was =
    has_onward held regs regs' tasks has
    (λ other.
    elim (eqb_tells other slot) [
      | inl t ↦
          let P : ℕ → Type 0 = λ n. Onward (progress_of regs.ring n) (progress_of regs'.ring n) in
          subst P (sym t.1) (onward_next (progress_of regs.ring slot) (progress_of regs'.ring slot) (advanced_to regs regs' slot ring) was)
      | inr t ↦ onward_same (progress_of regs.ring other) (progress_of regs'.ring other) (advanced_now regs regs' slot other ring t.1)
    ])

-- a poll made slots ready
pub has_readied : (held : Places) (regs regs' : Registers) (tasks : ℕ → Option DataTask) (word : ℕ) → Has held regs tasks
    → regs'.ring ≡ made_ready regs.ring word → Has held regs' tasks
has_readied held regs regs' tasks word has ring =
    has_onward held regs regs' tasks has
    (λ other.
    onward_readied (progress_of regs.ring other) (progress_of regs'.ring other) (has_bit word other)
    (ap (λ r. progress_of r other) ring ∙ progress_made_ready regs.ring word other)
    (ap (λ r. is_begun (progress_of r other)) ring ∙ made_ready-begun regs.ring word other))

-- the slots are as far as they were
pub has_same : (held : Places) (regs regs' : Registers) (tasks : ℕ → Option DataTask) → Has held regs tasks → regs'.ring ≡ regs.ring → Has held regs' tasks
has_same held regs regs' tasks has ring =
    has_onward held regs regs' tasks has
    (λ other. onward_same (progress_of regs.ring other) (progress_of regs'.ring other) (ap (λ r. progress_of r other) ring))

counted_at : (progress : Progress) (task : Option DataTask) (place : Option HeldTask) → progress ≡ Active → HasAt progress task place
    → HasAt progress task (option_map with_block place)
counted_at progress task None is h = h
counted_at progress task (Some held) is h = (h.0, λ far. absurd (far is))

-- a block of the data phase of a slot moved
pub has_counted : (held : Places) (regs regs' : Registers) (tasks : ℕ → Option DataTask) (slot : ℕ) → length held ≡ 32 → slot < 32 → Has held regs tasks
    → regs'.ring ≡ regs.ring → progress_of regs.ring slot ≡ Active
    → Has (slice_set held slot (option_map with_block (held_at held slot))) regs' tasks
has_counted held regs regs' tasks slot long below has ring is =
    let place = option_map with_block (held_at held slot) in
    let inside : slot < length held = omega (arith, below, long) in
    let now : progress_of regs'.ring slot ≡ Active = ap (λ r. progress_of r slot) ring ∙ is in
    has_written held regs regs' tasks tasks slot place has (λ other apart. ap (λ r. progress_of r other) ring) (λ other apart. refl)
    (λ _ begun.
    has_along (progress_of regs'.ring slot) (tasks slot) (tasks slot) place (held_at (slice_set held slot place) slot) refl
    (set-same held slot place inside)
    (counted_at (progress_of regs'.ring slot) (tasks slot) (held_at held slot) now (has_same held regs regs' tasks has ring slot below begun)))

-- each slot in the list is rung
abbrev pub AllRung : List Ringed → Type 0
AllRung ring = All (λ r. is_rung r.progress ≡ true) ring

pub rung_none : AllRung []
rung_none = All-nil (λ r. is_rung r.progress ≡ true)

pub rung_without : (ring : List Ringed) (slot : ℕ) → AllRung ring → AllRung (without ring slot)
rung_without ring slot all = All-filter (λ r. not (r.slot == slot)) (λ r. is_rung r.progress ≡ true) ring all

pub rung_without_slots : (ring : List Ringed) (word : ℕ) → AllRung ring → AllRung (without_slots ring word)
rung_without_slots ring word all = All-filter (λ r. not (has_bit word r.slot)) (λ r. is_rung r.progress ≡ true) ring all

still_rung_next : (p : Progress) → is_rung p ≡ true → is_rung (next p) ≡ true
still_rung_next Idle h = h
still_rung_next Rung h = refl
still_rung_next Named h = refl
still_rung_next Sent h = refl
still_rung_next Ready h = refl
still_rung_next Active h = refl

still_rung_readied : (p : Progress) → is_rung p ≡ true → is_rung (readied p) ≡ true
still_rung_readied Idle h = h
still_rung_readied Rung h = refl
still_rung_readied Named h = refl
still_rung_readied Sent h = refl
still_rung_readied Ready h = refl
still_rung_readied Active h = refl

rung_if : (b : Bool) (r : Ringed) (p : Progress) → is_rung p ≡ true → is_rung r.progress ≡ true
    → is_rung (cond b (record r { progress = p }) r).progress ≡ true
rung_if true r p h k = h
rung_if false r p h k = k

rung_map : (f : Ringed → Ringed) (ring : List Ringed) → ((r : Ringed) → is_rung r.progress ≡ true → is_rung (f r).progress ≡ true)
    → AllRung ring → AllRung (map f ring)
rung_map f ring each all =
    All-map (λ r. is_rung r.progress ≡ true) f ring (λ k d inside. each _ (all k d inside))

pub rung_advanced : (ring : List Ringed) (slot : ℕ) → AllRung ring → AllRung (advanced ring slot)
rung_advanced ring slot all =
    rung_map (moved_at slot) ring (λ r h. rung_if (r.slot == slot) r (next r.progress) (still_rung_next r.progress h) h) all

pub rung_readied : (ring : List Ringed) (word : ℕ) → AllRung ring → AllRung (made_ready ring word)
rung_readied ring word all =
    rung_map (readied_by word) ring (λ r h. rung_if (has_bit word r.slot) r (readied r.progress) (still_rung_readied r.progress h) h) all

pub rung_rung : (ring : List Ringed) (doorbells : ℕ) → AllRung ring → AllRung (rung ring doorbells)
rung_rung ring doorbells all =
    let more : List ℕ = filter (rings ring doorbells) (first_slots 32) in
    All-append (λ r. is_rung r.progress ≡ true) ring (map newly_rung more) all
    (All-map (λ r. is_rung r.progress ≡ true) newly_rung more (λ k d inside. refl))

-- a slot waits for no start sector, and is in no data phase
abbrev pub IsBetween : Progress → Type 0
IsBetween p = (p ≢ Named) × (p ≢ Active)

idle_between : IsBetween Idle
idle_between = (λ e. absurd (cc e), λ e. absurd (cc e))

rung_between : IsBetween Rung
rung_between = (λ e. absurd (cc e), λ e. absurd (cc e))

sent_between : IsBetween Sent
sent_between = (λ e. absurd (cc e), λ e. absurd (cc e))

ready_between : IsBetween Ready
ready_between = (λ e. absurd (cc e), λ e. absurd (cc e))

between_along : (p q : Progress) → q ≡ p → IsBetween p → IsBetween q
between_along p q e h = subst IsBetween (sym e) h

-- no slot waits for its start sector or is in a data phase, except perhaps one
abbrev pub IsBetweenBut : ℕ → Registers → Type 0
IsBetweenBut slot regs = (other : ℕ) → other ≢ slot → IsBetween (progress_of regs.ring other)

pub between_but : (regs : Registers) (slot : ℕ) → IsBetweenTasks regs → IsBetweenBut slot regs
between_but regs slot between other apart = between other

pub between_same : (regs regs' : Registers) → IsBetweenTasks regs → regs'.ring ≡ regs.ring → IsBetweenTasks regs'
between_same regs regs' between ring other =
    between_along (progress_of regs.ring other) (progress_of regs'.ring other) (ap (λ r. progress_of r other) ring) (between other)

pub between_none : (regs : Registers) → regs.ring ≡ [] → IsBetweenTasks regs
between_none regs ring other = between_along Idle (progress_of regs.ring other) (ap (λ r. progress_of r other) ring) idle_between

-- that slot is idle now
pub between_ended : (regs regs' : Registers) (slot : ℕ) → IsBetweenBut slot regs → regs'.ring ≡ without regs.ring slot → IsBetweenTasks regs'
between_ended regs regs' slot others ring other =
    elim (eqb_tells other slot) [
      | inl t ↦
          between_along Idle (progress_of regs'.ring other) (idle_now regs regs' slot other ring t.1) idle_between
      | inr t ↦
          between_along (progress_of regs.ring other) (progress_of regs'.ring other) (left_now regs regs' slot other ring t.1) (others other t.1)
    ]

pub between_without : (regs regs' : Registers) (slot : ℕ) → IsBetweenTasks regs → regs'.ring ≡ without regs.ring slot → IsBetweenTasks regs'
between_without regs regs' slot between ring = between_ended regs regs' slot (between_but regs slot between) ring

-- a slot moved on, and the others are as they were
pub but_advanced : (regs regs' : Registers) (slot : ℕ) → IsBetweenBut slot regs → regs'.ring ≡ advanced regs.ring slot → IsBetweenBut slot regs'
but_advanced regs regs' slot others ring other apart =
    between_along (progress_of regs.ring other) (progress_of regs'.ring other) (advanced_now regs regs' slot other ring apart) (others other apart)

pub but_same : (regs regs' : Registers) (slot : ℕ) → IsBetweenBut slot regs → regs'.ring ≡ regs.ring → IsBetweenBut slot regs'
but_same regs regs' slot others ring other apart =
    between_along (progress_of regs.ring other) (progress_of regs'.ring other) (ap (λ r. progress_of r other) ring) (others other apart)

pub others_advanced : (regs regs' : Registers) (slot : ℕ) → IsBetweenTasks regs → regs'.ring ≡ advanced regs.ring slot → IsBetweenBut slot regs'
others_advanced regs regs' slot between ring = but_advanced regs regs' slot (between_but regs slot between) ring

-- the slot that was named is sent now
pub between_sent : (regs regs' : Registers) (slot : ℕ) → progress_of regs.ring slot ≡ Named → IsBetweenBut slot regs
    → regs'.ring ≡ advanced regs.ring slot → IsBetweenTasks regs'
between_sent regs regs' slot is others ring other =
    elim (eqb_tells other slot) [
      | inl t ↦
          between_along Sent (progress_of regs'.ring other)
          (ap (progress_of regs'.ring) t.1 ∙ advanced_to regs regs' slot ring ∙ ap next is) sent_between
      | inr t ↦ but_advanced regs regs' slot others ring other t.1
    ]

readied_between : (b : Bool) (p : Progress) → IsBetween p → IsBetween (cond b (readied p) p)
readied_between false p h = h
readied_between true Idle h = h
readied_between true Rung h = h
readied_between true Named h = h
readied_between true Sent h = ready_between
readied_between true Ready h = h
readied_between true Active h = h

pub between_readied : (regs regs' : Registers) (word : ℕ) → IsBetweenTasks regs → regs'.ring ≡ made_ready regs.ring word → IsBetweenTasks regs'
between_readied regs regs' word between ring other =
    between_along (cond (has_bit word other) (readied (progress_of regs.ring other)) (progress_of regs.ring other)) (progress_of regs'.ring other)
    (ap (λ r. progress_of r other) ring ∙ progress_made_ready regs.ring word other)
    (readied_between (has_bit word other) (progress_of regs.ring other) (between other))

-- the first entry decides, or the others do
first_or : (b : Bool) (r : Ringed) (rest : Option Ringed)
    → option_map_or (λ r. r.progress) (cond b (Some r) rest) Idle ≡ cond b r.progress (option_map_or (λ r. r.progress) rest Idle)
first_or true r rest = refl
first_or false r rest = refl

progress_first : (r : Ringed) (ring : List Ringed) (slot : ℕ) → progress_of (r ∷ ring) slot ≡ cond (r.slot == slot) r.progress (progress_of ring slot)
progress_first r ring slot = first_or (r.slot == slot) r (find (λ r. r.slot == slot) ring)

-- slots that are rung are rung behind all others
new_if : (P : Progress → Type 0) (b : Bool) (p : Progress) → P Rung → P p → P (cond b Rung p)
new_if P true p h k = h
new_if P false p h k = k

with_new : (P : Progress → Type 0) (more : List ℕ) (slot : ℕ) → P Rung → P Idle → P (progress_of (map newly_rung more) slot)
with_new P [] slot h idle = idle
with_new P (n ∷ more) slot h idle =
    subst P (sym (progress_first (newly_rung n) (map newly_rung more) slot))
    (new_if P (n == slot) (progress_of (map newly_rung more) slot) h (with_new P more slot h idle))

old_if : (P : Progress → Type 0) (b : Bool) (p q q' : Progress) → P (cond b p q) → (P q → P q') → P (cond b p q')
old_if P true p q q' h f = h
old_if P false p q q' h f = f h

behind : (P : Progress → Type 0) (ring : List Ringed) (more : List ℕ) (slot : ℕ) → P Rung → P (progress_of ring slot)
    → P (progress_of (ring ++ map newly_rung more) slot)
behind P [] more slot h old = with_new P more slot h old
behind P (r ∷ ring) more slot h old =
    subst P (sym (progress_first r (ring ++ map newly_rung more) slot))
    (old_if P (r.slot == slot) r.progress (progress_of ring slot) (progress_of (ring ++ map newly_rung more) slot)
    (subst P (progress_first r ring slot) old) (behind P ring more slot h))

-- after a write of the doorbell a slot is as far as it was, or is rung
pub progress_rung_or : (P : Progress → Type 0) (regs regs' : Registers) (doorbells slot : ℕ) → regs'.ring ≡ rung regs.ring doorbells → P Rung
    → P (progress_of regs.ring slot) → P (progress_of regs'.ring slot)
progress_rung_or P regs regs' doorbells slot ring h old =
    let Q : List Ringed → Type 0 = λ r. P (progress_of r slot) in
    subst Q (sym ring) (behind P regs.ring (filter (rings regs.ring doorbells) (first_slots 32)) slot h old)

pub between_doorbell : (regs regs' : Registers) (doorbells : ℕ) → IsBetweenTasks regs → regs'.ring ≡ rung regs.ring doorbells → IsBetweenTasks regs'
between_doorbell regs regs' doorbells between ring other = progress_rung_or IsBetween regs regs' doorbells other ring rung_between (between other)

-- without the slots that fail a test: a slot is as far as it was, or is idle
dropped_first : (P : Progress → Type 0) (keep b : Bool) (r : Ringed) (rest : List Ringed) (slot : ℕ) (p : Progress) → (r.slot == slot) ≡ b → P Idle
    → P (cond b r.progress p) → (P p → P (progress_of rest slot)) → (keep ≡ false → b ≡ true → P (progress_of rest slot))
    → P (progress_of (cond keep (r ∷ rest) rest) slot)
dropped_first P true b r rest slot p e idle old f g =
    subst P (sym (progress_first r rest slot ∙ ap (λ c. cond c r.progress (progress_of rest slot)) e)) (old_if P b r.progress p (progress_of rest slot) old f)
dropped_first P false true r rest slot p e idle old f g = g refl refl
dropped_first P false false r rest slot p e idle old f g = f old

absent_if : (P : Progress → Type 0) (keep b : Bool) (r : Ringed) (rest : List Ringed) (slot : ℕ) → (r.slot == slot) ≡ b → (b ≡ true → keep ≡ false)
    → P (progress_of rest slot) → P (progress_of (cond keep (r ∷ rest) rest) slot)
absent_if P false b r rest slot e fails h = h
absent_if P true true r rest slot e fails h = absurd (false≢true (sym (fails refl)))
absent_if P true false r rest slot e fails h =
    subst P (sym (progress_first r rest slot ∙ ap (λ c. cond c r.progress (progress_of rest slot)) e)) h

absent_first : (P : Progress → Type 0) (test : ℕ → Bool) (ring : List Ringed) (slot : ℕ) → test slot ≡ false → P Idle
    → P (progress_of (filter (λ r. test r.slot) ring) slot)
absent_first P test [] slot fails idle = idle
absent_first P test (r ∷ ring) slot fails idle =
    absent_if P (test r.slot) (r.slot == slot) r (filter (λ r. test r.slot) ring) slot refl (λ e. ap test (eqb-true r.slot slot e) ∙ fails)
    (absent_first P test ring slot fails idle)

left_or : (P : Progress → Type 0) (test : ℕ → Bool) (ring : List Ringed) (slot : ℕ) → P Idle → P (progress_of ring slot)
    → P (progress_of (filter (λ r. test r.slot) ring) slot)
left_or P test [] slot idle old = old
left_or P test (r ∷ ring) slot idle old =
    dropped_first P (test r.slot) (r.slot == slot) r (filter (λ r. test r.slot) ring) slot (progress_of ring slot) refl idle
    (subst P (progress_first r ring slot) old) (left_or P test ring slot idle)
    (λ e f. absent_first P test ring slot (sym (ap test (eqb-true r.slot slot f)) ∙ e) idle)

-- without the slots of a word a slot is as far as it was, or is idle
pub progress_left_or : (P : Progress → Type 0) (regs regs' : Registers) (word slot : ℕ) → regs'.ring ≡ without_slots regs.ring word → P Idle
    → P (progress_of regs.ring slot) → P (progress_of regs'.ring slot)
progress_left_or P regs regs' word slot ring idle old =
    let Q : List Ringed → Type 0 = λ r. P (progress_of r slot) in
    subst Q (sym ring) (left_or P (λ n. not (has_bit word n)) regs.ring slot idle old)

pub between_without_slots : (regs regs' : Registers) (word : ℕ) → IsBetweenTasks regs → regs'.ring ≡ without_slots regs.ring word → IsBetweenTasks regs'
between_without_slots regs regs' word between ring other = progress_left_or IsBetween regs regs' word other ring idle_between (between other)

-- The engine keeps its tasks where each slot that is begun is as far as it was.
keeps_as_far : (held : Places) (regs regs' : Registers) (tasks : ℕ → Option DataTask) → Keeps held regs tasks
    → ((slot : ℕ) → is_begun (progress_of regs'.ring slot) ≡ true → progress_of regs'.ring slot ≡ progress_of regs.ring slot) → Keeps held regs' tasks
keeps_as_far held regs regs' tasks keeps as_far slot below begun =
    let e : progress_of regs'.ring slot ≡ progress_of regs.ring slot = as_far slot begun in
    let P : Progress → Type 0 = λ p. HoldsAt p (tasks slot) (held_at held slot) in
    subst P (sym e) (keeps slot below (begun_along (progress_of regs'.ring slot) (progress_of regs.ring slot) e begun))

pub keeps_same : (held : Places) (regs regs' : Registers) (tasks : ℕ → Option DataTask) → Keeps held regs tasks → regs'.ring ≡ regs.ring → Keeps held regs' tasks
keeps_same held regs regs' tasks keeps ring =
    keeps_as_far held regs regs' tasks keeps (λ slot begun. ap (λ r. progress_of r slot) ring)

pub keeps_doorbell : (held : Places) (regs regs' : Registers) (tasks : ℕ → Option DataTask) (doorbells : ℕ) → Keeps held regs tasks
    → regs'.ring ≡ rung regs.ring doorbells → Keeps held regs' tasks
keeps_doorbell held regs regs' tasks doorbells keeps ring =
    keeps_as_far held regs regs' tasks keeps
    (λ slot.
    progress_rung_or (λ p. is_begun p ≡ true → p ≡ progress_of regs.ring slot) regs regs' doorbells slot ring (λ begun. absurd (false≢true begun)) (λ begun. refl))

pub keeps_without_slots : (held : Places) (regs regs' : Registers) (tasks : ℕ → Option DataTask) (word : ℕ) → Keeps held regs tasks
    → regs'.ring ≡ without_slots regs.ring word → Keeps held regs' tasks
keeps_without_slots held regs regs' tasks word keeps ring =
    keeps_as_far held regs regs' tasks keeps
    (λ slot.
    progress_left_or (λ p. is_begun p ≡ true → p ≡ progress_of regs.ring slot) regs regs' word slot ring (λ begun. absurd (false≢true begun)) (λ begun. refl))

-- What is due next between two tasks, by the tasks and not by what the engine holds of them; and of which slot it is.
use Rattle.std.proofs.Common.{◌≡◌, ◌≢◌, ◌<◌, ◌&&◌, ℕ, zero, suc, length, refl, sym, ◌∙◌, ap, subst, arith, zero-add, inl, inr, ⊎_elim}
use Rattle.std.specs.Prelude.{Bool, true, false, nat_lt, ◌==◌, Option, Some, None, slice_get, cond, List, [], ◌∷◌, map, take}
use Rattle.std.specs.List.{All, find, position_or_len}
use Rattle.std.specs.Option.{MatchOption, option_map, option_map_or}
use Rattle.std.proofs.lemmas.Bool.{cases_lt, eq-eqb, false_from_ne_true, or_left, or_right}
use Rattle.std.proofs.lemmas.Bool.Decides.{eqb_tells}
use Rattle.std.proofs.lemmas.List.{get_or_past}
use Rattle.std.proofs.lemmas.List.Folds.{find_at}
use Rattle.std.proofs.lemmas.List.FromFn.{get_or-map-range_with_len, length-map-range_with_len}
use Rattle.std.proofs.lemmas.Option.{none-some, same_Some}
use Rattle.host_mem.specs.Memory.{Memory}
use Rattle.cq_regs.specs.declared.slots.Progress.{Progress}
use Rattle.cq_regs.specs.declared.slots.Progress.TheVariants.{Idle, Rung, Named, Sent, Ready, Active}
use Rattle.cq_regs.specs.declared.slots.Ringed.{Ringed}
use Rattle.cq_regs.specs.State.{Registers}
use Rattle.cq_regs.specs.Slots.{advanced, is_rung, next, progress_of}
use Rattle.cq_regs.proofs.RingLaws.{has_slot, rung-has_slot}
use Rattle.cq_task.specs.declared.slot.DataTask.{DataTask}
use Rattle.cq_schedule.specs.declared.held.HeldTask.{HeldTask}
use Rattle.cq_schedule.specs.declared.rules.Due.{Due}
use Rattle.cq_schedule.specs.declared.rules.Due.TheVariants.{Rest, Block as NextBlock, Close, Address, Serve, Execute, Poll, Tick}
use Rattle.cq_schedule.specs.Held.{Places, held_at, newly_held, same, slots}
use Rattle.cq_schedule.specs.Holding.{is_begun}
use Rattle.cq_schedule.specs.Meaning.{Bars, CanServe, IsAt, IsDue, IsDueThen, IsFirstServed, IsHeldBack, IsNextServed, after_serving, before_serving, next_of_phase, rests}
use Rattle.cq_schedule.specs.Order.{blocks_of, first_at, first_high, has_flag, is_high, moved_of, order_of}
use Rattle.cq_schedule.proofs.Progresses.{same-refl, same-true}
use Rattle.raw_machine.specs.State.{places_of}
use Rattle.raw_machine.specs.Telling.{IsBetweenTasks, Keeps}
use Rattle.raw_machine.proofs.Kept.{HoldsAt}

-- a search that finds nothing, one that finds the only slot that passes, and two searches for the same
find_none : (p : ℕ → Bool) (xs : List ℕ) → ((x : ℕ) → p x ≡ false) → find p xs ≡ None
find_none p [] fails = refl
find_none p (x ∷ xs) fails = ap (λ b. cond b (Some x) (find p xs)) (fails x) ∙ find_none p xs fails

find_here : (p : ℕ → Bool) (xs : List ℕ) (x slot : ℕ) → x ≡ slot → p slot ≡ true → cond (p x) (Some x) (find p xs) ≡ Some slot
find_here p xs x slot e passes =
    let P : ℕ → Type 0 = λ n. cond (p n) (Some n) (find p xs) ≡ Some slot in
    subst P (sym e) (ap (λ b. cond b (Some slot) (find p xs)) passes)

find_only : (p : ℕ → Bool) (xs : List ℕ) (k slot : ℕ) → slice_get xs k ≡ Some slot → p slot ≡ true
    → ((other : ℕ) → other ≢ slot → p other ≡ false) → find p xs ≡ Some slot
find_only p [] k slot at passes others = absurd (none-some slot at)
find_only p (x ∷ xs) zero slot at passes others = find_here p xs x slot (same_Some x slot at) passes
find_only p (x ∷ xs) (suc k) slot at passes others =
    elim (eqb_tells x slot) [
      | inl t ↦ find_here p xs x slot t.1 passes
      | inr t ↦ ap (λ b. cond b (Some x) (find p xs)) (others x t.1) ∙ find_only p xs k slot at passes others
    ]

find_alike : (p q : ℕ → Bool) (xs : List ℕ) → ((x : ℕ) → p x ≡ q x) → find p xs ≡ find q xs
find_alike p q [] alike = refl
find_alike p q (x ∷ xs) alike =
    ap (λ b. cond b (Some x) (find p xs)) (alike x) ∙ ap (λ rest. cond (q x) (Some x) rest) (find_alike p q xs alike)

apart : (p q : Progress) → p ≢ q → same p q ≡ false
apart p q h = false_from_ne_true (same p q) (λ e. h (same-true p q e))

-- no slot has come just so far, or one alone
first_none : (progress : Progress) (ring : List Ringed) → ((slot : ℕ) → progress_of ring slot ≢ progress) → first_at progress ring ≡ None
first_none progress ring none =
    find_none (λ slot. same (progress_of ring slot) progress) (order_of ring) (λ slot. apart (progress_of ring slot) progress (none slot))

first_only : (progress : Progress) (ring : List Ringed) (k slot : ℕ) → slice_get (order_of ring) k ≡ Some slot → progress_of ring slot ≡ progress
    → ((other : ℕ) → other ≢ slot → progress_of ring other ≢ progress) → first_at progress ring ≡ Some slot
first_only progress ring k slot at is others =
    let P : Progress → Type 0 = λ p. same p progress ≡ true in
    find_only (λ s. same (progress_of ring s) progress) (order_of ring) k slot at (subst P (sym is) (same-refl progress))
    (λ other far. apart (progress_of ring other) progress (others other far))

-- what comes before serving, by whether the engine rests and by the first slots that are active and named
abbrev first_of : Places → Bool → (active named : Option ℕ) → Option Due
first_of held resting active named =
    cond resting (Some Rest) (option_map_or (λ slot. Some (next_of_phase held slot)) active (option_map Address named))

first_is : (held : Places) (regs : Registers) (resting : Bool) (active named : Option ℕ) → rests regs ≡ resting → first_at Active regs.ring ≡ active
    → first_at Named regs.ring ≡ named → before_serving held regs ≡ first_of held resting active named
first_is held regs resting active named e f g =
    ap (λ b. first_of held b (first_at Active regs.ring) (first_at Named regs.ring)) e
    ∙ ap (λ a. first_of held resting a (first_at Named regs.ring)) f
    ∙ ap (λ n. first_of held resting active n) g

due_by : (held : Places) (regs : Registers) (memory : Memory) (first : Option Due) (due : Due) → before_serving held regs ≡ first
    → IsDue held regs memory due → MatchOption first (IsDueThen held regs memory due) (λ then. due ≡ then)
due_by held regs memory first due e is =
    let P : Option Due → Type 0 = λ o. MatchOption o (IsDueThen held regs memory due) (λ then. due ≡ then) in
    subst P e is

due_from : (held : Places) (regs : Registers) (memory : Memory) (first : Option Due) (due : Due) → before_serving held regs ≡ first
    → MatchOption first (IsDueThen held regs memory due) (λ then. due ≡ then) → IsDue held regs memory due
due_from held regs memory first due e is =
    let P : Option Due → Type 0 = λ o. MatchOption o (IsDueThen held regs memory due) (λ then. due ≡ then) in
    subst P (sym e) is

-- the engine rests
pub rests_due : (held : Places) (regs : Registers) (memory : Memory) (due : Due) → rests regs ≡ true → IsDue held regs memory due → due ≡ Rest
rests_due held regs memory due e is =
    due_by held regs memory (Some Rest) due (first_is held regs true (first_at Active regs.ring) (first_at Named regs.ring) e refl refl) is

pub rest_is_due : (held : Places) (regs : Registers) (memory : Memory) → rests regs ≡ true → IsDue held regs memory Rest
rest_is_due held regs memory e =
    due_from held regs memory (Some Rest) Rest (first_is held regs true (first_at Active regs.ring) (first_at Named regs.ring) e refl refl) refl

phase_no_rest : (held : Places) (slot : ℕ) (more : Bool) → Rest ≢ cond more (NextBlock slot (moved_of held slot)) (Close slot)
phase_no_rest held slot true e = absurd (cc e)
phase_no_rest held slot false e = absurd (cc e)

then_no_rest : (served high ready sent : Option ℕ)
    → Rest ≢ option_map_or Serve served (option_map_or Execute high (option_map_or Execute ready (option_map_or (λ _. Poll) sent Tick)))
then_no_rest (Some slot) high ready sent e = absurd (cc e)
then_no_rest None (Some slot) ready sent e = absurd (cc e)
then_no_rest None None (Some slot) sent e = absurd (cc e)
then_no_rest None None None (Some slot) e = absurd (cc e)
then_no_rest None None None None e = absurd (cc e)

rest_by : (held : Places) (regs : Registers) (memory : Memory) (resting : Bool) (active named : Option ℕ)
    → MatchOption (first_of held resting active named) (IsDueThen held regs memory Rest) (λ then. Rest ≡ then) → resting ≡ true
rest_by held regs memory true active named is = refl
rest_by held regs memory false (Some slot) named is = absurd (phase_no_rest held slot (nat_lt (moved_of held slot) (blocks_of held slot)) is)
rest_by held regs memory false None (Some slot) is = absurd (cc is)
rest_by held regs memory false None None is =
    absurd (then_no_rest is.served (first_high held regs.ring) (first_at Ready regs.ring) (first_at Sent regs.ring) is.is)

pub rest_rests : (held : Places) (regs : Registers) (memory : Memory) → IsDue held regs memory Rest → rests regs ≡ true
rest_rests held regs memory is = rest_by held regs memory (rests regs) (first_at Active regs.ring) (first_at Named regs.ring) is

-- one slot is named, and none is active: it gets its start sector
pub address_due : (held : Places) (regs : Registers) (memory : Memory) (slot k : ℕ) (due : Due) → rests regs ≡ false
    → slice_get (order_of regs.ring) k ≡ Some slot → progress_of regs.ring slot ≡ Named → ((other : ℕ) → progress_of regs.ring other ≢ Active)
    → ((other : ℕ) → other ≢ slot → progress_of regs.ring other ≢ Named) → IsDue held regs memory due → due ≡ Address slot
address_due held regs memory slot k due e at is none others d =
    due_by held regs memory (Some (Address slot)) due
    (first_is held regs false None (Some slot) e (first_none Active regs.ring none) (first_only Named regs.ring k slot at is others)) d

-- one slot is active: its next block, or its close
pub phase_due : (held : Places) (regs : Registers) (memory : Memory) (slot k : ℕ) (due : Due) → rests regs ≡ false
    → slice_get (order_of regs.ring) k ≡ Some slot → progress_of regs.ring slot ≡ Active
    → ((other : ℕ) → other ≢ slot → progress_of regs.ring other ≢ Active) → IsDue held regs memory due → due ≡ next_of_phase held slot
phase_due held regs memory slot k due e at is others d =
    due_by held regs memory (Some (next_of_phase held slot)) due
    (first_is held regs false (Some slot) (first_at Named regs.ring) e (first_only Active regs.ring k slot at is others) refl) d

-- between tasks nothing comes before serving, except to rest
before_is : (held : Places) (regs : Registers) → IsBetweenTasks regs → before_serving held regs ≡ cond (rests regs) (Some Rest) None
before_is held regs between =
    first_is held regs (rests regs) None None refl (first_none Active regs.ring (λ slot. (between slot).1))
    (first_none Named regs.ring (λ slot. (between slot).0))

-- what can be due between tasks
pub data IsBetweenDue : Due → Type 0 where
  rest : IsBetweenDue Rest
  tick : IsBetweenDue Tick
  poll : IsBetweenDue Poll
  serve : (slot : ℕ) → IsBetweenDue (Serve slot)
  execute : (slot : ℕ) → IsBetweenDue (Execute slot)

whole_then : (served high ready sent : Option ℕ)
    → IsBetweenDue (option_map_or Serve served (option_map_or Execute high (option_map_or Execute ready (option_map_or (λ _. Poll) sent Tick))))
whole_then (Some slot) high ready sent = serve slot
whole_then None (Some slot) ready sent = execute slot
whole_then None None (Some slot) sent = execute slot
whole_then None None None (Some slot) = poll
whole_then None None None None = tick

whole_by : (held : Places) (regs : Registers) (memory : Memory) (resting : Bool) (due : Due)
    → MatchOption (cond resting (Some Rest) None) (IsDueThen held regs memory due) (λ then. due ≡ then) → IsBetweenDue due
whole_by held regs memory true due is = subst IsBetweenDue (sym is) rest
whole_by held regs memory false due is =
    subst IsBetweenDue (sym is.is) (whole_then is.served (first_high held regs.ring) (first_at Ready regs.ring) (first_at Sent regs.ring))

-- no block is due, no close and no start sector
pub not_under_way : (held : Places) (regs : Registers) (memory : Memory) (due : Due) → IsBetweenTasks regs → IsDue held regs memory due → IsBetweenDue due
not_under_way held regs memory due between is =
    whole_by held regs memory (rests regs) due
    (due_by held regs memory (cond (rests regs) (Some Rest) None) due (before_is held regs between) is)

-- a slot in order of ringing is rung
has_at : (ring : List Ringed) (n k slot : ℕ) → slice_get (take n (map (λ r. r.slot) ring)) k ≡ Some slot → has_slot ring slot ≡ true
has_at ring zero k slot e = absurd (none-some slot e)
has_at [] (suc n) k slot e = absurd (none-some slot e)
has_at (r ∷ ring) (suc n) zero slot e = or_left (r.slot == slot) (has_slot ring slot) (eq-eqb r.slot slot (same_Some r.slot slot e))
has_at (r ∷ ring) (suc n) (suc k) slot e = or_right (r.slot == slot) (has_slot ring slot) (has_at ring n k slot e)

pub rung_in_order : (regs : Registers) (k slot : ℕ) → All (λ r. is_rung r.progress ≡ true) regs.ring → IsAt regs k slot
    → is_rung (progress_of regs.ring slot) ≡ true
rung_in_order regs k slot started at = rung-has_slot regs.ring slot started ∙ has_at regs.ring 32 k slot at

begun_after : (p : Progress) → is_rung p ≡ true → p ≢ Rung → is_begun p ≡ true
begun_after Idle h far = h
begun_after Rung h far = absurd (far refl)
begun_after Named h far = refl
begun_after Sent h far = refl
begun_after Ready h far = refl
begun_after Active h far = refl

-- two lists of places that the rules of what comes next can't tell apart
record Alike (held held' : Places) (regs : Registers) : Type 0 where
  high : (slot : ℕ) → progress_of regs.ring slot ≡ Ready → is_high held slot ≡ is_high held' slot
  flag : (k slot : ℕ) → IsAt regs k slot → progress_of regs.ring slot ≢ Rung → has_flag held slot ≡ has_flag held' slot

swapped : (held held' : Places) (regs : Registers) → Alike held held' regs → Alike held' held regs
swapped held held' regs a = record { high = λ slot is. sym (a.high slot is); flag = λ k slot at far. sym (a.flag k slot at far) }

bars_along : (held held' : Places) (regs : Registers) (memory : Memory) (k slot : ℕ) → Alike held held' regs → IsAt regs k slot
    → Bars held regs memory slot → Bars held' regs memory slot
bars_along held held' regs memory k slot a at (inl h) = inl h
bars_along held held' regs memory k slot a at (inr h) = inr (h.0, sym (a.flag k slot at h.0) ∙ h.1)

back_along : (held held' : Places) (regs : Registers) (memory : Memory) (k slot : ℕ) → Alike held held' regs → IsAt regs k slot
    → IsHeldBack held regs memory k slot → IsHeldBack held' regs memory k slot
back_along held held' regs memory k slot a at (inl h) = inl (h.0, bars_along held held' regs memory k slot a at h.1)
back_along held held' regs memory k slot a at (inr b) =
    inr (record { place = b.place; slot = b.slot; before = b.before; is_at = b.is_at; bars = bars_along held held' regs memory b.place b.slot a b.is_at b.bars })

can_along : (held held' : Places) (regs : Registers) (memory : Memory) (k slot : ℕ) → Alike held held' regs
    → CanServe held regs memory k slot → CanServe held' regs memory k slot
can_along held held' regs memory k slot a can = record {
  is_at = can.is_at;
  is_rung = can.is_rung;
  is_free = λ back. can.is_free (back_along held' held regs memory k slot (swapped held held' regs a) can.is_at back);
}

next_along : (held held' : Places) (regs : Registers) (memory : Memory) (served : Option ℕ) → Alike held held' regs
    → IsNextServed held regs memory served → IsNextServed held' regs memory served
next_along held held' regs memory (Some slot) a n = record {
  place = n.place;
  serves = can_along held held' regs memory n.place slot a n.serves;
  first = λ j other before can. n.first j other before (can_along held' held regs memory j other (swapped held held' regs a) can);
}
next_along held held' regs memory None a n =
    λ k slot can. n k slot (can_along held' held regs memory k slot (swapped held held' regs a) can)

both_alike : (b c d : Bool) → (b ≡ true → c ≡ d) → (b && c) ≡ (b && d)
both_alike true c d h = h refl
both_alike false c d h = refl

high_along : (held held' : Places) (regs : Registers) → Alike held held' regs → first_high held regs.ring ≡ first_high held' regs.ring
high_along held held' regs a =
    find_alike (λ slot. same (progress_of regs.ring slot) Ready && is_high held slot) (λ slot. same (progress_of regs.ring slot) Ready && is_high held' slot)
    (order_of regs.ring)
    (λ slot. both_alike (same (progress_of regs.ring slot) Ready) (is_high held slot) (is_high held' slot)
    (λ e. a.high slot (same-true (progress_of regs.ring slot) Ready e)))

after_along : (held held' : Places) (regs : Registers) → Alike held held' regs → after_serving held regs ≡ after_serving held' regs
after_along held held' regs a =
    ap (λ high. option_map_or Execute high (option_map_or Execute (first_at Ready regs.ring) (option_map_or (λ _. Poll) (first_at Sent regs.ring) Tick)))
    (high_along held held' regs a)

then_along : (held held' : Places) (regs : Registers) (memory : Memory) (due : Due) → Alike held held' regs
    → IsDueThen held regs memory due → IsDueThen held' regs memory due
then_along held held' regs memory due a d = record {
  served = d.served;
  next = next_along held held' regs memory d.served a d.next;
  is = d.is ∙ ap (λ after. option_map_or Serve d.served after) (after_along held held' regs a);
}

first_along : (o : Option Due) (A B : Type 0) (P : Due → Type 0) → (A → B) → MatchOption o A P → MatchOption o B P
first_along None A B P f h = f h
first_along (Some due) A B P f h = h

due_along : (held held' : Places) (regs : Registers) (memory : Memory) (due : Due) → IsBetweenTasks regs → Alike held held' regs
    → IsDue held regs memory due → IsDue held' regs memory due
due_along held held' regs memory due between a is =
    let first = cond (rests regs) (Some Rest) None in
    due_from held' regs memory first due (before_is held' regs between)
    (first_along first (IsDueThen held regs memory due) (IsDueThen held' regs memory due) (λ then. due ≡ then)
    (then_along held held' regs memory due a) (due_by held regs memory first due (before_is held regs between) is))

-- the tasks as places
pub places_at : (tasks : ℕ → Option DataTask) (slot : ℕ) → slot < 32 → held_at (places_of tasks) slot ≡ option_map newly_held (tasks slot)
unfolding slots
places_at tasks slot below =
    get_or-map-range_with_len (λ s. option_map newly_held (tasks s)) 0 32 slot slot None below (zero-add slot)

pub length-places : (tasks : ℕ → Option DataTask) → length (places_of tasks) ≡ 32
unfolding slots
length-places tasks = length-map-range_with_len (λ s. option_map newly_held (tasks s)) 0 32

-- whether a task has something, by what is held of its slot
abbrev tells : (DataTask → Bool) → Option HeldTask → Bool
tells f place = option_map_or (λ h. f h.task) place false

told_by : (f : DataTask → Bool) (place : Option HeldTask) (task : Option DataTask) (progress : Progress)
    → HoldsAt progress task place → tells f place ≡ tells f (option_map newly_held task)
told_by f None task progress h = absurd h
told_by f (Some held) task progress h = sym (ap (λ t. tells f (option_map newly_held t)) h.1)

told_at : (f : DataTask → Bool) (held : Places) (regs : Registers) (tasks : ℕ → Option DataTask) (slot : ℕ) → length held ≡ 32 → Keeps held regs tasks
    → is_begun (progress_of regs.ring slot) ≡ true → tells f (held_at held slot) ≡ tells f (held_at (places_of tasks) slot)
told_at f held regs tasks slot long keeps begun =
    ⊎_elim
    (λ below.
    told_by f (held_at held slot) (tasks slot) (progress_of regs.ring slot) (keeps slot below begun) ∙ ap (tells f) (sym (places_at tasks slot below)))
    (λ past.
    let none : held_at held slot ≡ None = get_or_past held slot None (omega (arith, past, long)) in
    let none' : held_at (places_of tasks) slot ≡ None = get_or_past (places_of tasks) slot None (omega (arith, past, length-places tasks)) in
    ap (tells f) none ∙ sym (ap (tells f) none'))
    (cases_lt slot 32)

alike_told : (held : Places) (regs : Registers) (tasks : ℕ → Option DataTask) → length held ≡ 32 → All (λ r. is_rung r.progress ≡ true) regs.ring
    → Keeps held regs tasks → Alike held (places_of tasks) regs
alike_told held regs tasks long started keeps = record {
  high = λ slot is.
      let begun : is_begun (progress_of regs.ring slot) ≡ true = ap is_begun is in
      told_at (λ task. task.desc.high) held regs tasks slot long keeps begun;
  flag = λ k slot at far.
      let begun : is_begun (progress_of regs.ring slot) ≡ true = begun_after (progress_of regs.ring slot) (rung_in_order regs k slot started at) far in
      told_at (λ task. task.desc.barrier) held regs tasks slot long keeps begun;
}

-- where no task is under way, the tasks make due what the engine's places make due
pub due_told : (held : Places) (regs : Registers) (memory : Memory) (tasks : ℕ → Option DataTask) (due : Due) → length held ≡ 32
    → All (λ r. is_rung r.progress ≡ true) regs.ring → Keeps held regs tasks → IsBetweenTasks regs → IsDue held regs memory due
    → IsDue (places_of tasks) regs memory due
due_told held regs memory tasks due long started keeps between is =
    due_along held (places_of tasks) regs memory due between (alike_told held regs tasks long started keeps) is

-- the slot that is served, as the k-th of those that are rung
phase_no_serve : (held : Places) (slot other : ℕ) (more : Bool) → Serve slot ≢ cond more (NextBlock other (moved_of held other)) (Close other)
phase_no_serve held slot other true e = absurd (cc e)
phase_no_serve held slot other false e = absurd (cc e)

phase_no_execute : (held : Places) (slot other : ℕ) (more : Bool) → Execute slot ≢ cond more (NextBlock other (moved_of held other)) (Close other)
phase_no_execute held slot other true e = absurd (cc e)
phase_no_execute held slot other false e = absurd (cc e)

served_then : (slot : ℕ) (served high ready sent : Option ℕ)
    → Serve slot ≡ option_map_or Serve served (option_map_or Execute high (option_map_or Execute ready (option_map_or (λ _. Poll) sent Tick)))
    → served ≡ Some slot
served_then slot (Some other) high ready sent e = let at : other ≡ slot = cc e in ap (λ n. Some n) at
served_then slot None (Some other) ready sent e = absurd (cc e)
served_then slot None None (Some other) sent e = absurd (cc e)
served_then slot None None None (Some other) e = absurd (cc e)
served_then slot None None None None e = absurd (cc e)

served_by : (held : Places) (regs : Registers) (memory : Memory) (slot : ℕ) (resting : Bool) (active named : Option ℕ)
    → MatchOption (first_of held resting active named) (IsDueThen held regs memory (Serve slot)) (λ then. Serve slot ≡ then)
    → IsFirstServed held regs memory slot
served_by held regs memory slot true active named is = absurd (cc is)
served_by held regs memory slot false (Some other) named is =
    absurd (phase_no_serve held slot other (nat_lt (moved_of held other) (blocks_of held other)) is)
served_by held regs memory slot false None (Some other) is = absurd (cc is)
served_by held regs memory slot false None None is =
    let P : Option ℕ → Type 0 = λ o. IsNextServed held regs memory o in
    subst P (served_then slot is.served (first_high held regs.ring) (first_at Ready regs.ring) (first_at Sent regs.ring) is.is) is.next

pub first_served : (held : Places) (regs : Registers) (memory : Memory) (slot : ℕ) → IsDue held regs memory (Serve slot) → IsFirstServed held regs memory slot
first_served held regs memory slot is = served_by held regs memory slot (rests regs) (first_at Active regs.ring) (first_at Named regs.ring) is

pub served_at : (held : Places) (regs : Registers) (memory : Memory) (slot : ℕ) → IsDue held regs memory (Serve slot)
    → (k : ℕ) × (slice_get (order_of regs.ring) k ≡ Some slot)
served_at held regs memory slot is = let first = first_served held regs memory slot is in (first.place, first.serves.is_at)

-- the slot that is executed
found_place : (p : ℕ → Bool) (xs : List ℕ) (slot : ℕ) → find p xs ≡ Some slot → (k : ℕ) × (slice_get xs k ≡ Some slot)
found_place p xs slot e = (position_or_len p xs, sym (find_at p xs) ∙ e)

executed_then : (ring : List Ringed) (held : Places) (slot : ℕ) (served high ready sent : Option ℕ) → first_high held ring ≡ high
    → first_at Ready ring ≡ ready
    → Execute slot ≡ option_map_or Serve served (option_map_or Execute high (option_map_or Execute ready (option_map_or (λ _. Poll) sent Tick)))
    → (k : ℕ) × (slice_get (order_of ring) k ≡ Some slot)
executed_then ring held slot (Some other) high ready sent f g e = absurd (cc e)
executed_then ring held slot None (Some other) ready sent f g e =
    let at : other ≡ slot = cc e in
    found_place (λ s. same (progress_of ring s) Ready && is_high held s) (order_of ring) slot (f ∙ ap (λ n. Some n) at)
executed_then ring held slot None None (Some other) sent f g e =
    let at : other ≡ slot = cc e in
    found_place (λ s. same (progress_of ring s) Ready) (order_of ring) slot (g ∙ ap (λ n. Some n) at)
executed_then ring held slot None None None (Some other) f g e = absurd (cc e)
executed_then ring held slot None None None None f g e = absurd (cc e)

executed_by : (held : Places) (regs : Registers) (memory : Memory) (slot : ℕ) (resting : Bool) (active named : Option ℕ)
    → MatchOption (first_of held resting active named) (IsDueThen held regs memory (Execute slot)) (λ then. Execute slot ≡ then)
    → (k : ℕ) × (slice_get (order_of regs.ring) k ≡ Some slot)
executed_by held regs memory slot true active named is = absurd (cc is)
executed_by held regs memory slot false (Some other) named is =
    absurd (phase_no_execute held slot other (nat_lt (moved_of held other) (blocks_of held other)) is)
executed_by held regs memory slot false None (Some other) is = absurd (cc is)
executed_by held regs memory slot false None None is =
    executed_then regs.ring held slot is.served (first_high held regs.ring) (first_at Ready regs.ring) (first_at Sent regs.ring) refl refl is.is

pub executed_at : (held : Places) (regs : Registers) (memory : Memory) (slot : ℕ) → IsDue held regs memory (Execute slot)
    → (k : ℕ) × (slice_get (order_of regs.ring) k ≡ Some slot)
executed_at held regs memory slot is = executed_by held regs memory slot (rests regs) (first_at Active regs.ring) (first_at Named regs.ring) is

-- a slot that moves on stays where it is in the order
same_slot : (b : Bool) (r : Ringed) (p : Progress) → (cond b (record r { progress = p }) r).slot ≡ r.slot
same_slot true r p = refl
same_slot false r p = refl

slots_advanced : (ring : List Ringed) (slot : ℕ) → map (λ r. r.slot) (advanced ring slot) ≡ map (λ r. r.slot) ring
slots_advanced [] slot = refl
slots_advanced (r ∷ ring) slot =
    ap (λ s. s ∷ map (λ r. r.slot) (advanced ring slot)) (same_slot (r.slot == slot) r (next r.progress))
    ∙ ap (λ rest. r.slot ∷ rest) (slots_advanced ring slot)

pub order_advanced : (ring : List Ringed) (slot : ℕ) → order_of (advanced ring slot) ≡ order_of ring
order_advanced ring slot = ap (λ rest. take 32 rest) (slots_advanced ring slot)

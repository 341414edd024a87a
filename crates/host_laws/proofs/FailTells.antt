-- The state after a stop: all issued requests wait, but for the one that the stop ends.
use Rattle.std.proofs.Common.{◌≡◌, ◌≢◌, ◌∙◌, ◌+◌, ◌<◌, ◌==◌, ℕ, zero, suc, Bool, true, false, List, [], ◌∷◌, Option, None, Some, fold, get_or, length, map, option_map, slice_set, refl, ap, sym, subst, arith, add-zero, eqb-true, eq-eqb, get_or-set_other, length-set, if◌then◌else◌}
use Rattle.std.proofs.lemmas.Bool.{eqb-false}
use Rattle.std.specs.List.{range_with_len}
use Rattle.storage_machine.specs.Slots.{changed, changed_from, changed_slots}
use Rattle.storage_machine.specs.declared.slots.Change.{Change}
use Rattle.storage_machine.specs.declared.slots.Change.TheVariants.{Answer, Hold}
use Rattle.storage_machine.specs.declared.state.Standing.{Standing}
use Rattle.storage_machine.specs.declared.state.Standing.TheVariants as standing
use Rattle.storage_machine.specs.declared.state.State.{State}
use Rattle.storage_machine.specs.declared.state.Task.{Task}
use Rattle.trace_effects.specs.Effects.{after_fault, after_recover, waiting_with, with_held}
use Rattle.bus_link.specs.Script.{Script}
use Rattle.card_core.specs.Card.{CardState}
use Rattle.cq_engine.specs.Outcome.{Holding}
use Rattle.cq_regs.specs.State.{Registers}
use Rattle.cq_schedule.specs.Held.{slots}
use Rattle.cut_order.specs.Order.{OrderState}
use Rattle.drv_jobs.proofs.HolderLaws.{holder-freed}
use Rattle.drv_jobs.specs.Changes.{waits_again}
use Rattle.drv_jobs.specs.Standings.{Standings, holder_of}
use Rattle.drv_recover.specs.declared.recovery.RecoveryState.TheVariants as driver
use Rattle.host_mem.specs.Memory.{Memory}
use Rattle.host_laws.proofs.Paths.{path_at}
use Rattle.host_laws.proofs.Recoveries.{no_data}
use Rattle.host_laws.proofs.Same.{range_same}
use Rattle.world_state.specs.Path.{PathState, holder}
use Rattle.world_state.specs.Reading.{Context, standing_at, state_of, tasks_of}

-- a change of all slots, tag by tag
pub changed_map : (change : Change) (f : ℕ → Option Task) (a n : ℕ)
    → changed_from change a (map f (range_with_len a n)) ≡ map (λ k. changed change k (f k)) (range_with_len a n)
changed_map change f a zero = refl
changed_map change f a (suc n) = ap (λ rest. changed change a (f a) ∷ rest) (changed_map change f (a + 1) n)

-- a task of a tag, by its request
abbrev pub task_by : (ℕ → Standing) → (ℕ → Option ℕ) → ℕ → Option Task
task_by at found tag = option_map (λ id. record { id = id; standing = at tag }) (found tag)

-- held requests wait
held_one : (waiting : List Bool) (s : Standing) (found : Option ℕ) → with_held waiting (option_map (λ id. record { id = id; standing = s }) found) ≡ waits_again waiting found
held_one waiting s None = refl
held_one waiting s (Some id) = refl

waits_by : (holders : List (Option ℕ)) (at : ℕ → Standing) (found : ℕ → Option ℕ) (a : ℕ) (waiting : List Bool)
    → ((i : ℕ) → i < length holders → found (a + i) ≡ get_or holders i None)
    → fold with_held waiting (map (task_by at found) (range_with_len a (length holders))) ≡ fold waits_again waiting holders
waits_by [] at found a waiting same = refl
waits_by (holder ∷ holders) at found a waiting same =
    let first : found a ≡ holder = subst (λ k. found k ≡ holder) (add-zero a) (same 0 (omega arith)) in
    ap (λ w. fold with_held w (map (task_by at found) (range_with_len (a + 1) (length holders)))) (held_one waiting (at a) (found a) ∙ ap (waits_again waiting) first)
    ∙ waits_by holders at found (a + 1) (waits_again waiting holder)
    (λ i low. subst (λ k. found k ≡ get_or holders i None) (let e : a + suc i ≡ a + 1 + i = omega arith in e) (same (suc i) (omega (arith, low))))

pub waits_all : (holders : List (Option ℕ)) (at : ℕ → Standing) (waiting : List Bool) → length holders ≡ 32
    → fold with_held waiting (map (task_by at (holder_of holders)) (range_with_len 0 32)) ≡ fold waits_again waiting holders
waits_all holders at waiting long =
    ap (λ n. fold with_held waiting (map (task_by at (holder_of holders)) (range_with_len 0 n))) (sym long)
    ∙ waits_by holders at (holder_of holders) 0 waiting (λ i low. ap (holder_of holders) (let e : 0 + i ≡ i = omega arith in e))

-- held tasks
hold_one : (s t : Standing) (tag : ℕ) (found : Option ℕ) → t ≡ standing.Held
    → option_map (λ id. record { id = id; standing = t }) found ≡ changed Hold tag (option_map (λ id. record { id = id; standing = s }) found)
hold_one s t tag None e = refl
hold_one s t tag (Some id) e = ap (λ x. Some (record { id = id; standing = x })) e

hold_all : (holders : List (Option ℕ)) (at : ℕ → Standing)
    → map (task_by (λ tag. standing.Held) (holder_of holders)) (range_with_len 0 32) ≡ changed_from Hold 0 (map (task_by at (holder_of holders)) (range_with_len 0 32))
hold_all holders at =
    range_same (task_by (λ tag. standing.Held) (holder_of holders)) (λ k. changed Hold k (task_by at (holder_of holders) k)) 0 32
    (λ k l h. hold_one (at k) standing.Held k (holder_of holders k) refl)
    ∙ sym (changed_map Hold (task_by at (holder_of holders)) 0 32)

-- the task that is answered
answered_other : (s : Standing) (id k : ℕ) (found : Option ℕ) → ((j : ℕ) → found ≡ Some j → (j == id) ≡ false)
    → changed (Answer id) k (option_map (λ j. record { id = j; standing = s }) found) ≡ option_map (λ j. record { id = j; standing = s }) found
answered_other s id k None other = refl
answered_other s id k (Some j) other = ap (λ b. if b then None else Some (record { id = j; standing = s })) (other j refl)

no_match : (holders : List (Option ℕ)) (tag id k j : ℕ) (b : Bool) → (j == id) ≡ b → k ≢ tag → ((other : ℕ) → holder_of holders other ≡ Some id → other ≡ tag)
    → holder_of holders k ≡ Some j → b ≡ false
no_match holders tag id k j true f apart only h = absurd (apart (only k (h ∙ ap Some (eqb-true j id f))))
no_match holders tag id k j false f apart only h = refl

answered_at : (holders : List (Option ℕ)) (at : ℕ → Standing) (tag id k : ℕ) (b : Bool) → (k == tag) ≡ b → holder_of holders tag ≡ Some id
    → ((other : ℕ) → holder_of holders other ≡ Some id → other ≡ tag)
    → changed (Answer id) k (task_by at (holder_of holders) k) ≡ task_by at (holder_of (slice_set holders tag None)) k
answered_at holders at tag id k true e held only =
    let same = eqb-true k tag e in
    ap (λ found. changed (Answer id) k (option_map (λ j. record { id = j; standing = at k }) found)) (ap (holder_of holders) same ∙ held)
    ∙ (ap (λ b. if b then None else Some (record { id = id; standing = at k })) (eq-eqb id id refl)
    ∙ sym (ap (option_map (λ j. record { id = j; standing = at k })) (ap (holder_of (slice_set holders tag None)) same ∙ holder-freed holders tag)))
answered_at holders at tag id k false e held only =
    answered_other (at k) id k (holder_of holders k) (λ j h. no_match holders tag id k j (j == id) refl (eqb-false k tag e) only h)
    ∙ sym (ap (option_map (λ j. record { id = j; standing = at k })) (get_or-set_other holders tag k None None (eqb-false k tag e)))

pub answered_all : (holders : List (Option ℕ)) (at : ℕ → Standing) (tag id : ℕ) → holder_of holders tag ≡ Some id
    → ((other : ℕ) → holder_of holders other ≡ Some id → other ≡ tag)
    → changed_from (Answer id) 0 (map (task_by at (holder_of holders)) (range_with_len 0 32)) ≡ map (task_by at (holder_of (slice_set holders tag None))) (range_with_len 0 32)
answered_all holders at tag id held only =
    changed_map (Answer id) (task_by at (holder_of holders)) 0 32
    ∙ range_same (λ k. changed (Answer id) k (task_by at (holder_of holders) k)) (task_by at (holder_of (slice_set holders tag None))) 0 32
    (λ k l h. answered_at holders at tag id k (k == tag) refl held only)

-- the machine's state after the recovery has begun, by the requests that are left
abbrev pub recovered_with : State → List (Option Task) → State
recovered_with s found = after_recover (record s { slots = found })

left_state : (r : Standings) (faults : List ℕ) (holders : List (Option ℕ)) (g : Registers) (m : Memory) (e : Holding) (k : CardState) (s : Script) (o : OrderState) (c : Context)
    → g.completed ≡ 0 → length holders ≡ 32
    → state_of (path_at (record r { faults = faults; holders = holders }) driver.Halted (record g { halted = true }) m e k s) o c
    ≡ recovered_with (state_of (path_at r driver.Calm g m e k s) o c)
    (map (task_by (standing_at (path_at r driver.Calm g m e k s)) (holder_of holders)) (range_with_len 0 32))
unfolding state_of after_recover tasks_of slots waiting_with changed_slots
left_state r faults holders g m e k s o c none long =
    let q : PathState = path_at (record r { faults = faults; holders = holders }) driver.Halted (record g { halted = true }) m e k s in
    let p : PathState = path_at r driver.Calm g m e k s in
    ap (λ found. record (state_of q o c) { waiting = found }) (sym (waits_all holders (standing_at p) r.waiting long))
    ∙ (ap (λ found. record (state_of q o c) { waiting = fold with_held r.waiting (map (task_by (standing_at p) (holder_of holders)) (range_with_len 0 32)); slots = found })
    (hold_all holders (standing_at p))
    ∙ ap (λ found. record (state_of q o c) {
      waiting = fold with_held r.waiting (map (task_by (standing_at p) (holder_of holders)) (range_with_len 0 32));
      slots = changed_from Hold 0 (map (task_by (standing_at p) (holder_of holders)) (range_with_len 0 32));
      «data» = found;
    }) (no_data q none ∙ sym (no_data p none)))

-- nobody is answered
pub retried_state : (r : Standings) (faults : List ℕ) (g : Registers) (m : Memory) (e : Holding) (k : CardState) (s : Script) (o : OrderState) (c : Context)
    → g.completed ≡ 0 → length r.holders ≡ 32
    → state_of (path_at (record r { faults = faults }) driver.Halted (record g { halted = true }) m e k s) o c ≡ after_recover (state_of (path_at r driver.Calm g m e k s) o c)
unfolding state_of tasks_of slots
retried_state r faults g m e k s o c none long = left_state r faults r.holders g m e k s o c none long

-- one is
pub ended_state : (r : Standings) (faults : List ℕ) (tag id : ℕ) (g : Registers) (m : Memory) (e : Holding) (k : CardState) (s : Script) (o : OrderState) (c : Context)
    → g.completed ≡ 0 → length r.holders ≡ 32 → holder_of r.holders tag ≡ Some id → ((other : ℕ) → holder_of r.holders other ≡ Some id → other ≡ tag)
    → state_of (path_at (record r { faults = faults; holders = slice_set r.holders tag None }) driver.Halted (record g { halted = true }) m e k s) o c
    ≡ after_recover (after_fault (state_of (path_at r driver.Calm g m e k s) o c) id)
unfolding state_of after_fault changed_slots tasks_of slots after_recover
ended_state r faults tag id g m e k s o c none long held only =
    let p : PathState = path_at r driver.Calm g m e k s in
    left_state r faults (slice_set r.holders tag None) g m e k s o c none (length-set r.holders tag None ∙ long)
    ∙ ap (λ found. recovered_with (state_of p o c) found) (sym (answered_all r.holders (standing_at p) tag id held only))

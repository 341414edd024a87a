-- A direct command that is done, in the storage machine.
use Rattle.std.proofs.Common.{◌≡◌, ◌≢◌, ◌==◌, ◌&&◌, ◌+◌, ℕ, zero, suc, refl, sym, ◌∙◌, ap, inl, inr}
use Rattle.std.specs.Prelude.{Bool, true, false, not, cond, Option, Some, None, List, [], ◌∷◌, All, map, take}
use Rattle.std.specs.List.{filter, find, range_with_len}
use Rattle.std.specs.Option.{option_map_or}
use Rattle.std.proofs.lemmas.Bool.{eq-eqb, false≢true, or_right}
use Rattle.std.proofs.lemmas.Bool.Decides.{eqb_tells}
use Rattle.std.proofs.lemmas.List.Elements.{All-filter, All-head}
use Rattle.cq_regs.specs.Slots.{is_rung, progress_of, without}
use Rattle.cq_regs.specs.declared.slots.Progress.{Progress}
use Rattle.cq_regs.specs.declared.slots.Progress.TheVariants.{Idle}
use Rattle.cq_regs.specs.declared.slots.Ringed.{Ringed}
use Rattle.cq_engine.proofs.SlotLaws.{without-other, without-same}
use Rattle.cq_schedule.specs.Order.{order_of}
use Rattle.storage_machine.specs.Commands.{due, hit}
use Rattle.storage_machine.specs.Jobs.{is_direct, job_of}
use Rattle.storage_machine.specs.Slots.{changed, changed_from, changed_slots}
use Rattle.storage_machine.specs.declared.slots.Change.{Change}
use Rattle.storage_machine.specs.declared.slots.Change.TheVariants.{Move}
use Rattle.storage_machine.specs.declared.state.Event.TheVariants.{Untold}
use Rattle.storage_machine.specs.declared.state.Owed.TheVariants.{Closed, Flash as FlashOwed, Nothing}
use Rattle.storage_machine.specs.declared.state.Standing.TheVariants.{Done}
use Rattle.storage_machine.specs.declared.state.State.{State}
use Rattle.storage_machine.specs.declared.state.Task.{Task}
use Rattle.storage_model.specs.declared.block.Block.{Block}
use Rattle.storage_model.specs.declared.faults.Letter.TheVariants.{Engine as EngineActs}
use Rattle.storage_model.specs.declared.plan.Job.{Job}
use Rattle.storage_model.specs.declared.plan.Job.TheVariants.{Read, Write, Flush, Barrier, Status}
use Rattle.storage_model.specs.declared.trace.Item.TheVariants.{Phase as PhaseLine}
use Rattle.storage_order.specs.Events.{Happens, is_untold}
use Rattle.trace_effects.specs.Effects.{begun, effect}
use Rattle.trace_effects.specs.Phases.{after_done, closed_by, done_with, read_sectors}
use Rattle.trace_rules.specs.Lines.{is_free}
use Rattle.trace_rules.specs.Phases.{is_whole, owed_by, phase_holds, tag_due}
use Rattle.phase_laws.proofs.Phased.{blocks_state, phase_begins, phase_effect, told, with_blocks}

-- ---- the state then

abbrev pub done_in : State → ℕ → ℕ → State
done_in s slot id = record s { slots = changed_slots (Move id Done) s.slots; order = filter (λ other. not (other == slot)) s.order; notice = true }

abbrev pub done_of : State → Job → ℕ → ℕ → ℕ → Bool → ℕ → State
done_of s j slot id count kept n = record (done_in (with_blocks s j count kept) slot id) { n = n; busy = false; spent = 0; owed = Nothing; event = Untold }

done_state : (s : State) (slot id : ℕ) (j : Job) (sectors : List Block) → is_direct j ≡ true → after_done s slot id j sectors ≡ done_in s slot id
unfolding after_done
done_state s slot id (Read sector blocks high) sectors e = absurd (false≢true e)
done_state s slot id (Write sector blocks fill forced reliable high) sectors e = absurd (false≢true e)
done_state s slot id Flush sectors e = ap (λ b. record (done_in s slot id) { notice = b }) (or_right s.notice true refl)
done_state s slot id Barrier sectors e = ap (λ b. record (done_in s slot id) { notice = b }) (or_right s.notice true refl)
done_state s slot id Status sectors e = ap (λ b. record (done_in s slot id) { notice = b }) (or_right s.notice true refl)

pub done_effect : (s : State) (slot id count n : ℕ) (kept : Bool) (j : Job) → tag_due (due s) ≡ slot → hit s ≡ None → job_of s.plan.jobs id ≡ j → is_direct j ≡ true
    → is_whole s.plan.through j count kept ≡ true
    → effect (told s) (PhaseLine n id count kept) ≡ record (done_of s j slot id count kept n) { owed = Closed }
done_effect s slot id count n kept j tag is jobs direct whole =
    let sectors : List Block = read_sectors (told s) j in
    let all : Bool = is_whole s.plan.through j count kept in
    phase_effect s slot id count n kept None j tag is jobs
    ∙ ap (λ x. closed_by (done_with x slot id j sectors (all && true)) n (owed_by None all n id count)) (blocks_state (told s) j count kept)
    ∙ ap (λ b. closed_by (cond (b && true) (after_done (with_blocks (told s) j count kept) slot id j sectors) (with_blocks (told s) j count kept)) n
    (cond b Closed (FlashOwed id))) whole
    ∙ ap (λ x. closed_by x n Closed) (done_state (with_blocks (told s) j count kept) slot id j sectors direct)

pub done_happens : (s t : State) (n id count : ℕ) (kept : Bool) → is_free s.owed ≡ true → is_untold s.event ≡ true → phase_holds (told s) n id count kept ≡ true
    → is_untold t.event ≡ true → t.owed ≡ Nothing → effect (told s) (PhaseLine n id count kept) ≡ record t { owed = Closed }
    → Happens s EngineActs (PhaseLine n id count kept ∷ []) t
unfolding begun
done_happens s t n id count kept free untold h after none is = record {
  free = free;
  untold = untold;
  makes = record {
    last = record t { owed = Closed };
    begins = phase_begins s (record t { owed = Closed }) n id count kept [] h (sym is);
    over = refl;
    event = after;
    state = ap (λ v. record t { owed = v }) none;
  };
}

-- ---- the slots

changes : (change : Change) (f : ℕ → Option Task) (from n : ℕ)
    → changed_from change from (map f (range_with_len from n)) ≡ map (λ tag. changed change tag (f tag)) (range_with_len from n)
changes change f from zero = refl
changes change f from (suc n) = ap (λ xs. changed change from (f from) ∷ xs) (changes change f (from + 1) n)

pub changes_all : (change : Change) (f : ℕ → Option Task) (n : ℕ)
    → changed_slots change (map f (range_with_len 0 n)) ≡ map (λ tag. changed change tag (f tag)) (range_with_len 0 n)
unfolding changed_slots
changes_all change f n = changes change f 0 n

-- ---- the order

none_rung : (r : Ringed) (ring : List Ringed) (b : Bool) → (r.slot == r.slot) ≡ b → b ≡ true → is_rung r.progress ≡ true
    → ◌≡◌ {A = Progress} (option_map_or (λ r. r.progress) (cond b (Some r) (find (λ s. s.slot == r.slot) ring)) Idle) Idle → r ∷ ring ≡ []
none_rung r ring true e is rung idle = absurd (false≢true (sym (ap is_rung idle) ∙ rung))
none_rung r ring false e is rung idle = absurd (false≢true is)

pub empty_ring : (ring : List Ringed) → All (λ r. is_rung r.progress ≡ true) ring → ((tag : ℕ) → progress_of ring tag ≡ Idle) → ring ≡ []
empty_ring [] all idle = refl
empty_ring (r ∷ ring) all idle =
    none_rung r ring (r.slot == r.slot) refl (eq-eqb r.slot r.slot refl) (All-head (λ r. is_rung r.progress ≡ true) r ring all) (idle r.slot)

pub lone_ring : (ring : List Ringed) (slot : ℕ) → All (λ r. is_rung r.progress ≡ true) ring → ((tag : ℕ) → tag ≢ slot → progress_of ring tag ≡ Idle)
    → without ring slot ≡ []
lone_ring ring slot all idle =
    empty_ring (without ring slot) (All-filter (λ r. not (r.slot == slot)) (λ r. is_rung r.progress ≡ true) ring all)
    (λ tag.
    elim (eqb_tells tag slot) [
      | inl e ↦ ap (progress_of (without ring slot)) e.1 ∙ without-same ring slot
      | inr e ↦ without-other ring slot tag e.1 ∙ idle tag e.1
    ])

none_left : (x : ℕ) (xs ys : List ℕ) (b : Bool) → cond b (x ∷ xs) xs ≡ [] → (xs ≡ [] → ys ≡ []) → cond b (x ∷ ys) ys ≡ []
none_left x xs ys true e f = absurd (cc e)
none_left x xs ys false e f = f e

filter_take : (f : ℕ → Bool) (n : ℕ) (xs : List ℕ) → filter f xs ≡ [] → filter f (take n xs) ≡ []
filter_take f zero xs e = refl
filter_take f (suc n) [] e = refl
filter_take f (suc n) (x ∷ xs) e = none_left x (filter f xs) (filter f (take n xs)) (f x) e (filter_take f n xs)

ring_order : (slot : ℕ) (r : Ringed) (ring : List Ringed) (ys : List ℕ) (b : Bool) → cond b (r ∷ ring) ring ≡ [] → (ring ≡ [] → ys ≡ []) → cond b (r.slot ∷ ys) ys ≡ []
ring_order slot r ring ys true e f = absurd (cc e)
ring_order slot r ring ys false e f = f e

slots_none : (ring : List Ringed) (slot : ℕ) → without ring slot ≡ [] → filter (λ other. not (other == slot)) (map (λ (r : Ringed). r.slot) ring) ≡ []
slots_none [] slot e = refl
slots_none (r ∷ ring) slot e =
    ring_order slot r (without ring slot) (filter (λ other. not (other == slot)) (map (λ (r : Ringed). r.slot) ring)) (not (r.slot == slot)) e (slots_none ring slot)

pub order_none : (ring : List Ringed) (slot : ℕ) → without ring slot ≡ [] → filter (λ other. not (other == slot)) (order_of ring) ≡ []
order_none ring slot e = filter_take (λ other. not (other == slot)) 32 (map (λ r. r.slot) ring) (slots_none ring slot e)

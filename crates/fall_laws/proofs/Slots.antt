-- What is left of the slots' tasks, where one slot or its place has less.
use Rattle.std.proofs.Common.{◌≡◌, ◌≢◌, ◌<◌, ◌≤◌, ◌+◌, ℕ, refl, sym, ◌∙◌, ap, subst, arith, zero-add, inl, inr}
use Rattle.std.specs.Prelude.{Bool, true, false, Option, Some, None, cond, List, sum_by}
use Rattle.std.specs.Option.{option_map_or}
use Rattle.std.proofs.lemmas.Bool.{eq-eqb}
use Rattle.std.proofs.lemmas.Bool.Decides.{eqb_tells}
use Rattle.std.proofs.lemmas.List.FromFn.{get_or-map-range_with_len}
use Rattle.cq_regs.specs.declared.slots.Progress.{Progress}
use Rattle.cq_regs.specs.declared.slots.Progress.TheVariants.{Idle, Rung, Named, Sent, Ready, Active}
use Rattle.cq_regs.specs.declared.slots.Ringed.{Ringed}
use Rattle.cq_regs.specs.State.{Registers}
use Rattle.cq_regs.specs.Slots.{advanced, next, progress_of, without}
use Rattle.cq_regs.proofs.ProgressLaws.{progress_advanced}
use Rattle.cq_engine.proofs.SlotLaws.{advanced-other, without-other, without-same}
use Rattle.cq_schedule.specs.declared.held.HeldTask.{HeldTask}
use Rattle.cq_schedule.specs.Held.{Places, held_at, kept, left_at, noted, remembered, same, slots}
use Rattle.world_state.specs.Work.{events_left}
use Rattle.host_falls.proofs.Sums.{slots_le, slots_less}

-- the blocks of a task, and those that moved
abbrev pub blocks_in : Option HeldTask → ℕ
blocks_in place = option_map_or (λ h. h.task.desc.blocks) place 0

abbrev pub moved_in : Option HeldTask → ℕ
moved_in place = option_map_or (λ h. h.moved) place 0

abbrev pub todo : Progress → Option HeldTask → ℕ
todo p place = events_left p (blocks_in place) (moved_in place)

abbrev pub todo_at : Places → List Ringed → ℕ → ℕ
todo_at held ring slot = todo (progress_of ring slot) (held_at held slot)

abbrev pub tasks_left : Places → List Ringed → ℕ
tasks_left held ring = sum_by (todo_at held ring) slots

-- only one slot changed, and it has less to do
pub one_less : (held held' : Places) (ring ring' : List Ringed) (slot : ℕ) → slot < 32
    → ((other : ℕ) → other ≢ slot → progress_of ring' other ≡ progress_of ring other)
    → ((other : ℕ) → other ≢ slot → held_at held' other ≡ held_at held other)
    → todo_at held' ring' slot + 1 ≤ todo_at held ring slot → tasks_left held' ring' + 1 ≤ tasks_left held ring
one_less held held' ring ring' slot below rings helds less =
    slots_less (todo_at held' ring') (todo_at held ring) slot 1
    (λ s within.
    elim (eqb_tells s slot) [
      | inl t ↦
          let P : ℕ → Type 0 = λ n. todo_at held' ring' n ≤ todo_at held ring n in
          let here : todo_at held' ring' slot ≤ todo_at held ring slot = omega (arith, less) in
          subst P (sym t.1) here
      | inr t ↦
          let e : todo_at held' ring' s ≡ todo_at held ring s =
          ap (λ p. todo p (held_at held' s)) (rings s t.1) ∙ ap (todo (progress_of ring s)) (helds s t.1) in
          omega (arith, e)
    ]) below less

pub advanced-same : (ring : List Ringed) (slot : ℕ) → progress_of (advanced ring slot) slot ≡ next (progress_of ring slot)
advanced-same ring slot =
    progress_advanced ring slot slot ∙ ap (λ b. cond b (next (progress_of ring slot)) (progress_of ring slot)) (eq-eqb slot slot refl)

-- a slot that had come to `p` moved on
pub advanced_less : (held held' : Places) (ring : List Ringed) (slot : ℕ) (p : Progress) → slot < 32 → progress_of ring slot ≡ p
    → ((other : ℕ) → other ≢ slot → held_at held' other ≡ held_at held other)
    → todo (next p) (held_at held' slot) + 1 ≤ todo p (held_at held slot) → tasks_left held' (advanced ring slot) + 1 ≤ tasks_left held ring
advanced_less held held' ring slot p below is helds less =
    let now : todo_at held' (advanced ring slot) slot ≡ todo (next p) (held_at held' slot) =
    ap (λ q. todo q (held_at held' slot)) (advanced-same ring slot ∙ ap next is) in
    let was : todo_at held ring slot ≡ todo p (held_at held slot) = ap (λ q. todo q (held_at held slot)) is in
    one_less held held' ring (advanced ring slot) slot below (λ other apart. advanced-other ring slot other apart) helds (omega (arith, now, was, less))

-- a slot that had something to do is idle
pub without_less : (held held' : Places) (ring : List Ringed) (slot : ℕ) → slot < 32
    → ((other : ℕ) → other ≢ slot → held_at held' other ≡ held_at held other)
    → 1 ≤ todo_at held ring slot → tasks_left held' (without ring slot) + 1 ≤ tasks_left held ring
without_less held held' ring slot below helds more =
    let now : todo_at held' (without ring slot) slot ≡ 0 = ap (λ q. todo q (held_at held' slot)) (without-same ring slot) in
    one_less held held' ring (without ring slot) slot below (λ other apart. without-other ring slot other apart) helds (omega (arith, now, more))

-- what the engine forgets and notes
todo_left : (p : Progress) (place : Option HeldTask) → todo p (left_at p place) ≡ todo p place
todo_left p None = refl
todo_left Idle (Some held) = refl
todo_left Rung (Some held) = refl
todo_left Named (Some held) = refl
todo_left Sent (Some held) = refl
todo_left Ready (Some held) = refl
todo_left Active (Some held) = refl

least : (p : Progress) (blocks moved : ℕ) → events_left p 0 0 ≤ events_left p blocks moved
least Idle blocks moved = omega arith
least Rung blocks moved = omega arith
least Named blocks moved = omega arith
least Sent blocks moved = omega arith
least Ready blocks moved = omega arith
least Active blocks moved = omega arith

todo_kept : (p : Progress) (place : Option HeldTask) → todo p (kept p place) ≤ todo p place
todo_kept p None = omega arith
todo_kept p (Some held) = by (same held.progress p)
  where
    by : (b : Bool) → todo p (cond b (Some held) None) ≤ todo p (Some held)
    by true = omega arith
    by false = least p held.task.desc.blocks held.moved

remembered-at : (held : Places) (regs : Registers) (s : ℕ) → s < 32
    → held_at (remembered held regs) s ≡ kept (progress_of regs.ring s) (held_at held s)
unfolding slots
remembered-at held regs s below =
    get_or-map-range_with_len (λ slot. kept (progress_of regs.ring slot) (held_at held slot)) 0 32 s s None below (zero-add s)

noted-at : (held : Places) (regs : Registers) (s : ℕ) → s < 32
    → held_at (noted held regs) s ≡ left_at (progress_of regs.ring s) (held_at held s)
unfolding slots
noted-at held regs s below =
    get_or-map-range_with_len (λ slot. left_at (progress_of regs.ring slot) (held_at held slot)) 0 32 s s None below (zero-add s)

pub remembered_most : (held : Places) (regs : Registers) → tasks_left (remembered held regs) regs.ring ≤ tasks_left held regs.ring
remembered_most held regs =
    slots_le (todo_at (remembered held regs) regs.ring) (todo_at held regs.ring)
    (λ s below.
    let e : todo_at (remembered held regs) regs.ring s ≡ todo (progress_of regs.ring s) (kept (progress_of regs.ring s) (held_at held s)) =
    ap (todo (progress_of regs.ring s)) (remembered-at held regs s below) in
    let most = todo_kept (progress_of regs.ring s) (held_at held s) in
    omega (arith, e, most))

pub noted_most : (held : Places) (regs : Registers) → tasks_left (noted held regs) regs.ring ≤ tasks_left held regs.ring
noted_most held regs =
    slots_le (todo_at (noted held regs) regs.ring) (todo_at held regs.ring)
    (λ s below.
    let e : todo_at (noted held regs) regs.ring s ≡ todo_at held regs.ring s =
    ap (todo (progress_of regs.ring s)) (noted-at held regs s below) ∙ todo_left (progress_of regs.ring s) (held_at held s) in
    omega (arith, e))

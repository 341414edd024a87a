-- How much the engine has left to do, as a number: the sum over the 32 slots, by how far each is and by the blocks of its task.
use Rattle.std.proofs.Common.{◌≡◌, ◌≢◌, ◌<◌, ◌≤◌, ◌+◌, ◌-◌, ℕ, zero, suc, refl, sym, ◌∙◌, ap, subst, arith, zero-add, inl, inr, ⊎_elim}
use Rattle.std.specs.Prelude.{true, Option, Some, None, cond, List}
use Rattle.std.specs.Option.{option_map_or}
use Rattle.std.proofs.lemmas.Bool.{eq-eqb, cases_lt}
use Rattle.std.proofs.lemmas.Bool.Decides.{eqb_tells}
use Rattle.std.proofs.lemmas.List.FromFn.{get_or-map-range_with_len}
use Rattle.cq_regs.specs.declared.slots.Progress.{Progress}
use Rattle.cq_regs.specs.declared.slots.Progress.TheVariants.{Idle, Rung, Named, Sent, Ready, Active}
use Rattle.cq_regs.specs.declared.slots.Ringed.{Ringed}
use Rattle.cq_regs.specs.State.{Registers}
use Rattle.cq_regs.specs.Slots.{advanced, next, progress_of, without}
use Rattle.cq_regs.proofs.ProgressLaws.{progress_advanced}
use Rattle.cq_engine.proofs.SlotLaws.{advanced-other, without-other, without-same}
use Rattle.cq_schedule.specs.declared.held.HeldTask.{HeldTask}
use Rattle.cq_schedule.specs.Held.{Places, held_at, kept, left_at, noted, remembered, same, slots}
use Rattle.cq_schedule.proofs.Progresses.{same-refl}

-- the blocks of a task, and those that moved
abbrev pub blocks_in : Option HeldTask → ℕ
blocks_in place = option_map_or (λ h. h.task.desc.blocks) place 0

abbrev pub moved_in : Option HeldTask → ℕ
moved_in place = option_map_or (λ h. h.moved) place 0

-- what is left to do for a slot; a task has at most 65,535 blocks, which are not known before it is read
abbrev pub todo : Progress → Option HeldTask → ℕ
todo Idle place = 0
todo Rung place = 65540
todo Named place = blocks_in place + 4
todo Sent place = blocks_in place + 3
todo Ready place = blocks_in place + 2
todo Active place = blocks_in place - moved_in place + 1

abbrev pub todo_at : Places → List Ringed → ℕ → ℕ
todo_at held ring slot = todo (progress_of ring slot) (held_at held slot)

unfoldable pub sum_below : (ℕ → ℕ) → ℕ → ℕ
sum_below f zero = 0
sum_below f (suc n) = sum_below f n + f n

unfoldable pub work_left : Places → List Ringed → ℕ
work_left held ring = sum_below (todo_at held ring) 32

sum_le : (f g : ℕ → ℕ) (n : ℕ) → ((s : ℕ) → s < n → f s ≤ g s) → sum_below f n ≤ sum_below g n
unfolding sum_below
sum_le f g zero h = omega arith
sum_le f g (suc n) h =
    let here : f n ≤ g n = h n (omega arith) in
    let rest : sum_below f n ≤ sum_below g n = sum_le f g n (λ s below. h s (omega arith)) in
    omega arith

sum_lt : (f g : ℕ → ℕ) (n k : ℕ) → ((s : ℕ) → s < n → f s ≤ g s) → k < n → f k < g k → sum_below f n < sum_below g n
unfolding sum_below
sum_lt f g zero k h below less = absurd (omega arith)
sum_lt f g (suc n) k h below less =
    let here : f n ≤ g n = h n (omega arith) in
    let rest : sum_below f n ≤ sum_below g n = sum_le f g n (λ s below. h s (omega arith)) in
    ⊎_elim
    (λ near. let falls : sum_below f n < sum_below g n = sum_lt f g n k (λ s below. h s (omega arith)) near less in omega arith)
    (λ far.
    let last : k ≡ n = omega arith in
    let P : ℕ → Type 0 = λ m. f m < g m in
    let falls : f n < g n = subst P last less in
    omega arith) (cases_lt k n)

-- no slot has more to do, and one has less
pub record Falls (held held' : Places) (ring ring' : List Ringed) : Type 0 where
  pub least : (s : ℕ) → s < 32 → todo_at held' ring' s ≤ todo_at held ring s
  pub slot : ℕ
  pub below : slot < 32
  pub less : todo_at held' ring' slot < todo_at held ring slot

pub work_falls : (held held' : Places) (ring ring' : List Ringed) → Falls held held' ring ring' → work_left held' ring' < work_left held ring
unfolding work_left
work_falls held held' ring ring' f = sum_lt (todo_at held' ring') (todo_at held ring) 32 f.slot f.least f.below f.less

todo_left : (p : Progress) (place : Option HeldTask) → todo p (left_at p place) ≡ todo p place
todo_left p None = refl
todo_left Idle (Some held) = refl
todo_left Rung (Some held) = refl
todo_left Named (Some held) = refl
todo_left Sent (Some held) = refl
todo_left Ready (Some held) = refl
todo_left Active (Some held) = refl

pub remembered-at : (held : Places) (regs : Registers) (s : ℕ) → s < 32
    → held_at (remembered held regs) s ≡ kept (progress_of regs.ring s) (held_at held s)
unfolding slots
remembered-at held regs s below =
    get_or-map-range_with_len (λ slot. kept (progress_of regs.ring slot) (held_at held slot)) 0 32 s s None below (zero-add s)

pub noted-at : (held : Places) (regs : Registers) (s : ℕ) → s < 32
    → held_at (noted held regs) s ≡ left_at (progress_of regs.ring s) (held_at held s)
unfolding slots
noted-at held regs s below =
    get_or-map-range_with_len (λ slot. left_at (progress_of regs.ring slot) (held_at held slot)) 0 32 s s None below (zero-add s)

pub kept-left : (p : Progress) (place : Option HeldTask) → kept p (left_at p place) ≡ left_at p place
kept-left p None = refl
kept-left p (Some held) = let e : same p p ≡ true = same-refl p in ap (λ b. cond b (Some (record held { progress = p })) None) e

-- what the engine notes it remembers, and has as much to do for
pub work_noted : (held : Places) (regs : Registers) → work_left (remembered (noted held regs) regs) regs.ring ≤ work_left held regs.ring
unfolding work_left
work_noted held regs =
    sum_le (todo_at (remembered (noted held regs) regs) regs.ring) (todo_at held regs.ring) 32
    (λ s below.
    let p = progress_of regs.ring s in
    let e : held_at (remembered (noted held regs) regs) s ≡ left_at p (held_at held s) =
    remembered-at (noted held regs) regs s below ∙ ap (kept p) (noted-at held regs s below) ∙ kept-left p (held_at held s) in
    let f : todo_at (remembered (noted held regs) regs) regs.ring s ≡ todo_at held regs.ring s =
    ap (todo p) e ∙ todo_left p (held_at held s) in
    omega arith)

-- only one slot changed, and it has less to do
pub one_falls : (held held' : Places) (ring ring' : List Ringed) (slot : ℕ) → slot < 32
    → ((other : ℕ) → other ≢ slot → progress_of ring' other ≡ progress_of ring other)
    → ((other : ℕ) → other ≢ slot → held_at held' other ≡ held_at held other)
    → todo_at held' ring' slot < todo_at held ring slot → Falls held held' ring ring'
one_falls held held' ring ring' slot below rings helds less = record {
  least = λ s within.
      elim (eqb_tells s slot) [
        | inl t ↦
            let P : ℕ → Type 0 = λ n. todo_at held' ring' n ≤ todo_at held ring n in
            let here : todo_at held' ring' slot ≤ todo_at held ring slot = omega arith in
            subst P (sym t.1) here
        | inr t ↦
            let e : todo_at held' ring' s ≡ todo_at held ring s =
            ap (λ p. todo p (held_at held' s)) (rings s t.1) ∙ ap (todo (progress_of ring s)) (helds s t.1) in
            omega arith
      ];
  slot = slot;
  below = below;
  less = less;
}

pub advanced-same : (ring : List Ringed) (slot : ℕ) → progress_of (advanced ring slot) slot ≡ next (progress_of ring slot)
advanced-same ring slot =
    progress_advanced ring slot slot ∙ ap (λ b. cond b (next (progress_of ring slot)) (progress_of ring slot)) (eq-eqb slot slot refl)

-- a slot that had come to `p` moved on
pub advanced_falls : (held held' : Places) (ring : List Ringed) (slot : ℕ) (p : Progress) → slot < 32 → progress_of ring slot ≡ p
    → ((other : ℕ) → other ≢ slot → held_at held' other ≡ held_at held other)
    → todo (next p) (held_at held' slot) < todo p (held_at held slot) → Falls held held' ring (advanced ring slot)
advanced_falls held held' ring slot p below is helds less =
    one_falls held held' ring (advanced ring slot) slot below (λ other apart. advanced-other ring slot other apart) helds
    (rw (advanced-same ring slot, is) less)

-- a slot that had something to do is idle
pub without_falls : (held held' : Places) (ring : List Ringed) (slot : ℕ) → slot < 32
    → ((other : ℕ) → other ≢ slot → held_at held' other ≡ held_at held other)
    → 0 < todo_at held ring slot → Falls held held' ring (without ring slot)
without_falls held held' ring slot below helds more =
    one_falls held held' ring (without ring slot) slot below (λ other apart. without-other ring slot other apart) helds
    (rw (without-same ring slot) more)

-- Each step of an event leaves the tasks held that have to be, and their pieces in the memory.
use Rattle.std.proofs.Common.{◌≡◌, ◌≢◌, ◌⊎◌, ℕ, sym, ◌∙◌, ap, subst, inl, inr}
use Rattle.std.specs.Prelude.{true, Option, IsSome}
use Rattle.std.proofs.lemmas.Bool.{false≢true}
use Rattle.std.proofs.lemmas.Bool.Decides.{eqb_tells}
use Rattle.cq_regs.specs.declared.slots.Progress.{Progress}
use Rattle.cq_regs.specs.declared.slots.Progress.TheVariants.{Idle}
use Rattle.cq_regs.specs.State.{Registers}
use Rattle.cq_regs.specs.Slots.{advanced, progress_of, without}
use Rattle.cq_schedule.specs.declared.held.HeldTask.{HeldTask}
use Rattle.cq_schedule.specs.Held.{Places, held_at}
use Rattle.cq_schedule.specs.Holding.{HasTasks, HoldsTasks, is_begun}
use Rattle.cq_engine.proofs.Places.{is_some}
use Rattle.cq_engine.proofs.SlotLaws.{advanced-other, without-other, without-same}

-- a slot that is begun has its task, or was begun before and its place is what it was
abbrev pub Stays : (held held' : Places) (regs regs' : Registers) (other : ℕ) → Type 0
Stays held held' regs regs' other =
    is_begun (progress_of regs'.ring other) ≡ true
    → IsSome (held_at held' other) ⊎ ((is_begun (progress_of regs.ring other) ≡ true) × (held_at held' other ≡ held_at held other))

pub has_stayed : (held held' : Places) (regs regs' : Registers) → HasTasks held regs → regs'.stopped ≡ regs.stopped
    → ((other : ℕ) → Stays held held' regs regs' other) → HasTasks held' regs'
has_stayed held held' regs regs' has same stays runs other below begun =
    elim (stays other begun) [
      | inl h ↦ h
      | inr h ↦
          let P : Option HeldTask → Type 0 = λ o. IsSome o in
          subst P (sym h.1) (has (sym same ∙ runs) other below h.0)
    ]

pub holds_has : (held : Places) (regs : Registers) → HoldsTasks held regs → HasTasks held regs
holds_has held regs holds runs slot below begun = is_some (held_at held slot) (λ h. h.progress ≡ progress_of regs.ring slot) (holds runs slot below begun)

begun_along : (p q : Progress) → p ≡ q → is_begun p ≡ true → is_begun q ≡ true
begun_along p q e h = let P : Progress → Type 0 = λ v. is_begun v ≡ true in subst P e h

-- one slot moved on, and its place is filled
pub has_advanced : (held held' : Places) (regs regs' : Registers) (slot : ℕ) → HasTasks held regs → regs'.stopped ≡ regs.stopped
    → regs'.ring ≡ advanced regs.ring slot → IsSome (held_at held' slot) → ((other : ℕ) → other ≢ slot → held_at held' other ≡ held_at held other)
    → HasTasks held' regs'
has_advanced held held' regs regs' slot has same ring filled others =
    has_stayed held held' regs regs' has same
    (λ other begun.
    elim (eqb_tells other slot) [
      | inl t ↦ let P : ℕ → Type 0 = λ n. IsSome (held_at held' n) in inl (subst P (sym t.1) filled)
      | inr t ↦
          let moved : progress_of regs'.ring other ≡ progress_of regs.ring other =
          ap (λ r. progress_of r other) ring ∙ advanced-other regs.ring slot other t.1 in
          inr (begun_along (progress_of regs'.ring other) (progress_of regs.ring other) moved begun, others other t.1)
    ])

-- one slot is idle
pub has_without : (held held' : Places) (regs regs' : Registers) (slot : ℕ) → HasTasks held regs → regs'.stopped ≡ regs.stopped
    → regs'.ring ≡ without regs.ring slot → ((other : ℕ) → other ≢ slot → held_at held' other ≡ held_at held other)
    → HasTasks held' regs'
has_without held held' regs regs' slot has same ring others =
    has_stayed held held' regs regs' has same
    (λ other begun.
    elim (eqb_tells other slot) [
      | inl t ↦
          let idle : progress_of regs'.ring other ≡ Idle =
          ap (λ r. progress_of r other) ring ∙ ap (progress_of (without regs.ring slot)) t.1 ∙ without-same regs.ring slot in
          absurd (false≢true (begun_along (progress_of regs'.ring other) Idle idle begun))
      | inr t ↦
          let moved : progress_of regs'.ring other ≡ progress_of regs.ring other =
          ap (λ r. progress_of r other) ring ∙ without-other regs.ring slot other t.1 in
          inr (begun_along (progress_of regs'.ring other) (progress_of regs.ring other) moved begun, others other t.1)
    ])

-- no slot begins, and each place that was filled is
pub has_same : (held held' : Places) (regs regs' : Registers) → HasTasks held regs → regs'.stopped ≡ regs.stopped
    → ((other : ℕ) → is_begun (progress_of regs'.ring other) ≡ is_begun (progress_of regs.ring other))
    → ((other : ℕ) → IsSome (held_at held other) → IsSome (held_at held' other)) → HasTasks held' regs'
has_same held held' regs regs' has same begins filled runs other below begun =
    filled other (has (sym same ∙ runs) other below (sym (begins other) ∙ begun))

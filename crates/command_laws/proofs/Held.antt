-- What the engine holds of a slot between two events and at an event's begin.
use Rattle.std.proofs.Common.{◌≡◌, ◌<◌, ℕ, true, cond, refl, sym, ◌∙◌, ap, subst, zero-add}
use Rattle.std.specs.Prelude.{Option, Some, None}
use Rattle.std.specs.Option.{IsSomeAnd, option_map}
use Rattle.std.proofs.lemmas.List.FromFn.{get_or-map-range_with_len}
use Rattle.cq_regs.specs.declared.slots.Progress.{Progress}
use Rattle.cq_regs.specs.State.{Registers}
use Rattle.cq_regs.specs.Slots.{progress_of}
use Rattle.cq_schedule.specs.declared.held.HeldTask.{HeldTask}
use Rattle.cq_schedule.specs.Held.{Places, held_at, kept, left_at, noted, remembered, same, slots}
use Rattle.cq_schedule.proofs.Progresses.{same-refl}

-- what is there, and what is said of it
pub record Found {A : Type 0} (o : Option A) (P : A → Type 0) : Type 0 where
  pub value : A
  pub is : o ≡ Some value
  pub has : P value

pub found : {A : Type 0} (o : Option A) (P : A → Type 0) → IsSomeAnd o P → Found o P
found None P h = absurd h
found (Some x) P h = record { value = x; is = refl; has = h }

pub found_and : {A : Type 0} (o : Option A) (P : A → Type 0) (x : A) → o ≡ Some x → P x → IsSomeAnd o P
found_and {A = A} o P x e h = let Q : Option A → Type 0 = λ v. IsSomeAnd v P in subst Q (sym e) h

pub some_map : {A : Type 0} (o : Option A) (P Q : A → Type 0) → ((x : A) → P x → Q x) → IsSomeAnd o P → IsSomeAnd o Q
some_map None P Q f h = absurd h
some_map (Some x) P Q f h = f x h

pub remembered-at : (held : Places) (regs : Registers) (s : ℕ) → s < 32
    → held_at (remembered held regs) s ≡ kept (progress_of regs.ring s) (held_at held s)
unfolding slots
remembered-at held regs s below =
    get_or-map-range_with_len (λ slot. kept (progress_of regs.ring slot) (held_at held slot)) 0 32 s s None below (zero-add s)

pub noted-at : (held : Places) (regs : Registers) (s : ℕ) → s < 32
    → held_at (noted held regs) s ≡ left_at (progress_of regs.ring s) (held_at held s)
unfolding slots
noted-at held regs s below =
    get_or-map-range_with_len (λ slot. left_at (progress_of regs.ring slot) (held_at held slot)) 0 32 s s None below (zero-add s)

-- a task that is as far as its slot stays
pub kept-same : (progress : Progress) (place : Option HeldTask) → IsSomeAnd place (λ h. h.progress ≡ progress) → kept progress place ≡ place
kept-same progress None h = absurd h
kept-same progress (Some held) h =
    let passes : same held.progress progress ≡ true = ap (λ p. same p progress) h ∙ same-refl progress in
    ap (λ b. cond b (Some held) None) passes

-- so at an event's begin the task is the one that was held
pub remembered-same : (held : Places) (regs : Registers) (s : ℕ) → s < 32 → IsSomeAnd (held_at held s) (λ h. h.progress ≡ progress_of regs.ring s)
    → held_at (remembered held regs) s ≡ held_at held s
remembered-same held regs s below h = remembered-at held regs s below ∙ kept-same (progress_of regs.ring s) (held_at held s) h

-- what is told of a task doesn't hang on how far it is
pub left-told : {A : Type 0} (f : HeldTask → A) (progress : Progress) (place : Option HeldTask)
    → ((h : HeldTask) → f (record h { progress = progress }) ≡ f h) → option_map f (left_at progress place) ≡ option_map f place
left-told f progress None same = refl
left-told f progress (Some held) same = ap (λ x. Some x) (same held)

pub left-some : (progress : Progress) (place : Option HeldTask) (P Q : HeldTask → Type 0)
    → ((h : HeldTask) → P h → Q (record h { progress = progress })) → IsSomeAnd place P → IsSomeAnd (left_at progress place) Q
left-some progress None P Q f h = absurd h
left-some progress (Some held) P Q f h = f held h

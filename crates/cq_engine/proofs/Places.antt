-- What places hold after one of them was written.
use Rattle.std.proofs.Common.{◌≡◌, ◌≢◌, ◌<◌, ℕ, length, refl, subst}
use Rattle.std.specs.Prelude.{Option, Some, None, IsSome, slice_set}
use Rattle.std.specs.Option.{IsSomeAnd}
use Rattle.std.proofs.lemmas.List.{get_or-set_other, get_or-set_same, get_or-replicate}
use Rattle.std.proofs.lemmas.List.FromFn.{length-map-range_with_len}
use Rattle.cq_regs.specs.State.{Registers}
use Rattle.cq_regs.specs.Slots.{progress_of}
use Rattle.cq_schedule.specs.declared.held.HeldTask.{HeldTask}
use Rattle.cq_schedule.specs.Held.{Places, held_at, kept, none_held, remembered, slots}

pub of-some : {A : Type 0} (o : Option A) (x : A) (P : A → Type 0) → o ≡ Some x → IsSomeAnd o P → P x
of-some {A = A} o x P e p = let Q : Option A → Type 0 = λ v. IsSomeAnd v P in subst Q e p

pub is_some : {A : Type 0} (o : Option A) (P : A → Type 0) → IsSomeAnd o P → IsSome o
is_some None P h = absurd h
is_some (Some x) P h = refl

pub set-other : (held : Places) (slot other : ℕ) (place : Option HeldTask) → other ≢ slot
    → held_at (slice_set held slot place) other ≡ held_at held other
set-other held slot other place apart = get_or-set_other held slot other place None apart

pub set-same : (held : Places) (slot : ℕ) (place : Option HeldTask) → slot < length held → held_at (slice_set held slot place) slot ≡ place
set-same held slot place below = get_or-set_same held slot place None below

pub length-remembered : (held : Places) (regs : Registers) → length (remembered held regs) ≡ 32
unfolding slots
length-remembered held regs = length-map-range_with_len (λ slot. kept (progress_of regs.ring slot) (held_at held slot)) 0 32

pub none_held-at : (slot : ℕ) → slot < 32 → held_at none_held slot ≡ None
none_held-at slot below = get_or-replicate {A = Option HeldTask} 32 slot None None below

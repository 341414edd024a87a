-- The tasks that stay held.
use Rattle.std.proofs.Common.{◌≡◌, ℕ, ◌<◌, true, refl, sym, subst}
use Rattle.std.specs.Prelude.{Option, Some, None, IsSome, cond}
use Rattle.std.specs.Option.{IsSomeAnd}
use Rattle.std.proofs.lemmas.Bool.{false≢true}
use Rattle.cq_regs.specs.declared.slots.Progress.{Progress}
use Rattle.cq_regs.specs.State.{Registers}
use Rattle.cq_regs.specs.Slots.{progress_of}
use Rattle.cq_schedule.specs.declared.held.HeldTask.{HeldTask}
use Rattle.cq_schedule.specs.Held.{Places, held_at, same, kept, left_at}
use Rattle.cq_schedule.specs.Holding.{HoldsTasks, HasTasks}
use Rattle.cq_schedule.proofs.Progresses.{same-refl}

-- a task that is as far as its slot stays
kept-same : (progress : Progress) (held : Option HeldTask) → IsSomeAnd held (λ h. h.progress ≡ progress)
    → IsSomeAnd (kept progress held) (λ h. h.progress ≡ progress)
kept-same progress None h = h
kept-same progress (Some held) h =
    let passes : same held.progress progress ≡ true = rw h (same-refl progress) in
    subst (λ b. IsSomeAnd (cond b (Some held) None) (λ h. h.progress ≡ progress)) (sym passes) h

pub HoldsTasks-remembered : (old new : Places) (regs : Registers)
    → ((slot : ℕ) → slot < 32 → held_at new slot ≡ kept (progress_of regs.ring slot) (held_at old slot)) → HoldsTasks old regs → HoldsTasks new regs
HoldsTasks-remembered old new regs each holds runs slot below begun =
    subst (λ held. IsSomeAnd held (λ h. h.progress ≡ progress_of regs.ring slot)) (sym (each slot below))
    (kept-same (progress_of regs.ring slot) (held_at old slot) (holds runs slot below begun))

left_at-progress : (progress : Progress) (held : Option HeldTask) → IsSome held → IsSomeAnd (left_at progress held) (λ h. h.progress ≡ progress)
left_at-progress progress None h = absurd (false≢true h)
left_at-progress progress (Some held) h = refl

pub HoldsTasks-noted : (old new : Places) (regs : Registers)
    → ((slot : ℕ) → slot < 32 → held_at new slot ≡ left_at (progress_of regs.ring slot) (held_at old slot)) → HasTasks old regs → HoldsTasks new regs
HoldsTasks-noted old new regs each has runs slot below begun =
    subst (λ held. IsSomeAnd held (λ h. h.progress ≡ progress_of regs.ring slot)) (sym (each slot below))
    (left_at-progress (progress_of regs.ring slot) (held_at old slot) (has runs slot below begun))

-- What completing, ticking, advancing and polling leave of the slots and of the stop.
use Rattle.std.proofs.Common.{◌≡◌, ◌≢◌, ◌==◌, ◌&&◌, ℕ, Bool, true, false, cond, refl, ◌∙◌, ap}
use Rattle.std.proofs.lemmas.Bool.{eq-eqb, ne_eqb}
use Rattle.cq_regs.specs.declared.slots.Progress.{Progress}
use Rattle.cq_regs.specs.declared.slots.Progress.TheVariants.{Idle, Rung, Named, Sent, Ready, Active}
use Rattle.cq_regs.specs.declared.slots.Ringed.{Ringed}
use Rattle.std.specs.Prelude.{List}
use Rattle.std.specs.Int.RustNames.{bit_or}
use Rattle.std.specs.Prelude.{◌^◌}
use Rattle.cq_regs.specs.State.{Registers}
use Rattle.cq_regs.specs.Slots.{advanced, has_bit, made_ready, next, progress_of, readied, without}
use Rattle.cq_regs.specs.Coalesce.{counted, reaches, restarted, ticked}
use Rattle.cq_regs.specs.Effects.{completed, counted_in, noticed_if, notified, raised, task_complete, ticked_in, with_coalescing}
use Rattle.cq_regs.proofs.ProgressLaws.{progress_advanced, progress_made_ready, progress_without}
use Rattle.cq_schedule.specs.Holding.{is_begun}

-- the same slots are rung, and the stop is the same
pub record IsSame (old new : Registers) : Type 0 where
  pub ring : new.ring ≡ old.ring
  pub stopped : new.stopped ≡ old.stopped

itself : (regs : Registers) → IsSame regs regs
itself regs = record { ring = refl; stopped = refl }

either : (regs first second : Registers) (b : Bool) → IsSame regs first → IsSame regs second → IsSame regs (cond b first second)
either regs first second true s t = s
either regs first second false s t = t

noticed : (regs : Registers) (due : Bool) → IsSame regs (noticed_if regs due)
noticed regs due =
    either regs (record (raised regs task_complete) { coalescing = restarted regs.coalescing }) regs (due && has_bit regs.status_enable 1)
    (record { ring = refl; stopped = refl }) (itself regs)

counts : (regs : Registers) → IsSame regs (counted_in regs)
counts regs =
    let c = counted regs.coalescing in
    let s : IsSame (with_coalescing regs c) (noticed_if (with_coalescing regs c) (reaches c.counter c.threshold)) = noticed (with_coalescing regs c) (reaches c.counter c.threshold) in
    record { ring = s.ring; stopped = s.stopped }

notifies : (regs : Registers) (int : Bool) → IsSame regs (notified regs int)
notifies regs int =
    either regs (raised regs task_complete) (cond regs.coalescing.enabled (counted_in regs) regs) int (record { ring = refl; stopped = refl })
    (either regs (counted_in regs) regs regs.coalescing.enabled (counts regs) (itself regs))

pub ticks : (regs : Registers) → IsSame regs (ticked_in regs)
ticks regs =
    let c = ticked regs.coalescing in
    let s : IsSame (with_coalescing regs c) (noticed_if (with_coalescing regs c) (reaches c.timer c.timeout)) = noticed (with_coalescing regs c) (reaches c.timer c.timeout) in
    either regs regs (noticed_if (with_coalescing regs c) (reaches c.timer c.timeout)) (regs.coalescing.counter == 0) (itself regs)
    (record { ring = s.ring; stopped = s.stopped })

pub completes : (regs : Registers) (slot : ℕ) (int : Bool)
    → ((completed regs slot int).ring ≡ without regs.ring slot) × ((completed regs slot int).stopped ≡ regs.stopped)
completes regs slot int =
    let s = notifies (record regs { ring = without regs.ring slot; completed = bit_or regs.completed (2 ^ slot) }) int in
    (s.ring, s.stopped)

pub advanced-other : (ring : List Ringed) (slot other : ℕ) → other ≢ slot → progress_of (advanced ring slot) other ≡ progress_of ring other
advanced-other ring slot other apart =
    progress_advanced ring slot other
    ∙ ap (λ b. cond b (next (progress_of ring other)) (progress_of ring other)) (ne_eqb other slot apart)

pub without-other : (ring : List Ringed) (slot other : ℕ) → other ≢ slot → progress_of (without ring slot) other ≡ progress_of ring other
without-other ring slot other apart =
    progress_without ring slot other ∙ ap (λ b. cond b Idle (progress_of ring other)) (ne_eqb other slot apart)

pub without-same : (ring : List Ringed) (slot : ℕ) → progress_of (without ring slot) slot ≡ Idle
without-same ring slot =
    progress_without ring slot slot ∙ ap (λ b. cond b Idle (progress_of ring slot)) (eq-eqb slot slot refl)

readied-begun : (b : Bool) (progress : Progress) → is_begun (cond b (readied progress) progress) ≡ is_begun progress
readied-begun false progress = refl
readied-begun true Idle = refl
readied-begun true Rung = refl
readied-begun true Named = refl
readied-begun true Sent = refl
readied-begun true Ready = refl
readied-begun true Active = refl

pub made_ready-begun : (ring : List Ringed) (word other : ℕ)
    → is_begun (progress_of (made_ready ring word) other) ≡ is_begun (progress_of ring other)
made_ready-begun ring word other =
    ap is_begun (progress_made_ready ring word other) ∙ readied-begun (has_bit word other) (progress_of ring other)

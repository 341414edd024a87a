-- The pieces of the tasks that are held lie in the memory.
use Rattle.std.proofs.Common.{◌≡◌, ◌<◌, ℕ, length, refl, sym, subst, arith, inl, inr}
use Rattle.std.specs.Prelude.{◌↔◌, Bool, true, false, List, Result, Ok, Err, IsOk, OnOk, OnErr, Option, Some, None, IfSome, slice_set, cond}
use Rattle.std.specs.Option.{option_map}
use Rattle.std.proofs.lemmas.Bool.Decides.{eqb_tells}
use Rattle.host_mem.specs.Memory.{HasRange, Memory, with_bytes}
use Rattle.host_mem.specs.declared.memory.OutOfMemorySpace.{OutOfMemorySpace}
use Rattle.host_mem.proofs.MemoryLaws.{with_bytes-base, with_bytes-length}
use Rattle.piece_data.proofs.Kept.{inside-same_space}
use Rattle.piece_data.specs.Laws.{HasSameSpace}
use Rattle.cq_regs.specs.declared.slots.Progress.{Progress}
use Rattle.cq_regs.specs.State.{Registers}
use Rattle.cq_regs.specs.Slots.{progress_of}
use Rattle.cq_schedule.specs.declared.held.HeldTask.{HeldTask}
use Rattle.cq_schedule.specs.Held.{Places, held_at, kept, left_at, none_held, same, with_block}
use Rattle.cq_engine.specs.Holds.{LieIn, LiesIn}
use Rattle.cq_engine.proofs.Places.{none_held-at, set-other, set-same}

-- bytes that are copied into the memory, or were refused, leave its addresses
pub space_copied : (old new : Memory) (at : ℕ) (from : List ℕ) (result : Result (Unit {0}) OutOfMemorySpace)
    → (IsOk result ↔ HasRange old at (length from)) → OnOk result (new ≡ with_bytes old at from) → OnErr result (new ≡ old) → HasSameSpace old new
space_copied old new at from (Ok done) inside ok err =
    let P : Memory → Type 0 = λ m. HasSameSpace old m in
    subst P (sym ok) (record { base = with_bytes-base old at from; size = with_bytes-length old at from (inside.0 refl) })
space_copied old new at from (Err end) inside ok err =
    let P : Memory → Type 0 = λ m. HasSameSpace old m in subst P (sym err) (record { base = refl; size = refl })

abbrev pub Lies : Memory → Option HeldTask → Type 0
Lies memory place = IfSome place (λ h. LiesIn memory h.task)

lies_same : (old new : Memory) (place : Option HeldTask) → HasSameSpace old new → Lies old place → Lies new place
lies_same old new None space h = h
lies_same old new (Some held) space h =
    record { inside = inside-same_space old new held.task.pieces space h.inside; whole = h.whole }

pub lie_same : (old new : Memory) (held : Places) → HasSameSpace old new → LieIn old held → LieIn new held
lie_same old new held space lie slot below = lies_same old new (held_at held slot) space (lie slot below)

pub lie_set : (memory : Memory) (held : Places) (slot : ℕ) (place : Option HeldTask) → length held ≡ 32 → LieIn memory held → Lies memory place
    → LieIn memory (slice_set held slot place)
lie_set memory held slot place long lie h other below =
    let P : Option HeldTask → Type 0 = λ o. Lies memory o in
    elim (eqb_tells other slot) [
      | inl t ↦
          let inside : slot < length held = omega (arith, t.1, long) in
          let Q : ℕ → Type 0 = λ n. P (held_at (slice_set held slot place) n) in
          subst Q (sym t.1) (subst P (sym (set-same held slot place inside)) h)
      | inr t ↦ subst P (sym (set-other held slot other place t.1)) (lie other below)
    ]

pub lies_counted : (memory : Memory) (place : Option HeldTask) → Lies memory place → Lies memory (option_map with_block place)
lies_counted memory None h = h
lies_counted memory (Some held) h = h

lies_if : (memory : Memory) (held : HeldTask) (b : Bool) → Lies memory (Some held) → Lies memory (cond b (Some held) None)
lies_if memory held true h = h
lies_if memory held false h = tt

lies_kept : (memory : Memory) (progress : Progress) (place : Option HeldTask) → Lies memory place → Lies memory (kept progress place)
lies_kept memory progress None h = h
lies_kept memory progress (Some held) h =
    lies_if memory held (same held.progress progress) h

lies_left : (memory : Memory) (progress : Progress) (place : Option HeldTask) → Lies memory place → Lies memory (left_at progress place)
lies_left memory progress None h = h
lies_left memory progress (Some held) h = h

pub lie_remembered : (memory : Memory) (old new : Places) (regs : Registers)
    → ((slot : ℕ) → slot < 32 → held_at new slot ≡ kept (progress_of regs.ring slot) (held_at old slot)) → LieIn memory old → LieIn memory new
lie_remembered memory old new regs each lie slot below =
    let P : Option HeldTask → Type 0 = λ o. Lies memory o in
    subst P (sym (each slot below)) (lies_kept memory (progress_of regs.ring slot) (held_at old slot) (lie slot below))

pub lie_noted : (memory : Memory) (old new : Places) (regs : Registers)
    → ((slot : ℕ) → slot < 32 → held_at new slot ≡ left_at (progress_of regs.ring slot) (held_at old slot)) → LieIn memory old → LieIn memory new
lie_noted memory old new regs each lie slot below =
    let P : Option HeldTask → Type 0 = λ o. Lies memory o in
    subst P (sym (each slot below)) (lies_left memory (progress_of regs.ring slot) (held_at old slot) (lie slot below))

pub lie_none : (memory : Memory) → LieIn memory none_held
lie_none memory slot below =
    let P : Option HeldTask → Type 0 = λ o. Lies memory o in subst P (sym (none_held-at slot below)) tt

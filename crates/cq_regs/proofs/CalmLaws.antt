-- A write of a register leaves the tasks that are under way: no slot begins, and a stop ends only where all tasks are cleared.
use Rattle.std.proofs.Common.{◌≡◌, ◌==◌, ◌&&◌, ◌++◌, map, ℕ, Bool, true, false, cond, refl, sym, ◌∙◌, ap, subst}
use Rattle.std.specs.Prelude.{List, [], ◌∷◌, not, Option, Some, None, IfSome}
use Rattle.std.specs.List.{All, filter, find}
use Rattle.std.specs.Option.{IsSomeAnd, option_map_or}
use Rattle.std.proofs.lemmas.Bool.{false≢true, eqb-true}
use Rattle.std.proofs.lemmas.Nat.Bits.{bit_at-zero}
use Rattle.std.proofs.lemmas.List.Elements.{All-append, All-filter, All-map, All-nil}
use Rattle.std.specs.Int.RustNames.{bit_and}
use Rattle.cq_regs.specs.declared.slots.Progress.{Progress}
use Rattle.cq_regs.specs.declared.slots.Progress.TheVariants.{Idle, Rung}
use Rattle.cq_regs.specs.declared.slots.Ringed.{Ringed}
use Rattle.cq_regs.specs.declared.table.Register.{Register}
use Rattle.cq_regs.specs.declared.table.Register.TheVariants.{Version, Capabilities, Configuration, Control, InterruptStatus, InterruptStatusEnable, InterruptSignalEnable, InterruptCoalescing, ListBase, ListBaseUpper, Doorbell, CompletionNotification, DeviceQueueStatus, DevicePendingTasks, TaskClear, SendStatusConfiguration1, SendStatusConfiguration2, DirectCommandResponse, ResponseErrorMask, TaskErrorInformation, CommandResponseIndex, CommandResponseArgument}
use Rattle.cq_regs.specs.declared.table.Access.{Access}
use Rattle.cq_regs.specs.declared.table.Access.TheVariants.{ReadOnly, Stored, OneClears, Acts}
use Rattle.cq_regs.specs.declared.table.Row.{Row}
use Rattle.cq_regs.specs.State.{Registers}
use Rattle.cq_regs.specs.Slots.{first_slots, has_bit, is_begun, is_rung, newly_rung, progress_of, rings, rung, without_slots, Moves}
use Rattle.cq_regs.specs.Table.{row_at}
use Rattle.cq_regs.specs.Effects.{acted, cleared, controlled, halt_complete, raised, stored, task_cleared, tasks_cleared, value_of, without_bits, written, written_by, RingsSlots}
use Rattle.cq_regs.specs.Calm.{AreRung, IsCalm}

-- the same slots and the same stop
pub calm_same : (old new : Registers) → new.ring ≡ old.ring → new.stopped ≡ old.stopped → IsCalm old new
calm_same old new ring stopped = record {
  begun = λ slot begun. (stopped, sym (ap (λ r. progress_of r slot) ring));
  stop = λ s. sym stopped ∙ s;
  rung = λ h. subst AreRung (sym ring) h;
}

calm_stored : (regs : Registers) (register : Register) (word : ℕ) → IsCalm regs (stored regs register word)
calm_stored regs Version word = calm_same regs regs refl refl
calm_stored regs Capabilities word = calm_same regs regs refl refl
calm_stored regs Configuration word = calm_same regs (stored regs Configuration word) refl refl
calm_stored regs Control word = calm_same regs regs refl refl
calm_stored regs InterruptStatus word = calm_same regs (stored regs InterruptStatus word) refl refl
calm_stored regs InterruptStatusEnable word = calm_same regs (stored regs InterruptStatusEnable word) refl refl
calm_stored regs InterruptSignalEnable word = calm_same regs (stored regs InterruptSignalEnable word) refl refl
calm_stored regs InterruptCoalescing word = calm_same regs regs refl refl
calm_stored regs ListBase word = calm_same regs (stored regs ListBase word) refl refl
calm_stored regs ListBaseUpper word = calm_same regs (stored regs ListBaseUpper word) refl refl
calm_stored regs Doorbell word = calm_same regs regs refl refl
calm_stored regs CompletionNotification word = calm_same regs (stored regs CompletionNotification word) refl refl
calm_stored regs DeviceQueueStatus word = calm_same regs regs refl refl
calm_stored regs DevicePendingTasks word = calm_same regs regs refl refl
calm_stored regs TaskClear word = calm_same regs regs refl refl
calm_stored regs SendStatusConfiguration1 word = calm_same regs (stored regs SendStatusConfiguration1 word) refl refl
calm_stored regs SendStatusConfiguration2 word = calm_same regs (stored regs SendStatusConfiguration2 word) refl refl
calm_stored regs DirectCommandResponse word = calm_same regs regs refl refl
calm_stored regs ResponseErrorMask word = calm_same regs (stored regs ResponseErrorMask word) refl refl
calm_stored regs TaskErrorInformation word = calm_same regs regs refl refl
calm_stored regs CommandResponseIndex word = calm_same regs regs refl refl
calm_stored regs CommandResponseArgument word = calm_same regs regs refl refl

calm_if : (regs first second : Registers) (b : Bool) → IsCalm regs first → IsCalm regs second → IsCalm regs (cond b first second)
calm_if regs first second true f s = f
calm_if regs first second false f s = s

calm_cleared : (regs : Registers) → IsCalm regs (cleared regs)
calm_cleared regs = record {
  begun = λ slot begun. absurd (false≢true begun);
  stop = λ s. absurd (false≢true s);
  rung = λ h. All-nil (λ r. is_rung r.progress ≡ true);
}

calm_controlled : (regs : Registers) (value : ℕ) → IsCalm regs (controlled regs value)
calm_controlled regs value =
    let resumed = record regs { halted = false } in
    let halts = raised (record regs { halted = true }) halt_complete in
    calm_if regs resumed (cond (not regs.halted) halts (cond (has_bit value 8) (cleared regs) regs)) (not (has_bit value 0))
    (calm_same regs resumed refl refl)
    (calm_if regs halts (cond (has_bit value 8) (cleared regs) regs) (not regs.halted) (calm_same regs halts refl refl)
    (calm_if regs (cleared regs) regs (has_bit value 8) (calm_cleared regs) (calm_same regs regs refl refl)))

-- rung slots are not begun
unrung : (b : Bool) (p q : Progress) → q ≡ cond b Rung p → is_begun q ≡ true → p ≡ q
unrung true p q e begun = let B : Progress → Type 0 = λ v. is_begun v ≡ true in absurd (false≢true (subst B e begun))
unrung false p q e begun = sym e

are_rung_more : (ring : List Ringed) (slots : List ℕ) → AreRung ring → AreRung (ring ++ map newly_rung slots)
are_rung_more ring slots h =
    All-append (λ r. is_rung r.progress ≡ true) ring (map newly_rung slots) h (All-map (λ r. is_rung r.progress ≡ true) newly_rung slots (λ k d below. refl))

calm_belled_if : (regs : Registers) (value : ℕ) (enabled : Bool)
    → (enabled ≡ true → Moves regs.ring (cond enabled (record regs { ring = rung regs.ring value }) regs).ring
    (λ slot progress. cond (has_bit value slot && not (is_rung progress)) Rung progress))
    → IsCalm regs (cond enabled (record regs { ring = rung regs.ring value }) regs)
calm_belled_if regs value false moves = calm_same regs regs refl refl
calm_belled_if regs value true moves = record {
  begun = λ slot begun. (
    refl,
    unrung (has_bit value slot && not (is_rung (progress_of regs.ring slot))) (progress_of regs.ring slot)
        (progress_of (rung regs.ring value) slot) (moves refl slot) begun,
  );
  stop = λ s. s;
  rung = are_rung_more regs.ring (filter (rings regs.ring value) (first_slots 32));
}

-- a slot that stays is as far as it was
first_of : (b : Bool) (r : Ringed) (rest : Option Ringed)
    → option_map_or (λ r. r.progress) (cond b (Some r) rest) Idle ≡ cond b r.progress (option_map_or (λ r. r.progress) rest Idle)
first_of true r rest = refl
first_of false r rest = refl

left_of : (out same : Bool) (r : Ringed) (ring : List Ringed) (word slot : ℕ) → has_bit word r.slot ≡ out → (r.slot == slot) ≡ same
    → progress_of (without_slots ring word) slot ≡ cond (has_bit word slot) Idle (progress_of ring slot)
    → progress_of (cond (not out) (r ∷ without_slots ring word) (without_slots ring word)) slot
    ≡ cond (has_bit word slot) Idle (cond same r.progress (progress_of ring slot))
left_of true true r ring word slot e f rest =
    let out : has_bit word slot ≡ true = let P : ℕ → Type 0 = λ n. has_bit word n ≡ true in subst P (eqb-true r.slot slot f) e in
    rest ∙ ap (λ b. cond b Idle (progress_of ring slot)) out ∙ sym (ap (λ b. cond b Idle r.progress) out)
left_of true false r ring word slot e f rest = rest
left_of false true r ring word slot e f rest =
    let stays : has_bit word slot ≡ false = let P : ℕ → Type 0 = λ n. has_bit word n ≡ false in subst P (eqb-true r.slot slot f) e in
    first_of (r.slot == slot) r (find (λ r. r.slot == slot) (without_slots ring word))
    ∙ ap (λ b. cond b r.progress (progress_of (without_slots ring word) slot)) f
    ∙ sym (ap (λ b. cond b Idle r.progress) stays)
left_of false false r ring word slot e f rest =
    first_of (r.slot == slot) r (find (λ r. r.slot == slot) (without_slots ring word))
    ∙ ap (λ b. cond b r.progress (progress_of (without_slots ring word) slot)) f
    ∙ rest

both_idle : (b : Bool) → Idle ≡ cond b Idle Idle
both_idle true = refl
both_idle false = refl

without_slots-progress : (ring : List Ringed) (word slot : ℕ)
    → progress_of (without_slots ring word) slot ≡ cond (has_bit word slot) Idle (progress_of ring slot)
without_slots-progress [] word slot = both_idle (has_bit word slot)
without_slots-progress (r ∷ ring) word slot =
    left_of (has_bit word r.slot) (r.slot == slot) r ring word slot refl refl (without_slots-progress ring word slot)
    ∙ ap (λ p. cond (has_bit word slot) Idle p) (sym (first_of (r.slot == slot) r (find (λ r. r.slot == slot) ring)))

uncleared : (b : Bool) (p q : Progress) → q ≡ cond b Idle p → is_begun q ≡ true → p ≡ q
uncleared true p q e begun = let B : Progress → Type 0 = λ v. is_begun v ≡ true in absurd (false≢true (subst B e begun))
uncleared false p q e begun = sym e

calm_task_cleared : (regs : Registers) (value : ℕ) → IsCalm regs (task_cleared regs value)
calm_task_cleared regs value =
    let left = raised (record regs { ring = without_slots regs.ring value }) tasks_cleared in
    calm_if regs left regs (regs.halted && not (value == 0))
    (record {
      begun = λ slot begun. (
        refl,
        uncleared (has_bit value slot) (progress_of regs.ring slot) (progress_of (without_slots regs.ring value) slot)
            (without_slots-progress regs.ring value slot) begun,
      );
      stop = λ s. s;
      rung = All-filter (λ r. not (has_bit value r.slot)) (λ r. is_rung r.progress ≡ true) regs.ring;
    }) (calm_same regs regs refl refl)

calm_acted : (regs : Registers) (register : Register) (value : ℕ) → RingsSlots regs register value (acted regs register value)
    → IsCalm regs (acted regs register value)
calm_acted regs Version value moves = calm_same regs regs refl refl
calm_acted regs Capabilities value moves = calm_same regs regs refl refl
calm_acted regs Configuration value moves = calm_same regs regs refl refl
calm_acted regs Control value moves = calm_controlled regs value
calm_acted regs InterruptStatus value moves = calm_same regs regs refl refl
calm_acted regs InterruptStatusEnable value moves = calm_same regs regs refl refl
calm_acted regs InterruptSignalEnable value moves = calm_same regs regs refl refl
calm_acted regs InterruptCoalescing value moves = calm_same regs (acted regs InterruptCoalescing value) refl refl
calm_acted regs ListBase value moves = calm_same regs regs refl refl
calm_acted regs ListBaseUpper value moves = calm_same regs regs refl refl
calm_acted regs Doorbell value moves = calm_belled_if regs value (has_bit regs.configuration 0) moves
calm_acted regs CompletionNotification value moves = calm_same regs regs refl refl
calm_acted regs DeviceQueueStatus value moves = calm_same regs regs refl refl
calm_acted regs DevicePendingTasks value moves = calm_same regs regs refl refl
calm_acted regs TaskClear value moves = calm_task_cleared regs value
calm_acted regs SendStatusConfiguration1 value moves = calm_same regs regs refl refl
calm_acted regs SendStatusConfiguration2 value moves = calm_same regs regs refl refl
calm_acted regs DirectCommandResponse value moves = calm_same regs regs refl refl
calm_acted regs ResponseErrorMask value moves = calm_same regs regs refl refl
calm_acted regs TaskErrorInformation value moves = calm_same regs regs refl refl
calm_acted regs CommandResponseIndex value moves = calm_same regs regs refl refl
calm_acted regs CommandResponseArgument value moves = calm_same regs regs refl refl

pub calm_by : (regs : Registers) (access : Access) (register : Register) (value : ℕ)
    → (access ≡ Acts → RingsSlots regs register value (written_by access regs register value)) → IsCalm regs (written_by access regs register value)
calm_by regs ReadOnly register value moves = calm_same regs regs refl refl
calm_by regs (Stored mask) register value moves = calm_stored regs register (bit_and value mask)
calm_by regs OneClears register value moves = calm_stored regs register (without_bits (value_of regs register) value)
calm_by regs Acts register value moves = calm_acted regs register value (moves refl)

calm_at : (old : Registers) (place : Option Row) (value : ℕ)
    → IfSome place (λ row. row.access ≡ Acts → RingsSlots old row.register value (option_map_or (λ row. written old row value) place old))
    → IsCalm old (option_map_or (λ row. written old row value) place old)
calm_at old None value moves = calm_same old old refl refl
calm_at old (Some row) value moves = calm_by old row.access row.register value moves

-- by what `write` of the registers ensures
pub calm_written : (old new : Registers) (offset value : ℕ) → new ≡ option_map_or (λ row. written old row value) (row_at offset) old
    → IfSome (row_at offset) (λ row. row.access ≡ Acts → RingsSlots old row.register value new) → IsCalm old new
calm_written old new offset value after moves =
    let Q : Registers → Type 0 = λ regs. IfSome (row_at offset) (λ row. row.access ≡ Acts → RingsSlots old row.register value regs) in
    subst (IsCalm old) (sym after) (calm_at old (row_at offset) value (subst Q after moves))

-- one after the other
pub calm_both : (first second third : Registers) → IsCalm first second → IsCalm second third → IsCalm first third
calm_both first second third one two = record {
  begun = λ slot begun.
      let t = two.begun slot begun in
      let B : Progress → Type 0 = λ p. is_begun p ≡ true in
      let o = one.begun slot (subst B (sym t.1) begun) in
      (t.0 ∙ o.0, o.1 ∙ t.1);
  stop = λ s. one.stop (two.stop s);
  rung = λ h. two.rung (one.rung h);
}

-- by what a write of a line of the table leaves
pub calm_row : (old new : Registers) (row : Row) (value : ℕ) → new ≡ written old row value
    → (row.access ≡ Acts → RingsSlots old row.register value new) → IsCalm old new
calm_row old new row value after moves =
    let Q : Registers → Type 0 = λ regs. RingsSlots old row.register value regs in
    subst (IsCalm old) (sym after) (calm_by old row.access row.register value (λ acts. subst Q after (moves acts)))

-- a write of the task clear makes the slots of the word idle
clears_if : (regs : Registers) (value slot : ℕ) (none : Bool) → (value == 0) ≡ none
    → progress_of (cond (not none) (raised (record regs { ring = without_slots regs.ring value }) tasks_cleared) regs).ring slot
    ≡ cond (has_bit value slot) Idle (progress_of regs.ring slot)
clears_if regs value slot true e =
    let clear : has_bit value slot ≡ false = ap (λ n. has_bit n slot) (eqb-true value 0 e) ∙ ap (λ b. b == 1) (bit_at-zero slot) in
    sym (ap (λ b. cond b Idle (progress_of regs.ring slot)) clear)
clears_if regs value slot false e = without_slots-progress regs.ring value slot

clears_when : (regs : Registers) (value slot : ℕ) (halted : Bool) → halted ≡ true
    → progress_of (cond (halted && not (value == 0)) (raised (record regs { ring = without_slots regs.ring value }) tasks_cleared) regs).ring slot
    ≡ cond (has_bit value slot) Idle (progress_of regs.ring slot)
clears_when regs value slot true h = clears_if regs value slot (value == 0) refl
clears_when regs value slot false h = absurd (false≢true h)

pub clears_slots : (regs : Registers) (value : ℕ) → RingsSlots regs TaskClear value (task_cleared regs value)
clears_slots regs value halted slot = clears_when regs value slot regs.halted halted

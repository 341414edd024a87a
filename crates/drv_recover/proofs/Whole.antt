-- The law of a whole recovery.
use Rattle.std.proofs.Common.{◌≡◌, List, [], ◌∷◌, Bool, true, false, refl, sym, ap, ◌∙◌, subst, arith}
use Rattle.std.specs.Prelude.{◌||◌, Ok, Err, Result, ℕ}
use Rattle.std.specs.List.{list_any}
use Rattle.std.proofs.lemmas.Bool.{false≢true}
use Rattle.std.specs.Int.Bits.{and_zero_r}
use Rattle.bus_link.specs.Link.{Call}
use Rattle.bus_link.specs.declared.link.LinkEnd.{LinkEnd}
use Rattle.bus_link.specs.declared.link.LinkEnd.TheVariants.{Bus, Status, Dark as NoPower}
use Rattle.cq_regs.specs.State.{Registers}
use Rattle.drv_recover.specs.declared.recovery.RecoveryState.{RecoveryState}
use Rattle.drv_recover.specs.declared.recovery.RecoveryState.TheVariants.{Calm, Halted, Cleared, Discarded, Cleaned, Resumed}
use Rattle.drv_recover.specs.declared.recovery.Step.{Step}
use Rattle.drv_recover.specs.declared.recovery.Step.TheVariants.{Moved, Discard, Again, Dark, Over}
use Rattle.drv_recover.specs.Recovery.{Does, IsAt, IsCleared, IsCleaned, IsOver, halted, all_cleared, resumed, cleaned, registers_after, state_after, told_by}
use Rattle.drv_recover.specs.Law.{Moment, Goes, LeavesAlone, Turns, Recovers, is_discard}

is_halted : (b : Bool) (regs : Registers) → regs.halted ≡ b → (halted regs).halted ≡ true
is_halted true regs h = grind arith
is_halted false regs h = grind arith

is_cleared : (regs : Registers) → regs.halted ≡ true → IsCleared (all_cleared regs)
is_cleared regs h = grind arith

is_cleaned : (regs : Registers) → IsCleared regs → IsCleaned (cleaned regs)
is_cleaned regs at = record { cleared = record { halted = at.halted; ring = at.ring; running = at.running }; completed = and_zero_r regs.completed }

is_over : (regs : Registers) → IsCleaned regs → IsOver (resumed regs)
is_over regs at = record { halted = refl; ring = at.cleared.ring; running = at.cleared.running; completed = at.completed }

-- what an event has come to
IsAt-after : (state : RecoveryState) (step : Step) (regs : Registers) → IsAt state regs → IsAt (state_after state step) (registers_after state regs)
IsAt-after Calm step regs at = is_halted regs.halted regs refl
IsAt-after Halted step regs at = is_cleared regs at
IsAt-after Cleared Moved regs at = at
IsAt-after Cleared Discard regs at = at
IsAt-after Cleared (Again kind) regs at = at
IsAt-after Cleared Dark regs at = at
IsAt-after Cleared Over regs at = at
IsAt-after Discarded step regs at = is_cleaned regs at
IsAt-after Cleaned step regs at = is_over regs at
IsAt-after Resumed step regs at = tt

-- what others leave alone
IsAt-alone : {L : Type 0} (state : RecoveryState) (old new : Moment L) → LeavesAlone old new → IsAt state old.regs → IsAt state new.regs
IsAt-alone Calm old new alone at = tt
IsAt-alone Halted old new alone at = alone.control ∙ at
IsAt-alone Cleared old new alone at =
    record { halted = alone.control ∙ at.halted; ring = alone.ring at.ring; running = alone.running at.running }
IsAt-alone Discarded old new alone at =
    record { halted = alone.control ∙ at.halted; ring = alone.ring at.ring; running = alone.running at.running }
IsAt-alone Cleaned old new alone at =
    record {
      cleared = record {
        halted = alone.control ∙ at.cleared.halted;
        ring = alone.ring at.cleared.ring;
        running = alone.running at.cleared.running;
      };
      completed = alone.completed at.completed;
    }
IsAt-alone Resumed old new alone at =
    record {
      halted = alone.control ∙ at.halted;
      ring = alone.ring at.ring;
      running = alone.running at.running;
      completed = alone.completed at.completed;
    }

IsAt-goes : {L : Type 0} (made : L → Call → L → Type 0) (old new : Moment L) (step : Step) → Goes made old new step
    → IsAt old.state old.regs → IsAt new.state new.regs
IsAt-goes made old new step goes at =
    subst (λ state. IsAt state new.regs) (sym goes.place)
    (subst (λ regs. IsAt (state_after old.state step) regs) (sym goes.registers) (IsAt-after old.state step old.regs at))

IsAt-turns : {L : Type 0} (made : L → Call → L → Type 0) (old new : Moment L) (step : Step) → Turns made old new step
    → IsAt old.state old.regs → IsAt new.state new.regs
IsAt-turns made old new step turns at =
    subst (λ state. IsAt state new.regs) (sym turns.alone.state)
    (IsAt-alone turns.left.state turns.left new turns.alone (IsAt-goes made old turns.left step turns.goes at))

-- CMD48 was answered in a recovery that has come so far
abbrev has_discarded : RecoveryState → Bool
has_discarded Discarded = true
has_discarded Cleaned = true
has_discarded Resumed = true
has_discarded _ = false

-- an answer to CMD48 never ends a recovery
not_over : (answer : Result ℕ LinkEnd) → told_by answer ≡ Over → ⊥
not_over (Ok word) h = cc h
not_over (Err (Status word)) h = cc h
not_over (Err (Bus kind)) h = cc h
not_over (Err NoPower) h = cc h

not_moved : Over ≡ Moved → ⊥
not_moved h = cc h

-- a recovery is over only after it has resumed
over-resumed : {L : Type 0} (made : L → Call → L → Type 0) (old new : L) (state : RecoveryState) → Does made old new state Over → state ≡ Resumed
over-resumed made old new Calm does = absurd (not_moved does.told)
over-resumed made old new Halted does = absurd (not_moved does.told)
over-resumed made old new Cleared does = absurd (not_over does.answer (sym does.told))
over-resumed made old new Discarded does = absurd (not_moved does.told)
over-resumed made old new Cleaned does = absurd (not_moved does.told)
over-resumed made old new Resumed does = refl

-- an event that comes to a discarded queue had one, or discards it
discarded-after : (state : RecoveryState) (step : Step) → has_discarded (state_after state step) ≡ true
    → (has_discarded state || is_discard step) ≡ true
discarded-after Calm step h = absurd (false≢true h)
discarded-after Halted step h = absurd (false≢true h)
discarded-after Cleared Moved h = h
discarded-after Cleared Discard h = refl
discarded-after Cleared (Again kind) h = h
discarded-after Cleared Dark h = h
discarded-after Cleared Over h = h
discarded-after Discarded step h = refl
discarded-after Cleaned step h = refl
discarded-after Resumed step h = refl

turned : {L : Type 0} (made : L → Call → L → Type 0) (old new : Moment L) (step : Step) → Turns made old new step
    → new.state ≡ state_after old.state step
turned made old new step turns = turns.alone.state ∙ turns.goes.place

either : (next had tells later : Bool) → (next ≡ true → (had || tells) ≡ true) → (next || later) ≡ true → (had || (tells || later)) ≡ true
either next true tells later h k = refl
either next false true later h k = refl
either true false false later h k = absurd (false≢true (h refl))
either false false false later h k = k

-- CMD48 was answered before, or in one of the events
discarded-before_over : {L : Type 0} (made : L → Call → L → Type 0) (old new : Moment L) (steps : List Step) → Recovers made old new steps
    → (has_discarded old.state || list_any is_discard steps) ≡ true
unfolding Recovers
discarded-before_over made old new [] goes = rw (over-resumed made old.link new.link old.state goes.does) refl
discarded-before_over made old new (step ∷ steps) goes =
    either (has_discarded goes.0.state) (has_discarded old.state) (is_discard step) (list_any is_discard steps)
    (λ h. discarded-after old.state step (ap has_discarded (sym (turned made old goes.0 step goes.1)) ∙ h))
    (discarded-before_over made goes.0 new steps goes.2)

over-goes : {L : Type 0} (made : L → Call → L → Type 0) (old new : Moment L) → Goes made old new Over → IsAt old.state old.regs
    → IsOver new.regs
over-goes made old new goes at =
    let last = over-resumed made old.link new.link old.state goes.does in
    subst (λ regs. IsOver regs) (sym (goes.registers ∙ ap (λ state. registers_after state old.regs) last))
    (subst (λ state. IsAt state old.regs) last at)

over-recovers : {L : Type 0} (made : L → Call → L → Type 0) (old new : Moment L) (steps : List Step) → Recovers made old new steps
    → IsAt old.state old.regs → IsOver new.regs
unfolding Recovers
over-recovers made old new [] goes at = over-goes made old new goes at
over-recovers made old new (step ∷ steps) goes at = over-recovers made goes.0 new steps goes.2 (IsAt-turns made old goes.0 step goes.1 at)

-- after a whole recovery, between the events of which nothing else rings a slot, sets a bit of the completion notification,
-- stops the engine or writes the control: no task is rung, sent or notified, the engine is neither halted nor stopped, and
-- a CMD48 for the whole queue was answered
pub recovered : {L : Type 0} (made : L → Call → L → Type 0) (old new : Moment L) (steps : List Step) → old.state ≡ Calm
    → Recovers made old new steps → IsOver new.regs × (list_any is_discard steps ≡ true)
recovered made old new steps calm goes = (
  over-recovers made old new steps goes (subst (λ state. IsAt state old.regs) (sym calm) tt),
  subst (λ state. (has_discarded state || list_any is_discard steps) ≡ true) calm (discarded-before_over made old new steps goes),
)

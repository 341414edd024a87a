-- The engine let run over a card: its events in a row, and the line of each slot that ends (host interface annex of JESD84-B51).
use Rattle.std.specs.Prelude.{◌≡◌, ◌||◌, Bool, true, false, not, List, [], ◌∷◌, flat_map, ◌<◌, is_some, IfSome, Option, Some, None}
use Rattle.bus_link.specs.Link.{is_poll}
use Rattle.bus_link.specs.declared.link.Cause.TheVariants.{Response, Dark as NoPower}
use Rattle.card_link.specs.Made.{CardMade}
use Rattle.cq_engine.specs.Event.{Event}
use Rattle.cq_engine.specs.declared.did.Did.{Did}
use Rattle.cq_engine.specs.declared.did.Did.TheVariants.{Idle, Sent, Direct, Finished, Dropped as DroppedTask, Stopped as StoppedFor}
use Rattle.cq_regs.specs.declared.slots.Progress.TheVariants.{Ready}
use Rattle.cq_regs.specs.State.{Registers}
use Rattle.cq_schedule.specs.Order.{first_at}
use Rattle.raw_lines.specs.declared.raw_line.RawLine.{RawLine}
use Rattle.raw_lines.specs.declared.raw_line.RawLine.TheVariants.{Done, Dropped, Stopped}
use Rattle.raw_machine.specs.Machine.{Moment, behind_of}
use Rattle.storage_model.specs.declared.trace.End.{End}
use Rattle.storage_model.specs.declared.trace.End.TheVariants.{Dead}

-- an event of the engine over the card
abbrev pub Happens : Moment → Did → Moment → Type 0
Happens old did new =
    Event CardMade (behind_of old) (behind_of new) old.machine.engine new.machine.engine old.machine.regs new.machine.regs
    old.machine.memory new.machine.memory did

-- a slot is ready: so after a poll that names one that was sent, since before a poll none is
abbrev pub has_ready_slot : Registers → Bool
has_ready_slot regs = is_some (first_at Ready regs.ring)

-- whether the engine goes on: not where nothing was due, after a poll that names no sent task, and where it stopped
abbrev pub goes_on : Did → Registers → Bool
goes_on Idle regs = false
goes_on (StoppedFor cause) regs = false
goes_on (Sent command) regs = not (is_poll command) || has_ready_slot regs
goes_on _ regs = true

-- the slot that is ready after a poll is one of the 32
abbrev pub IsBelow : Did → Registers → Type 0
IsBelow (Sent command) regs = is_poll command ≡ true → IfSome (first_at Ready regs.ring) (λ slot. slot < 32)
IsBelow _ regs = Unit {0}

-- the line of a slot that ends in an event: its task is done, dropped, or stops the engine by a response
abbrev pub lines_of : Did → List RawLine
lines_of (Direct slot) = Done slot ∷ []
lines_of (Finished slot) = Done slot ∷ []
lines_of (DroppedTask slot why) = Dropped slot why ∷ []
lines_of (StoppedFor (Response word slot)) = Stopped slot word ∷ []
lines_of _ = []

-- the script ends where the power is cut
abbrev pub end_after : Did → Option End
end_after (StoppedFor NoPower) = Some Dead
end_after _ = None

-- an event, and what is then
pub record Step : Type 0 where
  pub did : Did
  pub after : Moment

-- events in a row, after each of which the engine goes on
abbrev pub GoesOn : Moment → List Step → Moment → Type 0
GoesOn old [] new = new ≡ old
GoesOn old (step ∷ steps) new =
    Happens old step.did step.after × (goes_on step.did step.after.machine.regs ≡ true) × GoesOn step.after steps new

abbrev pub steps_lines : List Step → List RawLine
steps_lines steps = flat_map (λ step. lines_of step.did) steps

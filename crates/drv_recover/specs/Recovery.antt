-- The recovery of the host interface after a stop: halt, clear all tasks, discard the queue of the card, clear what was
-- notified, and resume (cqhci_recovery_start and cqhci_recovery_finish of drivers/mmc/host/cqhci-core.c; mmc_cqe_recovery of
-- drivers/mmc/core/core.c; CMD48 in JESD84-B51, section 6.6.39).
use Rattle.std.specs.Prelude.{◌≡◌, ◌<◌, ℕ, [], Result, Ok, Err, false, true}
use Rattle.cmd_words.specs.declared.command.Command.{Command}
use Rattle.cmd_words.specs.declared.command.Command.TheVariants.{Manage}
use Rattle.bus_link.specs.declared.link.LinkEnd.{LinkEnd}
use Rattle.bus_link.specs.declared.link.LinkEnd.TheVariants.{Bus, Status, Dark as NoPower}
use Rattle.bus_link.specs.Link.{Call}
use Rattle.bus_link.specs.Link.Call.{Exchanged}
use Rattle.cq_regs.specs.declared.table.Register.TheVariants.{InterruptStatus, CompletionNotification}
use Rattle.cq_regs.specs.declared.table.Access.TheVariants.{OneClears}
use Rattle.cq_regs.specs.State.{Registers}
use Rattle.cq_regs.specs.Slots.{has_bit}
use Rattle.cq_regs.specs.Effects.{controlled, written_by}
use Rattle.drv_recover.specs.declared.recovery.RecoveryState.{RecoveryState}
use Rattle.drv_recover.specs.declared.recovery.RecoveryState.TheVariants.{Calm, Halted, Cleared, Discarded, Cleaned, Resumed}
use Rattle.drv_recover.specs.declared.recovery.Step.{Step}
use Rattle.drv_recover.specs.declared.recovery.Step.TheVariants.{Moved, Discard, Again, Dark, Over}

-- halt; clear all tasks while halted; resume (CQHCI_HALT and CQHCI_CLEAR_ALL_TASKS of CQHCI_CTL)
abbrev pub halted : Registers → Registers
halted regs = controlled regs 1

abbrev pub all_cleared : Registers → Registers
all_cleared regs = controlled regs 0x101

abbrev pub resumed : Registers → Registers
resumed regs = controlled regs 0

-- interrupt status and completion notification cleared: a 1 is written to each of their bits
abbrev pub cleaned : Registers → Registers
cleaned regs = written_by OneClears (written_by OneClears regs InterruptStatus 0xf) CompletionNotification 0xffff_ffff

-- no bit of the interrupt status is set
abbrev pub IsQuiet : Registers → Type 0
IsQuiet regs = (bit : ℕ) → bit < 4 → has_bit regs.interrupts bit ≡ false

-- the registers after an event; what CMD48 is answered changes none
abbrev pub registers_after : RecoveryState → Registers → Registers
registers_after Calm regs = halted regs
registers_after Halted regs = all_cleared regs
registers_after Cleared regs = regs
registers_after Discarded regs = cleaned regs
registers_after Cleaned regs = resumed regs
registers_after Resumed regs = regs

-- where the recovery is after an event: the next place, but that it stays where CMD48 was not answered
abbrev pub state_after : RecoveryState → Step → RecoveryState
state_after Calm step = Halted
state_after Halted step = Cleared
state_after Cleared Discard = Discarded
state_after Cleared step = Cleared
state_after Discarded step = Cleaned
state_after Cleaned step = Resumed
state_after Resumed step = Calm

-- CMD48 for the whole queue
abbrev pub discard_queue : Command
discard_queue = Manage true 0

-- what an event tells of the answer to CMD48: a status word, also one that ends the command, is an answer
abbrev pub told_by : Result ℕ LinkEnd → Step
told_by (Ok word) = Discard
told_by (Err (Status word)) = Discard
told_by (Err (Bus kind)) = Again kind
told_by (Err NoPower) = Dark

-- CMD48 crossed the link
pub record Discards {L : Type 0} (made : L → Call → L → Type 0) (old new : L) (step : Step) : Type 0 where
  pub answer : Result ℕ LinkEnd
  pub crossed : made old (Exchanged discard_queue answer) new
  pub told : step ≡ told_by answer

-- nothing crossed the link
pub record Silent {L : Type 0} (old new : L) (step expected : Step) : Type 0 where
  pub link : new ≡ old
  pub told : step ≡ expected

-- what crosses the link in an event, and what it tells
abbrev pub Does : {L : Type 0} → (L → Call → L → Type 0) → (old new : L) → RecoveryState → Step → Type 0
Does made old new Cleared step = Discards made old new step
Does made old new Resumed step = Silent old new step Over
Does made old new state step = Silent old new step Moved

-- an event
pub record Event {L : Type 0} (made : L → Call → L → Type 0) (old new : L) (state state' : RecoveryState) (regs regs' : Registers)
    (step : Step) : Type 0 where
  pub does : Does made old new state step
  pub place : state' ≡ state_after state step
  pub registers : regs' ≡ registers_after state regs

-- halted, no task is rung or sent, and the engine is not stopped
pub record IsCleared (regs : Registers) : Type 0 where
  pub halted : regs.halted ≡ true
  pub ring : regs.ring ≡ []
  pub running : regs.stopped ≡ false

-- and no task is notified
pub record IsCleaned (regs : Registers) : Type 0 where
  pub cleared : IsCleared regs
  pub completed : regs.completed ≡ 0

-- resumed: no task is rung, sent or notified, and the engine is neither halted nor stopped
pub record IsOver (regs : Registers) : Type 0 where
  pub halted : regs.halted ≡ false
  pub ring : regs.ring ≡ []
  pub running : regs.stopped ≡ false
  pub completed : regs.completed ≡ 0

-- what a recovery has come to
abbrev pub IsAt : RecoveryState → Registers → Type 0
IsAt Calm regs = Unit {0}
IsAt Halted regs = regs.halted ≡ true
IsAt Cleared regs = IsCleared regs
IsAt Discarded regs = IsCleared regs
IsAt Cleaned regs = IsCleaned regs
IsAt Resumed regs = IsOver regs

-- What an event makes of the slots, of the completed tasks and of what a driver set up, by what it did (host interface annex of
-- JESD84-B51).
use Rattle.std.specs.Prelude.{◌≡◌, ◌<◌, ◌^◌, ℕ, Bool, true, false, List}
use Rattle.std.specs.Int.RustNames.{bit_or}
use Rattle.cmd_words.specs.declared.command.Command.{Command}
use Rattle.cmd_words.specs.declared.command.Command.TheVariants.{Params, Address, Execute}
use Rattle.cq_regs.specs.declared.slots.Progress.{Progress}
use Rattle.cq_regs.specs.declared.slots.Progress.TheVariants.{Rung, Named, Ready, Active}
use Rattle.cq_regs.specs.declared.slots.Ringed.{Ringed}
use Rattle.cq_regs.specs.State.{Registers}
use Rattle.cq_regs.specs.Slots.{advanced, made_ready, progress_of, without}
use Rattle.cq_engine.specs.declared.did.Did.{Did}
use Rattle.cq_engine.specs.declared.did.Did.TheVariants.{Idle, Sent, Direct, Moved, Finished, Dropped, Stopped}

-- a slot was moved on that had come so far
pub record IsMovedFrom (progress : Progress) (slot : ℕ) (old new : Registers) : Type 0 where
  pub below : slot < 32
  pub was : progress_of old.ring slot ≡ progress
  pub ring : new.ring ≡ advanced old.ring slot

-- CMD45 doesn't name the slot, which was the named one
pub record SendsNamed (old new : Registers) : Type 0 where
  pub slot : ℕ
  pub moved : IsMovedFrom Named slot old new

-- CMD44 names the task of a rung slot, CMD45 sends that of a named one, and CMD46 or CMD47 executes a ready one; a poll makes
-- ready what it was answered with
abbrev pub MovesFor : Command → (old new : Registers) → Type 0
MovesFor (Params task) old new = IsMovedFrom Rung task.task old new
MovesFor (Address start) old new = SendsNamed old new
MovesFor (Execute read slot) old new = IsMovedFrom Ready slot old new
MovesFor _ old new = new.ring ≡ made_ready old.ring new.queue_status

-- a slot whose task is over is idle, and else the slots are as they were
abbrev pub MovesBy : Did → (old new : Registers) → Type 0
MovesBy (Sent command) old new = MovesFor command old new
MovesBy (Direct slot) old new = new.ring ≡ without old.ring slot
MovesBy (Finished slot) old new = new.ring ≡ without old.ring slot
MovesBy (Dropped slot why) old new = new.ring ≡ without old.ring slot
MovesBy _ old new = new.ring ≡ old.ring

-- between its CMD44 and its CMD45, or in its data phase
abbrev pub is_open : Progress → Bool
is_open Named = true
is_open Active = true
is_open _ = false

-- one slot is open at most
abbrev pub OneOpen : List Ringed → Type 0
OneOpen ring = (a b : ℕ) → is_open (progress_of ring a) ≡ true → is_open (progress_of ring b) ≡ true → a ≡ b

-- the tasks that are notified as complete, in the register CQTCN
abbrev pub completed_by : Did → ℕ → ℕ
completed_by (Direct slot) word = bit_or word (2 ^ slot)
completed_by (Finished slot) word = bit_or word (2 ^ slot)
completed_by _ word = word

-- what a driver sets up, and an event leaves
pub record SetUp : Type 0 where
  pub configuration : ℕ
  pub halted : Bool
  pub status_enable : ℕ
  pub signal_enable : ℕ
  pub counts : Bool
  pub threshold : ℕ
  pub timeout : ℕ
  pub list_base : ℕ
  pub list_base_upper : ℕ
  pub send_status_1 : ℕ
  pub send_status_2 : ℕ
  pub error_mask : ℕ

abbrev pub set_up_of : Registers → SetUp
set_up_of regs = record {
  configuration = regs.configuration;
  halted = regs.halted;
  status_enable = regs.status_enable;
  signal_enable = regs.signal_enable;
  counts = regs.coalescing.enabled;
  threshold = regs.coalescing.threshold;
  timeout = regs.coalescing.timeout;
  list_base = regs.list_base;
  list_base_upper = regs.list_base_upper;
  send_status_1 = regs.send_status_1;
  send_status_2 = regs.send_status_2;
  error_mask = regs.error_mask;
}

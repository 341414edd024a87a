-- What an event leaves: what it did, the tasks that are held and the registers.
use Rattle.std.specs.Prelude.{ℕ, Option, Some, None, Result, Ok, Err, true, if◌then◌else◌}
use Rattle.bus_link.specs.declared.link.Cause.{Cause}
use Rattle.bus_link.specs.declared.link.Cause.TheVariants.{Response, Bus as BusFault, Dark as NoPower}
use Rattle.bus_link.specs.declared.link.LinkEnd.{LinkEnd}
use Rattle.bus_link.specs.declared.link.LinkEnd.TheVariants.{Bus, Status, Dark}
use Rattle.cq_regs.specs.State.{Registers}
use Rattle.cq_regs.specs.Effects.{raised, response_error}
use Rattle.cq_schedule.specs.Held.{Places, none_held}
use Rattle.cq_engine.specs.declared.did.Did.{Did}
use Rattle.cq_engine.specs.declared.did.Did.TheVariants.{Stopped}
use Rattle.cq_engine.specs.Words.{command_error, is_masked}

-- the tasks that the engine holds, and why it stopped last
pub record Holding : Type 0 where
  pub held : Places
  pub cause : Option Cause

-- an engine that was just started or reset
abbrev pub holds_nothing : Holding
holds_nothing = record { held = none_held; cause = None }

-- the tasks that are held, and the registers
pub record Host : Type 0 where
  pub held : Places
  pub regs : Registers

pub record Outcome : Type 0 where
  pub did : Did
  pub host : Host

abbrev pub host_of : Places → Registers → Host
host_of held regs = record { held = held; regs = regs }

abbrev pub outcome_of : Did → Places → Registers → Outcome
outcome_of did held regs = record { did = did; host = host_of held regs }

abbrev pub with_regs : Host → Registers → Host
with_regs host regs = record host { regs = regs }

-- the word that a call was answered with, also one that broke a data phase off; or what the engine stops for
abbrev pub word_in : Result ℕ LinkEnd → Option ℕ → Result ℕ Cause
word_in (Ok word) slot = Ok word
word_in (Err (Status word)) slot = Ok word
word_in (Err (Bus kind)) slot = Err (BusFault kind slot)
word_in (Err Dark) slot = Err NoPower

-- a word with a bit of the response error mask is what the engine stops for
abbrev pub judged : Registers → ℕ → Result ℕ Cause → Result ℕ Cause
judged regs slot (Ok word) = if is_masked regs word then Err (Response word slot) else Ok word
judged regs slot (Err cause) = Err cause

-- the engine stopped, with the task error information
abbrev pub stopped_with : Registers → ℕ → Registers
stopped_with regs information = raised (record regs { stopped = true; error_information = information }) response_error

-- the index of a command, and the word that it was answered with
abbrev pub responded : Registers → (index word : ℕ) → Registers
responded regs index word = record regs { response_index = index; response_argument = word }

-- the word of a command of a slot taken, and the engine stopped where it is to stop
abbrev pub heard : Registers → (index slot : ℕ) → Result ℕ Cause → Registers
heard regs index slot (Ok word) =
    if is_masked regs word then stopped_with (responded regs index word) (command_error index slot) else responded regs index word
heard regs index slot (Err cause) = stopped_with regs (command_error index slot)

-- the engine stopped
abbrev pub stop : Host → (information : ℕ) → Cause → Outcome
stop host information cause =
    record { did = Stopped cause; host = with_regs host (stopped_with host.regs information) }

-- what stopped the engine in an event
abbrev pub stop_of : Did → Option Cause
stop_of (Stopped cause) = Some cause
stop_of _ = None

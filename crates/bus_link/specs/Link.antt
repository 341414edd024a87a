-- The bus as the host interface sees it: what crosses it, and how a call of it ends (JESD84-B51, section 6.6.39 and annex B).
use Rattle.std.specs.Prelude.{◌≡◌, ◌⊎◌, ℕ, ◌==◌, ◌||◌, Bool, true, false, Result, OnOk, IfOk, IfErr}
use Rattle.std.specs.Int.{bit_at}
use Rattle.storage_model.specs.Count.{Count, Later, Rose}
use Rattle.storage_model.specs.declared.block.Block.{Block}
use Rattle.cmd_words.specs.declared.command.Command.{Command}
use Rattle.cmd_words.specs.declared.command.Command.TheVariants.{Status as StatusCommand}
use Rattle.bus_link.specs.declared.link.LinkEnd.{LinkEnd}
use Rattle.bus_link.specs.declared.link.LinkEnd.TheVariants.{Bus, Status, Dark}

-- how often the bus and the flash behind it failed, how often the power was cut, and whether the card has power
pub record LinkState : Type 0 where
  pub bus : Count
  pub flash : Count
  pub cuts : Count
  pub powered : Bool

-- what crossed the bus, with its answer: a command, a block that was written, a block that was read (with what the block
-- is after it), and the end of a data phase
pub data Call : Type 0 where
  Exchanged : Command → Result ℕ LinkEnd → Call
  Gave : Block → Result (Unit {0}) LinkEnd → Call
  Took : Block → Result (Unit {0}) LinkEnd → Call
  Closed : Result ℕ LinkEnd → Call

-- what has to have happened for a call to end so
abbrev pub HasCause : LinkState → LinkState → LinkEnd → Type 0
HasCause old new (Bus kind) = Rose old.bus new.bus × (new.powered ≡ old.powered)
HasCause old new (Status word) = Rose old.flash new.flash × (new.powered ≡ old.powered)
HasCause old new Dark = (Rose old.cuts new.cuts ⊎ (old.powered ≡ false)) × (new.powered ≡ false)

-- how a call ends: counts don't fall, an end that is no answer has its cause in this call, and the power stays but for a cut
pub record LinkEnds {A : Type 0} (old new : LinkState) (result : Result A LinkEnd) : Type 0 where
  pub bus : Later old.bus new.bus
  pub flash : Later old.flash new.flash
  pub cuts : Later old.cuts new.cuts
  pub ok : OnOk result (new.powered ≡ old.powered)
  pub cause : IfErr result (HasCause old new)

-- the command that polls the queue: CMD13 with bit 15
abbrev pub is_poll : Command → Bool
is_poll (StatusCommand queue rca) = queue
is_poll _ = false

-- a word with the bit 19, ERROR, or 21, DEVICE_ECC_FAILED (JESD84-B51, section 6.13)
abbrev pub tells_flash : ℕ → Bool
tells_flash word = (bit_at word 19 == 1) || (bit_at word 21 == 1)

-- a status word that tells of the flash comes only where that failed in this call
abbrev pub TellsFlash : LinkState → LinkState → ℕ → Type 0
TellsFlash old new word = tells_flash word ≡ true → Rose old.flash new.flash

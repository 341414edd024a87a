-- What the engine sends and what it writes down of an error (JESD84-B51, annex B; cqhci_prep_task_desc, cqhci_error_irq
-- and the fields CQHCI_TERRI_ of the Linux driver).
use Rattle.std.specs.Prelude.{ℕ, ◌==◌, Bool, true, not, [], ◌∷◌}
use Rattle.std.specs.Result.{result_unwrap_or}
use Rattle.std.specs.Int.RustNames.{bit_and}
use Rattle.cq_words.specs.Table.{number_in, word_with}
use Rattle.cmd_words.specs.declared.command.Command.{Command}
use Rattle.cmd_words.specs.declared.command.Command.TheVariants.{Status, Params, Execute, Other}
use Rattle.cmd_words.specs.declared.status.TheConstants.{ERRORS}
use Rattle.cmd_words.specs.Argument.{at}
use Rattle.cmd_words.specs.Command.{decoded}
use Rattle.cq_desc.specs.declared.direct.DirectDesc.{DirectDesc}
use Rattle.cq_desc.specs.declared.task.TaskDesc.{TaskDesc}
use Rattle.cq_regs.specs.State.{Registers}
use Rattle.cq_desc.specs.Fields.{field}

-- CMD44 of the task of a slot
abbrev pub params_of : ℕ → TaskDesc → Command
params_of slot desc = Params (record {
  task = slot;
  read = desc.read;
  blocks = desc.blocks;
  forced = desc.forced;
  reliable = desc.reliable;
  high = desc.high;
})

-- CMD46 or CMD47 of the task of a slot
abbrev pub execute_of : ℕ → TaskDesc → Command
execute_of slot desc = Execute desc.read slot

-- CMD13 that asks for the queue status word, with the address of the card in the low half of CQSSC2
abbrev pub poll_of : Registers → Command
poll_of regs = Status true (number_in regs.send_status_2 (field 0 16))

-- the command of a direct descriptor; words that are no command go out as they stand
abbrev pub direct_of : DirectDesc → Command
direct_of desc = result_unwrap_or (decoded desc.index desc.arg) (Other desc.index desc.arg)

-- the task error information of a command that was not answered well: its index in bits 5:0, its slot in bits 12:8, and the
-- valid bit 15
abbrev pub command_error : (index slot : ℕ) → ℕ
command_error index slot = word_with (at (field 0 6) index ∷ at (field 8 5) slot ∷ at (field 15 1) 1 ∷ [])

-- the same of a data phase: bits 21:16, 28:24 and 31
abbrev pub data_error : (index slot : ℕ) → ℕ
data_error index slot = word_with (at (field 16 6) index ∷ at (field 24 5) slot ∷ at (field 31 1) 1 ∷ [])

-- whether a response has a bit of the response error mask
abbrev pub is_masked : Registers → ℕ → Bool
is_masked regs word = not (bit_and word regs.error_mask == 0)

-- whether a status word has an error bit (JESD84-B51, section 6.13)
abbrev pub has_error : ℕ → Bool
has_error word = not (bit_and word ERRORS == 0)

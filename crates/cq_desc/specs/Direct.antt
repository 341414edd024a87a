-- The direct command's descriptor, in the low word of either form: JESD84-B51, annex B; the macros CQHCI_QBAR, CQHCI_CMD_INDEX,
-- CQHCI_CMD_TIMING and CQHCI_RESP_TYPE of the Linux driver's cqhci.h.
use Rattle.std.specs.Prelude.{◌≢◌, ◌<◌, ℕ, List, [], ◌∷◌, ◌==◌, ◌&&◌, not, Bool, Result}
use Rattle.cq_words.specs.declared.table.FieldValue.{FieldValue}
use Rattle.cq_words.specs.Table.{number_in, is_set}
use Rattle.cq_desc.specs.Fields.{VALID, END, INT, ACT, ACT_TASK, QUEUE_BARRIER, COMMAND_INDEX, COMMAND_TIMING, RESPONSE_TYPE, COMMAND_ARGUMENT, RESPONSE_RESERVED}
use Rattle.cq_desc.specs.declared.fault.DescFault.{DescFault}
use Rattle.cq_desc.specs.declared.direct.DirectDesc.{DirectDesc}
use Rattle.cq_desc.specs.Descriptor.{at, bit, judged}

-- what stands in the fields of a direct command's word
abbrev pub direct_table : DirectDesc → List FieldValue
direct_table desc =
    at VALID 1 ∷ at ACT ACT_TASK ∷ at INT (bit desc.int) ∷ at QUEUE_BARRIER (bit desc.barrier) ∷ at COMMAND_INDEX desc.index
    ∷ at COMMAND_TIMING (bit desc.timing) ∷ at RESPONSE_TYPE desc.resp ∷ at COMMAND_ARGUMENT desc.arg ∷ []

-- a writer sets the end bit too, which a reader doesn't look at
abbrev pub written_direct : DirectDesc → List FieldValue
written_direct desc = at END 1 ∷ direct_table desc

-- the values fit their fields, and the response type isn't the reserved one
abbrev pub IsDirectInRange : DirectDesc → Type 0
IsDirectInRange desc = (desc.index < 64) × (desc.resp < 4) × (desc.resp ≢ RESPONSE_RESERVED)

-- the direct command that a word's fields name
abbrev pub direct_of : ℕ → DirectDesc
direct_of word = record {
  int = is_set word INT;
  barrier = is_set word QUEUE_BARRIER;
  index = number_in word COMMAND_INDEX;
  timing = is_set word COMMAND_TIMING;
  resp = number_in word RESPONSE_TYPE;
  arg = number_in word COMMAND_ARGUMENT;
}

abbrev pub is_direct : ℕ → Bool
is_direct word = (number_in word ACT == ACT_TASK) && not (number_in word RESPONSE_TYPE == RESPONSE_RESERVED)

-- how a word reads
unfoldable pub direct_read : ℕ → Result DirectDesc DescFault
direct_read word = judged word (is_direct word) (direct_of word)

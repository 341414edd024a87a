-- Where the slots of the task descriptor list stand, and which of them holds a direct command: JESD84-B51, annex B;
-- get_desc, get_link_desc and DCMD_SLOT of the Linux driver's cqhci-core.c.
use Rattle.std.specs.Prelude.{ℕ, ◌+◌, ◌*◌, ◌==◌, ◌&&◌, Bool}
use Rattle.host_mem.specs.Memory.{Memory}
use Rattle.cq_chain.specs.Descriptors.{size_of, word_at}
use Rattle.cq_task.specs.declared.list.TaskList.{TaskList}
use Rattle.cq_words.specs.Table.{is_set}
use Rattle.cq_desc.specs.Fields.{field}

-- CQHCI_TASK_DESC_SZ, bit 8 of the register CQCFG: descriptors of 128 bits
abbrev pub are_wide : ℕ → Bool
are_wide configuration = is_set configuration (field 8 1)

-- CQHCI_DCMD, bit 12 of the register CQCFG: direct commands are enabled
abbrev pub are_direct : ℕ → Bool
are_direct configuration = is_set configuration (field 12 1)

-- the bytes of a block
abbrev pub block_bytes : ℕ
block_bytes = 512

-- a slot is two descriptors
abbrev pub place_of : TaskList → ℕ → ℕ
place_of list slot = list.base + slot * (2 * size_of list.wide)

-- the second of them, where the chain of a data task begins
abbrev pub chain_of : TaskList → ℕ → ℕ
chain_of list slot = place_of list slot + size_of list.wide

-- the low word of the first
abbrev pub first_word : Memory → TaskList → ℕ → ℕ
first_word memory list slot = word_at memory (place_of list slot)

-- the slot that holds a direct command, where these are enabled
abbrev pub direct_slot : ℕ
direct_slot = 31

abbrev pub is_direct : TaskList → ℕ → Bool
is_direct list slot = list.direct && (slot == direct_slot)

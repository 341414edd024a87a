-- Where each field of a descriptor stands, and the numbers that stand in it: JESD84-B51, annex B; the macros CQHCI_VALID to
-- CQHCI_DAT_ADDR_HI of the Linux driver's cqhci.h.
use Rattle.std.specs.Prelude.{ℕ}
use Rattle.cq_words.specs.declared.table.BitField.{BitField}

-- `width` bits from bit `low` up
abbrev pub field : (low width : ℕ) → BitField
field low width = record { low = low; width = width }

-- every descriptor
abbrev pub VALID : BitField
VALID = field 0 1

abbrev pub END : BitField
END = field 1 1

abbrev pub INT : BitField
INT = field 2 1

abbrev pub ACT : BitField
ACT = field 3 3

abbrev pub ACT_NOP : ℕ
ACT_NOP = 0

abbrev pub ACT_TRANSFER : ℕ
ACT_TRANSFER = 4

abbrev pub ACT_TASK : ℕ
ACT_TASK = 5

abbrev pub ACT_LINK : ℕ
ACT_LINK = 6

-- a task descriptor; the queue barrier in a direct command's too
abbrev pub FORCED_PROGRAMMING : BitField
FORCED_PROGRAMMING = field 6 1

abbrev pub CONTEXT : BitField
CONTEXT = field 7 4

abbrev pub TAG_REQUEST : BitField
TAG_REQUEST = field 11 1

abbrev pub DIRECTION : BitField
DIRECTION = field 12 1

abbrev pub PRIORITY : BitField
PRIORITY = field 13 1

abbrev pub QUEUE_BARRIER : BitField
QUEUE_BARRIER = field 14 1

abbrev pub RELIABLE_WRITE : BitField
RELIABLE_WRITE = field 15 1

abbrev pub BLOCK_COUNT : BitField
BLOCK_COUNT = field 16 16

abbrev pub BLOCK_ADDRESS : BitField
BLOCK_ADDRESS = field 32 32

-- a direct command's descriptor
abbrev pub COMMAND_INDEX : BitField
COMMAND_INDEX = field 16 6

abbrev pub COMMAND_TIMING : BitField
COMMAND_TIMING = field 22 1

abbrev pub RESPONSE_TYPE : BitField
RESPONSE_TYPE = field 23 2

abbrev pub RESPONSE_RESERVED : ℕ
RESPONSE_RESERVED = 1

abbrev pub COMMAND_ARGUMENT : BitField
COMMAND_ARGUMENT = field 32 32

-- a transfer descriptor, and the address of a link; a length of 0 stands for the longest
abbrev pub DATA_LENGTH : BitField
DATA_LENGTH = field 16 16

abbrev pub LONGEST_PIECE : ℕ
LONGEST_PIECE = 65536

abbrev pub DATA_ADDRESS : BitField
DATA_ADDRESS = field 32 32

abbrev pub DATA_ADDRESS_HIGH : BitField
DATA_ADDRESS_HIGH = field 0 32

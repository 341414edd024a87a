-- The argument of a command, as a table of its fields (JESD84-B51, section 6.10.4).
use Rattle.std.specs.Prelude.{ℕ, ◌+◌, nat_le, Bool, List}
use Rattle.std.specs.List.{list_all}
use Rattle.cq_words.specs.declared.table.BitField.{BitField}
use Rattle.cq_words.specs.declared.table.FieldValue.{FieldValue}

-- a field and what stands in it
abbrev pub at : BitField → ℕ → FieldValue
at field value = record { field = field; value = value }

-- whether the fields lie in the lowest 32 bits
abbrev pub ends_below_32 : List FieldValue → Bool
ends_below_32 table = list_all (λ entry. nat_le (entry.field.low + entry.field.width) 32) table

abbrev pub bits_from : (low width : ℕ) → BitField
bits_from low width = record { low = low; width = width }

-- CMD13: the address of the card, and bit 15, which asks for the queue status word
abbrev pub rca_bits : BitField
rca_bits = bits_from 16 16

abbrev pub queue_bit : BitField
queue_bit = bits_from 15 1

-- CMD44: reliable write, direction (1 reads), forced programming, priority, and the blocks
abbrev pub reliable_bit : BitField
reliable_bit = bits_from 31 1

abbrev pub read_bit : BitField
read_bit = bits_from 30 1

abbrev pub forced_bit : BitField
forced_bit = bits_from 24 1

abbrev pub high_bit : BitField
high_bit = bits_from 23 1

abbrev pub blocks_bits : BitField
blocks_bits = bits_from 0 16

-- CMD44, CMD46, CMD47 and CMD48: the number of the task
abbrev pub task_bits : BitField
task_bits = bits_from 16 5

-- CMD48: the operation
abbrev pub operation_bits : BitField
operation_bits = bits_from 0 4

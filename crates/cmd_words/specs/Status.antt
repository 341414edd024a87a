-- The device status word (JESD84-B51, section 6.13).
use Rattle.std.specs.Prelude.{ℕ, ◌*◌, ◌+◌, ◌^◌, List, [], ◌∷◌, codes}
use Rattle.std.specs.Int.RustNames.{bit_and, bit_or}
use Rattle.cq_words.specs.declared.table.BitField.{BitField}
use Rattle.cmd_words.specs.Argument.{bits_from}

-- the errors, by the standard's name and bit
abbrev pub error_table : List (List ℕ × ℕ)
error_table =
    (codes "ADDRESS_OUT_OF_RANGE", 2 ^ 31)
    ∷ (codes "ADDRESS_MISALIGN", 2 ^ 30)
    ∷ (codes "ILLEGAL_COMMAND", 2 ^ 22)
    ∷ (codes "DEVICE_ECC_FAILED", 2 ^ 21)
    ∷ (codes "ERROR", 2 ^ 19)
    ∷ (codes "SWITCH_ERROR", 2 ^ 7)
    ∷ []

-- the bits of every error
abbrev pub error_bits : ℕ
error_bits = 2 ^ 31 + 2 ^ 30 + 2 ^ 22 + 2 ^ 21 + 2 ^ 19 + 2 ^ 7

-- the state of the card, and whether it is ready for data
abbrev pub state_bits : BitField
state_bits = bits_from 9 4

abbrev pub ready_bit : BitField
ready_bit = bits_from 8 1

-- the word of a card without an error: state 4 (tran), ready for data
abbrev pub idle_word : ℕ
idle_word = 4 * 2 ^ 9 + 2 ^ 8

-- the word of a set of errors: state 4 (tran), ready for data, and the bits of the set
abbrev pub status_word : ℕ → ℕ
status_word errors = bit_or (bit_and errors error_bits) idle_word

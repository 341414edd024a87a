-- The fields of a word: `width` bits from bit `low` up. The macros FIELD_GET and FIELD_PREP of the Linux kernel
-- (include/linux/bitfield.h), in numbers.
use Rattle.std.specs.Prelude.{ℕ, ◌+◌, ◌*◌, ◌/◌, ◌%◌, ◌^◌}

-- the number in a field
unfoldable pub field_of : (word low width : ℕ) → ℕ
field_of word low width = word / 2 ^ low % 2 ^ width

-- the bits above the field, the new value in it, and the bits below it
unfoldable pub with_field : (word low width value : ℕ) → ℕ
with_field word low width value =
    word / 2 ^ (low + width) * 2 ^ (low + width) + value * 2 ^ low + word % 2 ^ low

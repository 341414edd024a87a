-- A word as a table: fields apart from one another, and the number that stands in each.
use Rattle.std.specs.Prelude.{◌≡◌, ◌<◌, ℕ, ◌+◌, ◌*◌, ◌%◌, ◌^◌, ◌==◌, nat_le, ◌&&◌, ◌||◌, Bool, true, List, [], ◌∷◌, sum_by}
use Rattle.std.specs.List.{list_all}
use Rattle.cq_words.specs.declared.table.BitField.{BitField}
use Rattle.cq_words.specs.declared.table.FieldValue.{FieldValue}
use Rattle.cq_words.specs.Fields.{field_of}

-- the number in a field of a word
abbrev pub number_in : ℕ → BitField → ℕ
number_in word field = field_of word field.low field.width

-- whether a field of one bit is 1
abbrev pub is_set : ℕ → BitField → Bool
is_set word field = number_in word field == 1

abbrev pub is_in_word : BitField → Bool
is_in_word field = nat_le 1 field.width && nat_le field.width 32 && nat_le (field.low + field.width) 64

abbrev pub are_apart : BitField → BitField → Bool
are_apart field other = nat_le (field.low + field.width) other.low || nat_le (other.low + other.width) field.low

-- the fields lie in a word of 64 bits, no two of them on one bit
abbrev pub is_table : List FieldValue → Bool
is_table [] = true
is_table (entry ∷ table) =
    is_in_word entry.field && list_all (λ other. are_apart entry.field other.field) table && is_table table

-- the value, or its low bits where it is too wide for its field
abbrev pub cut_value : FieldValue → ℕ
cut_value entry = entry.value % 2 ^ entry.field.width

-- the word with these fields and no other bit
unfoldable pub word_with : List FieldValue → ℕ
word_with table = sum_by (λ entry. cut_value entry * 2 ^ entry.field.low) table

-- each field of the word has its value
abbrev pub Holds : ℕ → List FieldValue → Type 0
Holds word [] = Unit {0}
Holds word (entry ∷ table) = (number_in word entry.field ≡ entry.value) × Holds word table

-- each value fits its field
abbrev pub Fits : List FieldValue → Type 0
Fits [] = Unit {0}
Fits (entry ∷ table) = (entry.value < 2 ^ entry.field.width) × Fits table

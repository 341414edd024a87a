-- The words that every line is made of. A number and a byte have one spelling each.
use Rattle.std.specs.Prelude.{ℕ, ◌++◌, ◌==◌, Bool, if◌then◌else◌, List, [], ◌∷◌, Option, Some, None, codes, slice_index}
use Rattle.std.specs.List.{join_with_byte, list_all, slice_split}
use Rattle.std.specs.Int.{w32, to_be_bytes}
use Rattle.hex.specs.Hex.{encode_lower}

-- words parted by single spaces
abbrev pub spaced : List (List ℕ) → List ℕ
spaced words = join_with_byte 32 words

-- a line: words parted by single spaces, and a line feed
abbrev pub line : List (List ℕ) → List ℕ
line words = spaced words ++ codes "\n"

-- one word more of a line
abbrev pub word : List ℕ → List ℕ
word text = 32 ∷ text

-- the words between the spaces of a text
abbrev pub words_of : List ℕ → List (List ℕ)
words_of text = slice_split (λ b. b == 32) text

-- the words of what is left of a line, if anything is left
abbrev pub words_left : Option (List ℕ) → List (List ℕ)
words_left None = []
words_left (Some text) = words_of text

-- a byte as two lower case hexadecimal digits
abbrev pub hex_byte : ℕ → List ℕ
hex_byte byte = encode_lower (byte ∷ [])

-- a number of 32 bits as eight digits, the highest first
abbrev pub hex_word : ℕ → List ℕ
hex_word number = encode_lower (to_be_bytes w32 number)

-- whether all bytes equal the first
abbrev pub is_one_byte : List ℕ → Bool
is_one_byte bytes = list_all (λ byte. byte == slice_index bytes 0) bytes

-- a sector's bytes: `fill` and the byte where all are equal, else all digits
unfoldable pub bytes_words : List ℕ → List (List ℕ)
bytes_words bytes = if is_one_byte bytes then codes "fill" ∷ hex_byte (slice_index bytes 0) ∷ [] else encode_lower bytes ∷ []

-- Bytes as two hexadecimal digits.
use Rattle.std.proofs.Common.{◌≡◌, ℕ, ◌+◌, ◌*◌, ◌/◌, ◌%◌, ◌<◌, List, [], ◌∷◌, length, get_or, slice_index, Some, Ok, refl, sym, ap, ◌∙◌, arith}
use Rattle.hex.specs.Hex.{IsBytes, decode_of, encode_lower, encode_with, lower_digits, hex_digit_value}
use Rattle.hex.proofs.HexLemmas.{IsDigits-lower_digits, decode_of-encode_lower}
use Rattle.text_words.specs.Words.{hex_byte}

digits_of_byte : (byte high low : ℕ) → high < 16 → low < 16 → byte ≡ 16 * high + low
    → hex_byte byte ≡ slice_index lower_digits high ∷ slice_index lower_digits low ∷ []
unfolding encode_with
digits_of_byte byte high low fits small is =
    let first : byte / 16 ≡ high = omega arith in
    let second : byte % 16 ≡ low = omega arith in
    rw (first, second) refl

pub spells_byte : (word : List ℕ) (high low : ℕ) → length word ≡ 2 → high < 16 → low < 16 → get_or word 0 0 ≡ slice_index lower_digits high → get_or word 1 0 ≡ slice_index lower_digits low
    → word ≡ hex_byte (16 * high + low)
spells_byte [] high low long fits small first second = absurd (omega arith)
spells_byte (a ∷ []) high low long fits small first second = absurd (omega arith)
spells_byte (a ∷ b ∷ []) high low long fits small first second =
    let digits = digits_of_byte (16 * high + low) high low fits small refl in cc
spells_byte (a ∷ b ∷ d ∷ word) high low long fits small first second = absurd (omega arith)

-- a digit has one value
digit_injective : (m n : ℕ) → m < 16 → n < 16 → slice_index lower_digits m ≡ slice_index lower_digits n → m ≡ n
digit_injective m n fits small same =
    let one = IsDigits-lower_digits m fits in
    let two = IsDigits-lower_digits n small in
    let read : hex_digit_value (slice_index lower_digits m) ≡ hex_digit_value (slice_index lower_digits n) = ap hex_digit_value same in
    let both : Some m ≡ Some n = sym one ∙ read ∙ two in cc

-- a byte has one text, and a text is of one byte
pub hex_byte-injective : (m n : ℕ) → m < 256 → n < 256 → hex_byte m ≡ hex_byte n → m ≡ n
unfolding encode_with
hex_byte-injective m n fits small same =
    let high : m / 16 ≡ n / 16 = digit_injective (m / 16) (n / 16) (omega arith) (omega arith) (cc) in
    let low : m % 16 ≡ n % 16 = digit_injective (m % 16) (n % 16) (omega arith) (omega arith) (cc) in
    omega arith

-- bytes have one text, and a text is of one list of bytes
pub encode_lower-injective : (xs ys : List ℕ) → IsBytes xs → IsBytes ys → encode_lower xs ≡ encode_lower ys → xs ≡ ys
encode_lower-injective xs ys fits small same =
    let one = decode_of-encode_lower xs fits in
    let two = decode_of-encode_lower ys small in
    let read = ap (λ (text : List ℕ). decode_of text) same in
    let both : Ok xs ≡ Ok ys = sym one ∙ read ∙ two in
    cc

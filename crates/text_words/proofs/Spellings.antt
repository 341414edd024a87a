-- Numbers and bytes are words.
use Rattle.std.proofs.Common.{ℕ, zero, suc, ◌+◌, ◌/◌, ◌%◌, ◌^◌, ◌<◌, List, [], ◌∷◌, ◌++◌, length, decimal, refl, arith}
use Rattle.std.specs.Prelude.{slice_index}
use Rattle.std.proofs.lemmas.Fmt.{decimal_by_steps}
use Rattle.std.proofs.lemmas.List.Elements.{All-nil, All-cons, All-append, All-get_or}
use Rattle.hex.specs.Hex.{IsBytes, encode_lower, encode_with, lower_digits}
use Rattle.text_words.specs.Words.{hex_byte}
use Rattle.text_words.proofs.Lines.{IsWord, word_from_test}

pub decimal_word : (n : ℕ) → n < 2 ^ 32 → IsWord (decimal n)
decimal_word n fits =
    decimal_by_steps (λ n digits. IsWord digits) (λ n small. All-cons (λ b. 32 < b) (48 + n) [] (omega arith) (All-nil (λ b. 32 < b)))
    (λ n digits big front. All-append (λ b. 32 < b) digits ((48 + n % 10) ∷ []) front (All-cons (λ b. 32 < b) (48 + n % 10) [] (omega arith) (All-nil (λ b. 32 < b))))
    n (omega arith)

digit_above : (d : ℕ) → d < 16 → 32 < slice_index lower_digits d
digit_above d fits = All-get_or (λ b. 32 < b) lower_digits d 0 fits (word_from_test lower_digits refl)

-- the digits of bytes are a word
pub digits_word : (bytes : List ℕ) → IsBytes bytes → IsWord (encode_lower bytes)
unfolding encode_with
digits_word [] fits = All-nil (λ b. 32 < b)
digits_word (byte ∷ bytes) fits =
    let small : byte < 256 = fits 0 in
    let rest = digits_word bytes (λ k. fits (suc k)) in
    All-cons (λ b. 32 < b) (slice_index lower_digits (byte / 16)) (slice_index lower_digits (byte % 16) ∷ encode_lower bytes) (digit_above (byte / 16) (omega arith))
    (All-cons (λ b. 32 < b) (slice_index lower_digits (byte % 16)) (encode_lower bytes) (digit_above (byte % 16) (omega arith)) rest)

one_byte : (byte : ℕ) → byte < 256 → IsBytes (byte ∷ [])
one_byte byte fits zero = fits
one_byte byte fits (suc k) = omega arith

pub byte_word : (byte : ℕ) → byte < 256 → IsWord (hex_byte byte)
byte_word byte fits = digits_word (byte ∷ []) (one_byte byte fits)

abbrev BeginsWithDigit : List ℕ → Type 0
BeginsWithDigit digits = (0 < length digits) × (47 < slice_index digits 0) × (slice_index digits 0 < 58)

front_digit : (digits more : List ℕ) → BeginsWithDigit digits → BeginsWithDigit (digits ++ more)
front_digit [] more digit = absurd (omega (arith, digit.0))
front_digit (d ∷ digits) more digit = (omega arith, digit.1, digit.2)

decimal_digits : (n : ℕ) → n < 2 ^ 32 → BeginsWithDigit (decimal n)
decimal_digits n fits =
    decimal_by_steps (λ n digits. BeginsWithDigit digits) (λ n small. (omega arith, omega arith, omega arith))
    (λ n digits big front. front_digit digits ((48 + n % 10) ∷ []) front) n (omega arith)

-- a number begins with a digit
pub decimal_low : (n : ℕ) → n < 2 ^ 32 → slice_index (decimal n) 0 < 58
decimal_low n fits = (decimal_digits n fits).2

pub decimal_high : (n : ℕ) → n < 2 ^ 32 → 47 < slice_index (decimal n) 0
decimal_high n fits = (decimal_digits n fits).1

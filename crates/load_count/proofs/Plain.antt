-- Words without spaces and line feeds: all those of a trace.
use Rattle.std.proofs.Common.{◌≡◌, ◌==◌, ℕ, zero, suc, ◌+◌, ◌/◌, ◌%◌, ◌<◌, Bool, true, false, ◌&&◌, if◌then◌else◌, List, [], ◌∷◌, decimal, refl, le-ltb, lt-ltb, ne_eqb, arith}
use Rattle.std.specs.Prelude.{slice_index, not}
use Rattle.std.specs.Fmt.{digit_glyph, digits, digits_onto}
use Rattle.std.proofs.lemmas.Bool.{and_from, and_parts, not-true}
use Rattle.hex.specs.Hex.{encode_lower, encode_with, lower_digits}
use Rattle.load_count.specs.Lines.{is_digit}

abbrev pub plain_byte : ℕ → Bool
plain_byte b = not (b == 32) && not (b == 10)

abbrev pub plain : List ℕ → Bool
plain [] = true
plain (b ∷ word) = plain_byte b && plain word

abbrev pub ArePlain : List (List ℕ) → Type 0
ArePlain [] = Unit {0}
ArePlain (word ∷ words) = (plain word ≡ true) × ArePlain words

-- a number begins with a digit, and all of it is plain
pub record IsNumber (word : List ℕ) : Type 0 where
  pub first : ℕ
  pub rest : List ℕ
  pub is : word ≡ first ∷ rest
  pub digit : is_digit first ≡ true
  pub plain : plain word ≡ true

pick : (b : Bool) (x y : List ℕ) → IsNumber x → IsNumber y → IsNumber (if b then x else y)
pick true x y one other = one
pick false x y one other = other

-- a digit in front of others
digit_more : (d : ℕ) (word : List ℕ) → d < 10 → plain word ≡ true → IsNumber ((48 + d) ∷ word)
digit_more d word small rest = record {
  first = 48 + d;
  rest = word;
  is = refl;
  digit = rw (le-ltb (48 + d) 48 (omega arith), lt-ltb (48 + d) 58 (omega arith)) refl;
  plain = rw (ne_eqb (48 + d) 32 (λ is. omega arith), ne_eqb (48 + d) 10 (λ is. omega arith)) rest;
}

glyph_more : (n : ℕ) (word : List ℕ) → plain word ≡ true → IsNumber (digit_glyph false (n % 10) ∷ word)
glyph_more n word rest = rw (lt-ltb (n % 10) 10 (omega arith)) (digit_more (n % 10) word (omega arith) rest)

digits_more : (k n : ℕ) (word : List ℕ) → IsNumber word → IsNumber (digits_onto k 10 false n word)
digits_more zero n word is = is
digits_more (suc k) n word is =
    let more = glyph_more n word is.plain in
    pick (n / 10 == 0) (digit_glyph false (n % 10) ∷ word) (digits_onto k 10 false (n / 10) (digit_glyph false (n % 10) ∷ word)) more
    (digits_more k (n / 10) (digit_glyph false (n % 10) ∷ word) more)

pub number : (n : ℕ) → IsNumber (decimal n)
unfolding digits
number n =
    let one = glyph_more n [] refl in
    pick (n / 10 == 0) (digit_glyph false (n % 10) ∷ []) (digits_onto 63 10 false (n / 10) (digit_glyph false (n % 10) ∷ [])) one
    (digits_more 63 (n / 10) (digit_glyph false (n % 10) ∷ []) one)

one_of_plain : (word : List ℕ) (k : ℕ) → plain word ≡ true → plain_byte (slice_index word k) ≡ true
one_of_plain [] k h = refl
one_of_plain (b ∷ word) zero h = (and_parts (plain_byte b) (plain word) h).0
one_of_plain (b ∷ word) (suc k) h = one_of_plain word k (and_parts (plain_byte b) (plain word) h).1

pub hex_plain : (bytes : List ℕ) → plain (encode_lower bytes) ≡ true
unfolding encode_with
hex_plain [] = refl
hex_plain (b ∷ bytes) =
    and_from (plain_byte (slice_index lower_digits (b / 16))) (plain_byte (slice_index lower_digits (b % 16)) && plain (encode_lower bytes)) (one_of_plain lower_digits (b / 16) refl)
    (and_from (plain_byte (slice_index lower_digits (b % 16))) (plain (encode_lower bytes)) (one_of_plain lower_digits (b % 16) refl) (hex_plain bytes))

pub unspaced : (b : ℕ) → plain_byte b ≡ true → (b == 32) ≡ false
unspaced b h = not-true (b == 32) (and_parts (not (b == 32)) (not (b == 10)) h).0

pub unended : (b : ℕ) → plain_byte b ≡ true → (b == 10) ≡ false
unended b h = not-true (b == 10) (and_parts (not (b == 32)) (not (b == 10)) h).1

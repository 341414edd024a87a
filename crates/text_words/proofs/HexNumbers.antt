-- A number has one hexadecimal text, and lower case digits without a leading zero are the text of their number.
use Rattle.std.proofs.Common.{◌≡◌, ◌≢◌, ◌⊎◌, inl, inr, ℕ, zero, suc, ◌+◌, ◌-◌, ◌*◌, ◌/◌, ◌%◌, ◌^◌, ◌<◌, ◌≤◌, Bool, true, false, cond, ltb, List, [], ◌∷◌, ◌++◌, length, get_or, Result, Ok, Err, refl, sym, ap, subst, ◌∙◌, arith, append_assoc}
use Rattle.std.specs.Prelude.{All, slice_index}
use Rattle.std.specs.Char.{digit_value}
use Rattle.std.specs.Fmt.{digit_glyph, digits_onto, digits}
use Rattle.std.specs.Str.{IsAscii}
use Rattle.std.specs.Str.Parse.{AllDigits, digits_value, digits_value_after, without_leading_plus, ParsesUnsigned}
use Rattle.std.proofs.lemmas.Fmt.{digits_is_IsNumeral, hex_one_digit}
use Rattle.std.proofs.lemmas.List.{append-nil, length-append, get_or_append_left}
use Rattle.std.proofs.lemmas.List.Elements.{All-nil, All-cons, All-head, All-tail, All-append}
use Rattle.std.proofs.lemmas.Str.Parse.{without_leading_plus_none}
use Rattle.std.proofs.lemmas.Bool.{eq-eqb, ne_eqb}
use Rattle.std.proofs.lemmas.Bool.Decides.{nat_tests}
use Rattle.text_words.proofs.Lines.{IsWord}
use Rattle.text_words.specs.HexNumber.{HasLeadingZero, IsLowerDigit, hex_number}

order : (n m : ℕ) → (n < m) ⊎ (m ≤ n)
order n zero = inr (omega arith)
order zero (suc m) = inl (omega arith)
order (suc n) (suc m) = elim (order n m) [ inl less ↦ inl (omega arith) | inr more ↦ inr (omega arith) ]

abbrev spell : ℕ → ℕ → List ℕ → List ℕ
spell k n acc = digits_onto k 16 false n acc

abbrev last_glyph : ℕ → ℕ
last_glyph n = digit_glyph false (n % 16)

spelled : (n : ℕ) → spell 64 n [] ≡ hex_number n
unfolding digits
spelled n = refl

spell_last : (k n : ℕ) (acc : List ℕ) → n < 16 → spell (suc k) n acc ≡ last_glyph n ∷ acc
spell_last k n acc h = ap (λ t. cond t (last_glyph n ∷ acc) (spell k (n / 16) (last_glyph n ∷ acc))) (eq-eqb (n / 16) 0 (omega arith))

spell_next : (k n : ℕ) (acc : List ℕ) → 16 ≤ n → spell (suc k) n acc ≡ spell k (n / 16) (last_glyph n ∷ acc)
spell_next k n acc h = ap (λ t. cond t (last_glyph n ∷ acc) (spell k (n / 16) (last_glyph n ∷ acc))) (ne_eqb (n / 16) 0 (λ e. omega arith))

spell-append : (k n : ℕ) (acc : List ℕ) → spell k n acc ≡ spell k n [] ++ acc
spell-append zero n acc = refl
spell-append (suc k) n acc =
    elim (order n 16) [
      | inl less ↦ spell_last k n acc less ∙ ap (λ x. x ++ acc) (sym (spell_last k n [] less))
      | inr more ↦ (
          spell_next k n acc more ∙ spell-append k (n / 16) (last_glyph n ∷ acc)
          ∙ sym (append_assoc (spell k (n / 16) []) (last_glyph n ∷ []) acc)
          ∙ ap (λ x. x ++ acc) (sym (spell_next k n [] more ∙ spell-append k (n / 16) (last_glyph n ∷ [])))
          )
    ]

-- the limit on digits does not matter once it is large enough
spell_enough : (j k n : ℕ) (acc : List ℕ) → n < 16 ^ suc j → n < 16 ^ suc k → spell (suc j) n acc ≡ spell (suc k) n acc
spell_enough zero k n acc p q = spell_last zero n acc (omega arith) ∙ sym (spell_last k n acc (omega arith))
spell_enough (suc j) zero n acc p q = spell_last (suc j) n acc (omega arith) ∙ sym (spell_last zero n acc (omega arith))
spell_enough (suc j) (suc k) n acc p q =
    elim (order n 16) [
      | inl less ↦ spell_last (suc j) n acc less ∙ sym (spell_last (suc k) n acc less)
      | inr more ↦ spell_next (suc j) n acc more ∙ spell_enough j k (n / 16) (last_glyph n ∷ acc) (omega arith) (omega arith) ∙ sym (spell_next (suc k) n acc more)
    ]

-- the last digit stands behind those of the number without it
hex_step : (n : ℕ) → 16 ≤ n → n < 16 ^ 64 → hex_number n ≡ hex_number (n / 16) ++ last_glyph n ∷ []
hex_step n more fits =
    sym (spelled n) ∙ spell_next 63 n [] more ∙ spell_enough 62 63 (n / 16) (last_glyph n ∷ []) (omega arith) (omega arith) ∙ spell-append 64 (n / 16) (last_glyph n ∷ [])
    ∙ ap (λ x. x ++ last_glyph n ∷ []) (spelled (n / 16))

-- one digit, and then one more at the end
by_steps : (P : ℕ → List ℕ → Type 0) → ((n : ℕ) → n < 16 → P n (digit_glyph false n ∷ [])) → ((n : ℕ) (front : List ℕ) → 16 ≤ n → P (n / 16) front → P n (front ++ last_glyph n ∷ []))
    → (k n : ℕ) → n ≤ k → n < 16 ^ 64 → P n (hex_number n)
by_steps P one more zero n le fits = subst (P n) (sym (hex_one_digit false n (omega arith))) (one n (omega arith))
by_steps P one more (suc k) n le fits =
    elim (order n 16) [
      | inl less ↦ subst (P n) (sym (hex_one_digit false n less)) (one n less)
      | inr many ↦ subst (P n) (sym (hex_step n many fits)) (more n (hex_number (n / 16)) many (by_steps P one more k (n / 16) (omega arith) (omega arith)))
    ]

-- a digit below sixteen
record Glyph (d c : ℕ) : Type 0 where
  lower : IsLowerDigit c
  zero_only : c ≡ 48 → d ≡ 0

glyph : (d : ℕ) → d < 16 → Glyph d (digit_glyph false d)
glyph d fits = by (ltb d 10) refl
  where
    by : (t : Bool) → ltb d 10 ≡ t → Glyph d (cond t (48 + d) (87 + d))
    by true e = record { lower = inl (grind (arith, nat_tests)); zero_only = λ h. omega arith }
    by false e = record { lower = inr (grind (arith, nat_tests)); zero_only = λ h. omega arith }

abbrev IsPlain : ℕ → List ℕ → Type 0
IsPlain n digits = All IsLowerDigit digits × (0 < length digits) × (slice_index digits 0 ≡ 48 → n ≡ 0) × (n < 16 → length digits ≡ 1)

plain_step : (n : ℕ) (front : List ℕ) → 16 ≤ n → IsPlain (n / 16) front → IsPlain n (front ++ last_glyph n ∷ [])
plain_step n front many plain =
    let last = glyph (n % 16) (omega arith) in
    let long = length-append front (last_glyph n ∷ []) in (
      All-append IsLowerDigit front (last_glyph n ∷ []) plain.0 (All-cons IsLowerDigit (last_glyph n) [] last.lower (All-nil IsLowerDigit)),
      omega (arith, long),
      λ e. absurd (omega (arith, plain.2 (sym (get_or_append_left front (last_glyph n ∷ []) 0 0 plain.1) ∙ e))),
      λ less. absurd (omega arith),
    )

plain_number : (n : ℕ) → n < 2 ^ 64 → IsPlain n (hex_number n)
plain_number n fits =
    by_steps IsPlain
    (λ m less. (All-cons IsLowerDigit (digit_glyph false m) [] (glyph m less).lower (All-nil IsLowerDigit), omega arith, (glyph m less).zero_only, λ h. refl))
    plain_step n n (omega arith) (omega arith)

-- a number's text is of lower case digits
pub hex_number-lower : (n : ℕ) → n < 2 ^ 64 → All IsLowerDigit (hex_number n)
hex_number-lower n fits = (plain_number n fits).0

pub no_leading_zero : (n : ℕ) → n < 2 ^ 64 → ¬ HasLeadingZero (hex_number n)
no_leading_zero n fits zero_first =
    let plain = plain_number n fits in
    let none = plain.2 zero_first.1 in
    omega (arith, plain.3 (omega arith), zero_first.0)

-- a number below a power of 16 has as few digits
number_short : (k n : ℕ) → n < 16 ^ suc k → n < 16 ^ 64 → length (hex_number n) ≤ suc k
number_short zero n less fits = omega (arith, ap length (hex_one_digit false n (omega arith)))
number_short (suc k) n less fits =
    elim (order n 16) [
      | inl one ↦ omega (arith, ap length (hex_one_digit false n one))
      | inr many ↦ omega (arith, ap length (hex_step n many fits), length-append (hex_number (n / 16)) (last_glyph n ∷ []), number_short k (n / 16) (omega arith) (omega arith))
    ]

pub number_of_8 : (n : ℕ) → n < 2 ^ 32 → length (hex_number n) ≤ 8
number_of_8 n fits = number_short 7 n (omega arith) (omega arith)

lower_above : (c : ℕ) → IsLowerDigit c → 32 < c
lower_above c lower = elim lower [ inl digit ↦ omega arith | inr letter ↦ omega arith ]

word_from_lower : (digits : List ℕ) → All IsLowerDigit digits → IsWord digits
word_from_lower [] lower = All-nil (λ b. 32 < b)
word_from_lower (c ∷ digits) lower =
    All-cons (λ b. 32 < b) c digits (lower_above c (All-head IsLowerDigit c digits lower)) (word_from_lower digits (All-tail IsLowerDigit c digits lower))

pub number_word : (n : ℕ) → n < 2 ^ 64 → IsWord (hex_number n)
number_word n fits = word_from_lower (hex_number n) (hex_number-lower n fits)

lower_ascii : (c : ℕ) → IsLowerDigit c → c < 128
lower_ascii c lower = elim lower [ inl digit ↦ omega arith | inr letter ↦ omega arith ]

pub ascii_from_lower : (digits : List ℕ) → All IsLowerDigit digits → IsAscii digits
ascii_from_lower [] lower i = omega arith
ascii_from_lower (c ∷ digits) lower zero = lower_ascii c (All-head IsLowerDigit c digits lower)
ascii_from_lower (c ∷ digits) lower (suc i) = ascii_from_lower digits (All-tail IsLowerDigit c digits lower) i

-- a number has one text
pub hex_number-injective : (m n : ℕ) → m < 2 ^ 64 → n < 2 ^ 64 → hex_number m ≡ hex_number n → m ≡ n
hex_number-injective m n fits small e =
    sym (digits_is_IsNumeral 16 false (omega arith) (omega arith) m (omega arith)).1 ∙ ap (λ ds. digits_value 16 ds) e
    ∙ (digits_is_IsNumeral 16 false (omega arith) (omega arith) n (omega arith)).1

-- a digit is that of its value
record Valued (c d : ℕ) : Type 0 where
  small : d < 16
  same : digit_glyph false d ≡ c
  zero_only : d ≡ 0 → c ≡ 48

glyph_decimal : (d : ℕ) → d < 10 → digit_glyph false d ≡ 48 + d
glyph_decimal d fits = grind (arith, nat_tests)

glyph_letter : (d : ℕ) → 10 ≤ d → digit_glyph false d ≡ 87 + d
glyph_letter d fits = grind (arith, nat_tests)

value_decimal : (c : ℕ) → 48 ≤ c → c ≤ 57 → digit_value c ≡ c - 48
value_decimal c low high = grind (arith, nat_tests)

value_letter : (c : ℕ) → 97 ≤ c → c ≤ 102 → digit_value c ≡ c - 87
value_letter c low high = grind (arith, nat_tests)

valued : (c : ℕ) → IsLowerDigit c → Valued c (digit_value c)
valued c lower =
    elim lower [
      | inl digit ↦ (
          let value = value_decimal c digit.0 digit.1 in
          record { small = omega (arith, value); same = glyph_decimal (digit_value c) (omega (arith, value)) ∙ omega (arith, value); zero_only = λ e. omega (arith, value) }
          )
      | inr letter ↦ (
          let value = value_letter c letter.0 letter.1 in
          record { small = omega (arith, value); same = glyph_letter (digit_value c) (omega (arith, value)) ∙ omega (arith, value); zero_only = λ e. omega (arith, value) }
          )
    ]

le_value_after : (n : ℕ) (digits : List ℕ) → n ≤ digits_value_after 16 n digits
le_value_after n [] = omega arith
le_value_after n (c ∷ digits) = omega (arith, le_value_after (n * 16 + digit_value c) digits)

value_after : (n : ℕ) (digits : List ℕ) → 0 < n → All IsLowerDigit digits → digits_value_after 16 n digits < 2 ^ 64 → hex_number (digits_value_after 16 n digits) ≡ hex_number n ++ digits
value_after n [] some lower fits = sym (append-nil (hex_number n))
value_after n (c ∷ digits) some lower fits =
    let here = valued c (All-head IsLowerDigit c digits lower) in
    let small = here.small in
    let m : ℕ = n * 16 + digit_value c in
    let front : m / 16 ≡ n = omega arith in
    let end : m % 16 ≡ digit_value c = omega arith in
    value_after m digits (omega arith) (All-tail IsLowerDigit c digits lower) fits
    ∙ ap (λ x. x ++ digits) (hex_step m (omega arith) (omega (arith, le_value_after m digits)) ∙ ap (λ x. hex_number x ++ last_glyph m ∷ []) front ∙ ap (λ x. hex_number n ++ x ∷ []) (ap (λ d. digit_glyph false d) end ∙ here.same))
    ∙ append_assoc (hex_number n) (c ∷ []) digits

-- lower case digits with no leading zero are the text of their number
text_of_value : (word : List ℕ) → All IsLowerDigit word → 0 < length word → ¬ HasLeadingZero word → digits_value 16 word < 2 ^ 64 → word ≡ hex_number (digits_value 16 word)
text_of_value [] lower some plain fits = absurd (omega arith)
text_of_value (c ∷ []) lower some plain fits =
    let here = valued c (All-head IsLowerDigit c [] lower) in
    let value : 0 * 16 + digit_value c ≡ digit_value c = omega arith in
    ap (λ x. x ∷ []) (sym here.same) ∙ sym (hex_one_digit false (digit_value c) here.small) ∙ ap (λ x. hex_number x) (sym value)
text_of_value (c ∷ d ∷ word) lower some plain fits =
    let here = valued c (All-head IsLowerDigit c (d ∷ word) lower) in
    let value : 0 * 16 + digit_value c ≡ digit_value c = omega arith in
    let first : c ≢ 48 = λ e. plain (omega arith, e) in
    let positive : 0 < 0 * 16 + digit_value c = not_zero (0 * 16 + digit_value c) (λ e. first (here.zero_only (sym value ∙ e))) in
    sym (value_after (0 * 16 + digit_value c) (d ∷ word) positive (All-tail IsLowerDigit c (d ∷ word) lower) fits
    ∙ ap (λ x. x ++ d ∷ word) (ap (λ x. hex_number x) value ∙ hex_one_digit false (digit_value c) here.small ∙ ap (λ x. x ∷ []) here.same))
  where
    not_zero : (n : ℕ) → (n ≡ 0 → ⊥) → 0 < n
    not_zero zero other = absurd (other refl)
    not_zero (suc n) other = omega arith

first_lower : (word : List ℕ) → All IsLowerDigit word → get_or word 0 0 ≢ 43
first_lower [] lower e = omega arith
first_lower (c ∷ word) lower e = elim (All-head IsLowerDigit c word lower) [ inl digit ↦ omega arith | inr letter ↦ omega arith ]

abbrev ReadsAs : List ℕ → ℕ → Type 0
ReadsAs ds m = (((0 < length ds) × AllDigits 16 ds) × (digits_value 16 ds < 2 ^ 64)) × (m ≡ digits_value 16 ds)

-- what is read of such digits is the number that they spell
pub read_number : {E : Type 0} (word : List ℕ) (r : Result ℕ E) (n : ℕ) → ParsesUnsigned 64 16 word r → r ≡ Ok n → All IsLowerDigit word → ¬ HasLeadingZero word → (n < 2 ^ 64) × (word ≡ hex_number n)
read_number word (Ok m) n parsed is lower plain =
    let whole = without_leading_plus_none word (first_lower word lower) in
    let P : List ℕ → Type 0 = λ ds. ReadsAs ds m in
    let value = subst P whole (parsed.0, parsed.1) in
    let same : m ≡ n = cc in
    let number : digits_value 16 word ≡ n = sym value.1 ∙ same in
    (omega (arith, value.0.1), text_of_value word lower value.0.0.0 plain value.0.1 ∙ ap (λ x. hex_number x) number)
read_number word (Err e) n parsed is lower plain = absurd (cc)

-- a number's text is read
pub reads_number : {E : Type 0} (word : List ℕ) (r : Result ℕ E) (e : E) (n : ℕ) → ParsesUnsigned 64 16 word r → r ≡ Err e → n < 2 ^ 64 → word ≡ hex_number n → ⊥
reads_number word (Ok m) e n parsed is fits text = cc
reads_number word (Err other) e n parsed is fits text =
    let numeral = digits_is_IsNumeral 16 false (omega arith) (omega arith) n (omega arith) in
    let whole : without_leading_plus word ≡ hex_number n =
    without_leading_plus_none word (first_lower word (subst (λ ds. All IsLowerDigit ds) (sym text) (hex_number-lower n fits))) ∙ text in
    parsed (subst (λ ds. ((0 < length ds) × AllDigits 16 ds) × (digits_value 16 ds < 2 ^ 64)) (sym whole) (numeral.0, omega (arith, numeral.1)))

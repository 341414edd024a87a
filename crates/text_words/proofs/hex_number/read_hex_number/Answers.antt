use Rattle.std.proofs.Common.{◌∙◌, List, ℕ, subst, sym}
use Rattle.std.specs.Prelude.{All}
use Rattle.std.proofs.lemmas.Str.{IsUtf8-from_ascii}
use Rattle.text_words.specs.HexNumber.{HasLeadingZero, IsLowerDigit}
use Rattle.text_words.proofs.HexNumbers.{ascii_from_lower, hex_number-lower, no_leading_zero, read_number, reads_number}
use Rattle.text_words.proofs.hex_number.read_hex_number.Goals as goal

pub returns-then-has_leading_zero : goal.returns-then-has_leading_zero
returns-then-has_leading_zero c = λ n p.
    let P : List ℕ → Type 0 = λ ds. HasLeadingZero ds in
    no_leading_zero n p.0 (subst P p.1 (c.has_leading_zero.ensures.0 c.if-has_leading_zero.true))

pub returns-then-not-are_lower_digits : goal.returns-then-not-are_lower_digits
returns-then-not-are_lower_digits c = λ n p.
    let P : List ℕ → Type 0 = λ ds. All IsLowerDigit ds in
    let found = c.are_lower_digits.ensures.1 (subst P (sym p.1) (hex_number-lower n p.0)) in
    let none = c.if-not-are_lower_digits.true in
    cc

pub returns-in_default : goal.returns-in_default
returns-in_default c = λ n p.
    let word = c.args.word.now in
    c.in_default.ensures.cases.0 (IsUtf8-from_ascii word (ascii_from_lower word (c.are_lower_digits.ensures.0 c.if-not-are_lower_digits.false)))

pub returns-in_default-from_str_radix : goal.returns-in_default-from_str_radix
returns-in_default-from_str_radix c = λ n p.
    reads_number c.in-Ok.text.now c.from_str_radix.result c.in_default-from_str_radix.field-0 n c.from_str_radix.ensures.value c.in_default-from_str_radix.is p.0 (c.in-Ok.ensures.cases.0 ∙ p.1)

pub returns : goal.returns
returns c =
    let number = c.in-Ok-from_str_radix.number in
    let text = c.in-Ok.ensures.cases.0 in
    let L : List ℕ → Type 0 = λ ds. All IsLowerDigit ds in
    let Z : List ℕ → Type 0 = λ ds. HasLeadingZero ds in
    let lower = subst L (sym text) (c.are_lower_digits.ensures.0 c.if-not-are_lower_digits.false) in
    let plain : HasLeadingZero c.in-Ok.text.now → ⊥ = λ z. (let found = c.has_leading_zero.ensures.1 (subst Z text z) in let none = c.if-has_leading_zero.false in cc) in
    let read = read_number c.in-Ok.text.now c.from_str_radix.result number c.from_str_radix.ensures.value c.in-Ok-from_str_radix.is lower plain in
    (read.0, sym text ∙ read.1)

-- The bits of a status word.
use Rattle.std.proofs.Common.{◌≡◌, ℕ, ◌/◌, ◌%◌, ◌^◌, ap, ◌∙◌, refl}
use Rattle.std.specs.Int.RustNames.{bit_and, bit_or}
use Rattle.std.specs.Int.Bits.{and_zero_r, or_zero_l}
use Rattle.std.proofs.lemmas.Nat.{and_or_apart, and_assoc, or_shr, or_mod, and_shr, and_mod}
use Rattle.cq_words.specs.Fields.{field_of}
use Rattle.cmd_words.specs.Status.{error_bits, idle_word, status_word}

-- the word shows the errors
pub word-errors : (errors : ℕ) → bit_and (status_word errors) error_bits ≡ bit_and errors error_bits
word-errors errors = and_or_apart error_bits (bit_and errors error_bits) idle_word refl ∙ and_assoc error_bits errors error_bits

-- a field of the word in which no error stands has what it has in the word of a card without an error
pub word-field : (errors low width : ℕ) → field_of error_bits low width ≡ 0 → field_of (status_word errors) low width ≡ field_of idle_word low width
unfolding field_of
word-field errors low width apart =
    let split : field_of (status_word errors) low width ≡ bit_or (field_of (bit_and errors error_bits) low width) (field_of idle_word low width) =
    ap (λ x. x % 2 ^ width) (or_shr (bit_and errors error_bits) idle_word low) ∙ or_mod (bit_and errors error_bits / 2 ^ low) (idle_word / 2 ^ low) width in
    let none : field_of (bit_and errors error_bits) low width ≡ 0 =
    ap (λ x. x % 2 ^ width) (and_shr errors error_bits low) ∙ and_mod (errors / 2 ^ low) (error_bits / 2 ^ low) width
    ∙ ap (λ x. bit_and (errors / 2 ^ low % 2 ^ width) x) apart ∙ and_zero_r (errors / 2 ^ low % 2 ^ width) in
    split ∙ ap (λ x. bit_or x (field_of idle_word low width)) none ∙ or_zero_l (field_of idle_word low width)

-- the state
pub word-state : (errors : ℕ) → field_of (status_word errors) 9 4 ≡ 4
unfolding field_of
word-state errors = word-field errors 9 4 refl

-- ready for data
pub word-ready : (errors : ℕ) → field_of (status_word errors) 8 1 ≡ 1
unfolding field_of
word-ready errors = word-field errors 8 1 refl

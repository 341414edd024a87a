-- A sector's bytes are `fill` and a byte, or one word of digits.
use Rattle.std.proofs.Common.{◌≡◌, ◌≢◌, ◌⊎◌, inl, inr, ℕ, Bool, true, false, List, [], ◌∷◌, codes, refl}
use Rattle.std.specs.Prelude.{slice_index}
use Rattle.hex.specs.Hex.{encode_lower}
use Rattle.text_words.specs.Words.{bytes_words, hex_byte, is_one_byte}

pub bytes_fill : (bytes : List ℕ) → is_one_byte bytes ≡ true → bytes_words bytes ≡ codes "fill" ∷ hex_byte (slice_index bytes 0) ∷ []
unfolding bytes_words
bytes_fill bytes same = rw same refl

pub bytes_digits : (bytes : List ℕ) → is_one_byte bytes ≡ false → bytes_words bytes ≡ encode_lower bytes ∷ []
unfolding bytes_words
bytes_digits bytes other = rw other refl

pub either : (b : Bool) → (b ≡ true) ⊎ (b ≡ false)
either true = inl refl
either false = inr refl

pub bytes_words-some : (bytes : List ℕ) → bytes_words bytes ≢ []
bytes_words-some bytes none =
    elim (either (is_one_byte bytes)) [
      | inl same ↦ (let words = bytes_fill bytes same in cc)
      | inr other ↦ (let words = bytes_digits bytes other in cc)
    ]

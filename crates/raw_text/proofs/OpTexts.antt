-- The text of an operation is a line of its words, which no other line is.
use Rattle.std.proofs.Common.{◌≡◌, ◌≢◌, ℕ, ◌+◌, ◌<◌, List, [], ◌∷◌, ◌++◌, length, codes, decimal, Option, Some, None, Result, Ok, Err, refl, sym, ap, ◌∙◌, arith, append_assoc}
use Rattle.std.specs.Prelude.{All, IfOk}
use Rattle.std.proofs.lemmas.List.{length-append}
use Rattle.std.proofs.lemmas.List.Elements.{All-nil, All-cons}
use Rattle.std.proofs.lemmas.List.Splits.{join_with_byte-slice_split}
use Rattle.hex.specs.Hex.{encode_lower}
use Rattle.text_words.specs.Reads.{Reads}
use Rattle.text_words.specs.Words.{hex_byte, spaced, words_of}
use Rattle.text_words.proofs.Lines.{IsFree, IsWord, first_part, free_words, line_free, word_from_test, words_of-words}
use Rattle.text_words.proofs.Spellings.{byte_word, decimal_word, digits_word}
use Rattle.raw_text.specs.declared.op.RawOp.{RawOp}
use Rattle.raw_text.specs.declared.op.RawOp.TheVariants.{Poke, Fill, Peek, Write, Read, Go, Show, Discard}
use Rattle.text_words.specs.HexNumber.{hex_number}
use Rattle.raw_text.specs.Raw.{IsOp, op_text, op_words}
use Rattle.text_words.proofs.HexNumbers.{number_word}
use Rattle.raw_text.proofs.OpWords.{same_op}

abbrev ArePlain : List (List ℕ) → Type 0
ArePlain words = All IsWord words

plain : (word : List ℕ) (words : List (List ℕ)) → IsWord word → ArePlain words → ArePlain (word ∷ words)
plain word words one more = All-cons IsWord word words one more

none_plain : ArePlain []
none_plain = All-nil IsWord

op_words-plain : (op : RawOp) → IsOp op → ArePlain (op_words op)
op_words-plain (Poke address bytes) valid = plain (codes "poke") (hex_number address ∷ encode_lower bytes ∷ []) (word_from_test (codes "poke") refl) (plain (hex_number address) (encode_lower bytes ∷ []) (number_word address valid.0) (plain (encode_lower bytes) [] (digits_word bytes valid.1.each) none_plain))
op_words-plain (Fill address count value) valid = plain (codes "fill") (hex_number address ∷ decimal count ∷ hex_byte value ∷ []) (word_from_test (codes "fill") refl) (plain (hex_number address) (decimal count ∷ hex_byte value ∷ []) (number_word address valid.0) (plain (decimal count) (hex_byte value ∷ []) (decimal_word count (omega (arith, valid.2))) (plain (hex_byte value) [] (byte_word value valid.3) none_plain)))
op_words-plain (Peek address count) valid = plain (codes "peek") (hex_number address ∷ decimal count ∷ []) (word_from_test (codes "peek") refl) (plain (hex_number address) (decimal count ∷ []) (number_word address valid.0) (plain (decimal count) [] (decimal_word count (omega (arith, valid.2))) none_plain))
op_words-plain (Write reg value) valid = plain (codes "w") (hex_byte reg ∷ hex_number value ∷ []) (word_from_test (codes "w") refl) (plain (hex_byte reg) (hex_number value ∷ []) (byte_word reg valid.0) (plain (hex_number value) [] (number_word value (omega (arith, valid.1))) none_plain))
op_words-plain (Read reg) valid = plain (codes "r") (hex_byte reg ∷ []) (word_from_test (codes "r") refl) (plain (hex_byte reg) [] (byte_word reg valid) none_plain)
op_words-plain Go valid = plain (codes "go") [] (word_from_test (codes "go") refl) none_plain
op_words-plain (Show sector) valid = plain (codes "show") (decimal sector ∷ []) (word_from_test (codes "show") refl) (plain (decimal sector) [] (decimal_word sector valid) none_plain)
op_words-plain Discard valid = plain (codes "discard") [] (word_from_test (codes "discard") refl) none_plain

op_words-some : (op : RawOp) → op_words op ≢ []
op_words-some (Poke address bytes) none = cc
op_words-some (Fill address count value) none = cc
op_words-some (Peek address count) none = cc
op_words-some (Write reg value) none = cc
op_words-some (Read reg) none = cc
op_words-some Go none = cc
op_words-some (Show sector) none = cc
op_words-some Discard none = cc

-- the words between the spaces of an operation's line are its words
words_of-op : (op : RawOp) → IsOp op → words_of (spaced (op_words op)) ≡ op_words op
words_of-op op valid = words_of-words (op_words op) (op_words-some op) (free_words (op_words op) (op_words-plain op valid))

words_from_line : (text : List ℕ) (op : RawOp) → IsOp op → text ≡ spaced (op_words op) → words_of text ≡ op_words op
words_from_line text op valid is = ap words_of is ∙ words_of-op op valid

line_from_words : (text : List ℕ) (op : RawOp) → words_of text ≡ op_words op → text ≡ spaced (op_words op)
line_from_words text op is = sym (join_with_byte-slice_split 32 text) ∙ ap spaced is

-- what is read of the words is read of the line
reads_line : (text first : List ℕ) (words : List (List ℕ)) (result : Option RawOp) → words_of text ≡ first ∷ words
    → Reads result (λ op. IsOp op × (first ∷ words ≡ op_words op)) → Reads result (λ op. IsOp op × (text ≡ spaced (op_words op)))
reads_line text first words None parts none = λ op p. none op (p.0, sym parts ∙ words_from_line text op p.0 p.1)
reads_line text first words (Some op) parts some = (some.0, line_from_words text op (parts ∙ some.1))

pub reads_line_ok : {E : Type 0} (text first : List ℕ) (words : List (List ℕ)) (result : Result (Option RawOp) E) → words_of text ≡ first ∷ words
    → IfOk result (λ read. Reads read (λ op. IsOp op × (first ∷ words ≡ op_words op))) → IfOk result (λ read. Reads read (λ op. IsOp op × (text ≡ spaced (op_words op))))
reads_line_ok text first words (Ok read) parts ok = reads_line text first words read parts ok
reads_line_ok text first words (Err e) parts ok = ok

-- what stands before the line feed of an operation's text
pub op_text-line : (op : RawOp) (after : List ℕ) → op_text op ++ after ≡ spaced (op_words op) ++ 10 ∷ after
unfolding op_text
op_text-line op after = append_assoc (spaced (op_words op)) (codes "\n") after

pub op_text-length : (op : RawOp) → length (op_text op) ≡ length (spaced (op_words op)) + 1
unfolding op_text
op_text-length op = length-append (spaced (op_words op)) (codes "\n")

pub op_line_free : (op : RawOp) → IsOp op → IsFree 10 (spaced (op_words op))
op_line_free op valid = line_free (op_words op) (op_words-plain op valid)

-- the first line of a text, if it is an operation's
pub op_line : (op : RawOp) (text after front rest : List ℕ) → IsOp op → text ≡ front ++ 10 ∷ rest → IsFree 10 front → text ≡ op_text op ++ after
    → (front ≡ spaced (op_words op)) × (rest ≡ after)
op_line op text after front rest valid parts free is =
    first_part 10 front (spaced (op_words op)) rest after free (op_line_free op valid) (sym parts ∙ is ∙ op_text-line op after)

-- a text that begins with an operation's line
pub op_parts : (op : RawOp) (text front after : List ℕ) → text ≡ front ++ 10 ∷ after → front ≡ spaced (op_words op) → text ≡ op_text op ++ after
op_parts op text front after parts is = parts ∙ ap (λ t. t ++ 10 ∷ after) is ∙ sym (op_text-line op after)

-- an operation's text isn't empty
pub op_text-long : (op : RawOp) → 0 < length (op_text op)
op_text-long op = omega (arith, op_text-length op)

-- no text of an operation begins another, and it has one meaning
pub one_op : (op other : RawOp) (x y : List ℕ) → IsOp op → IsOp other → op_text op ++ x ≡ op_text other ++ y → (op ≡ other) × (x ≡ y)
one_op op other x y valid sound same =
    let parts = op_line other (op_text op ++ x) y (spaced (op_words op)) x sound (op_text-line op x) (op_line_free op valid) same in
    (same_op op other valid sound (sym (words_of-op op valid) ∙ words_from_line (spaced (op_words op)) other sound parts.0), parts.1)

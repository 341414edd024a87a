-- The text of an item is a line of its words, which no other line is.
use Rattle.std.proofs.Common.{◌+◌, ◌≡◌, ◌≢◌, inl, inr, ℕ, ◌^◌, ◌<◌, Bool, true, false, List, [], ◌∷◌, ◌++◌, length, codes, decimal, Option, Some, None, refl, sym, ap, subst, ◌∙◌, arith, rules, append_assoc}
use Rattle.std.specs.Prelude.{All, IfSome, slice_index}
use Rattle.std.specs.Int.{w32, to_be_bytes}
use Rattle.std.proofs.lemmas.List.Elements.{All-nil, All-cons}
use Rattle.std.proofs.lemmas.List.{length-append}
use Rattle.std.proofs.lemmas.List.Splits.{join_with_byte-slice_split}
use Rattle.hex.specs.Hex.{encode_lower}
use Rattle.storage_model.specs.declared.block.Block.{Block}
use Rattle.storage_model.specs.declared.faults.BusKind.{BusKind}
use Rattle.storage_model.specs.declared.faults.BusKind.TheVariants.{Lost as LostCommand, NoResp, Bad as BadBlock, Late}
use Rattle.storage_model.specs.declared.faults.Letter.{Letter}
use Rattle.storage_model.specs.declared.faults.Letter.TheVariants.{Host, Engine, Card as CardLetter, Cut as CutLetter}
use Rattle.storage_model.specs.declared.trace.End.{End}
use Rattle.storage_model.specs.declared.trace.End.TheVariants.{Good, Fault as FaultEnd, Dead, Image}
use Rattle.storage_model.specs.declared.trace.Why.{Why}
use Rattle.storage_model.specs.declared.trace.Why.TheVariants.{Bus as BusFault, Flash as FlashFault}
use Rattle.storage_model.specs.declared.trace.Item.{Item}
use Rattle.storage_model.specs.declared.trace.Limit.{Limit}
use Rattle.storage_model.specs.declared.trace.Limit.TheVariants.{Range, Align}
use Rattle.storage_model.specs.declared.trace.Item.TheVariants.{Card, Issue, Params, Address, Poll, Phase, Discard, Bus, Flash, Recover, Irq, Done, Read, Sector, Status, Fault, Refused, Cut, Lost, On, Left, Turn, Off}
use Rattle.text_words.specs.Reads.{Reads}
use Rattle.text_words.specs.Words.{hex_byte, hex_word, is_one_byte, spaced, words_of}
use Rattle.text_words.proofs.Lines.{IsFree, IsWord, first_part, free_words, line_free, not_free, word_from_test, words_of-words}
use Rattle.text_words.proofs.Spellings.{byte_word, decimal_word, digits_word}
use Rattle.trace_text.specs.Trace.{IsBlock, IsItem, IsKind, data_words, end_text, id_text, item_text, item_words, kept_words, kind_words, letter_text, limit_text, lines_text, why_text}
use Rattle.text_words.proofs.LineTexts.{IsLine, line_is}
use Rattle.text_words.proofs.Sectors.{either}
use Rattle.trace_text.proofs.ItemWords.{data_digits, data_fill, data_words-some}

hex_word_word : (n : ℕ) → n < 2 ^ 32 → IsWord (hex_word n)
hex_word_word n fits = digits_word (to_be_bytes w32 n) (search rules)

lines_word : (lines : Option ℕ) → IfSome lines (λ n. n < 2 ^ 16) → IsWord (lines_text lines)
lines_word (Some n) fits = decimal_word n (omega arith)
lines_word None fits = word_from_test (codes "off") refl

id_word : (id : Option ℕ) → IfSome id (λ n. n < 2 ^ 32) → IsWord (id_text id)
id_word (Some n) fits = decimal_word n fits
id_word None fits = word_from_test (codes "-") refl

why_word : (why : Why) → IsWord (why_text why)
why_word BusFault = word_from_test (codes "bus") refl
why_word FlashFault = word_from_test (codes "flash") refl

limit_word : (limit : Limit) → IsWord (limit_text limit)
limit_word Range = word_from_test (codes "range") refl
limit_word Align = word_from_test (codes "align") refl

letter_word : (letter : Letter) → IsWord (letter_text letter)
letter_word Host = word_from_test (codes "h") refl
letter_word Engine = word_from_test (codes "e") refl
letter_word CardLetter = word_from_test (codes "c") refl
letter_word CutLetter = word_from_test (codes "x") refl

end_word : (end : End) → IsWord (end_text end)
end_word Good = word_from_test (codes "ok") refl
end_word FaultEnd = word_from_test (codes "fault") refl
end_word Dead = word_from_test (codes "dead") refl
end_word Image = word_from_test (codes "image") refl

kept_plain : (kept : Bool) → All IsWord (kept_words kept)
kept_plain true = All-cons IsWord (codes "kept") [] (word_from_test (codes "kept") refl) (All-nil IsWord)
kept_plain false = All-nil IsWord

kind_plain : (kind : BusKind) (id : Option ℕ) → IsKind kind → IfSome id (λ n. n < 2 ^ 32) → All IsWord (kind_words kind id)
kind_plain LostCommand id fits small = All-cons IsWord (codes "lost") (id_text id ∷ []) (word_from_test (codes "lost") refl) (All-cons IsWord (id_text id) ([]) (id_word id small) (All-nil IsWord))
kind_plain NoResp id fits small = All-cons IsWord (codes "noresp") (id_text id ∷ []) (word_from_test (codes "noresp") refl) (All-cons IsWord (id_text id) ([]) (id_word id small) (All-nil IsWord))
kind_plain (BadBlock block) id fits small = All-cons IsWord (codes "data") (decimal block ∷ id_text id ∷ []) (word_from_test (codes "data") refl) (All-cons IsWord (decimal block) (id_text id ∷ []) (decimal_word block (omega arith)) (All-cons IsWord (id_text id) ([]) (id_word id small) (All-nil IsWord)))
kind_plain Late id fits small = All-cons IsWord (codes "late") (id_text id ∷ []) (word_from_test (codes "late") refl) (All-cons IsWord (id_text id) ([]) (id_word id small) (All-nil IsWord))

data_plain : (value : Block) → IsBlock value → All IsWord (data_words value)
data_plain value block =
    elim (either (is_one_byte value.0)) [
      | inl same ↦ rw (data_fill value same) (All-cons IsWord (codes "fill") (hex_byte (slice_index value.0 0) ∷ []) (word_from_test (codes "fill") refl) (All-cons IsWord (hex_byte (slice_index value.0 0)) ([]) (byte_word (slice_index value.0 0) (block.bytes 0)) (All-nil IsWord)))
      | inr other ↦ rw (data_digits value other) (All-cons IsWord (encode_lower value.0) ([]) (digits_word value.0 block.bytes) (All-nil IsWord))
    ]

pub item_words-plain : (item : Item) → IsItem item → All IsWord (item_words item)
item_words-plain (Card sectors depth lines) valid = All-cons IsWord (codes "card") (decimal sectors ∷ decimal depth ∷ lines_text lines ∷ []) (word_from_test (codes "card") refl) (All-cons IsWord (decimal sectors) (decimal depth ∷ lines_text lines ∷ []) (decimal_word sectors (valid.0)) (All-cons IsWord (decimal depth) (lines_text lines ∷ []) (decimal_word depth (omega (arith, valid.1))) (All-cons IsWord (lines_text lines) ([]) (lines_word lines valid.2) (All-nil IsWord))))
item_words-plain (Issue id tag) valid = All-cons IsWord (codes "issue") (decimal id ∷ decimal tag ∷ []) (word_from_test (codes "issue") refl) (All-cons IsWord (decimal id) (decimal tag ∷ []) (decimal_word id (valid.0)) (All-cons IsWord (decimal tag) ([]) (decimal_word tag (omega (arith, valid.1))) (All-nil IsWord)))
item_words-plain (Params n id) valid = All-cons IsWord (codes "params") (decimal n ∷ decimal id ∷ []) (word_from_test (codes "params") refl) (All-cons IsWord (decimal n) (decimal id ∷ []) (decimal_word n (valid.0)) (All-cons IsWord (decimal id) ([]) (decimal_word id (valid.1)) (All-nil IsWord)))
item_words-plain (Address n id) valid = All-cons IsWord (codes "address") (decimal n ∷ decimal id ∷ []) (word_from_test (codes "address") refl) (All-cons IsWord (decimal n) (decimal id ∷ []) (decimal_word n (valid.0)) (All-cons IsWord (decimal id) ([]) (decimal_word id (valid.1)) (All-nil IsWord)))
item_words-plain (Poll n mask) valid = All-cons IsWord (codes "poll") (decimal n ∷ hex_word mask ∷ []) (word_from_test (codes "poll") refl) (All-cons IsWord (decimal n) (hex_word mask ∷ []) (decimal_word n (valid.0)) (All-cons IsWord (hex_word mask) ([]) (hex_word_word mask (valid.1)) (All-nil IsWord)))
item_words-plain (Phase n id count kept) valid = All-cons IsWord (codes "phase") (decimal n ∷ decimal id ∷ decimal count ∷ kept_words kept) (word_from_test (codes "phase") refl) (All-cons IsWord (decimal n) (decimal id ∷ decimal count ∷ kept_words kept) (decimal_word n (valid.0)) (All-cons IsWord (decimal id) (decimal count ∷ kept_words kept) (decimal_word id (valid.1)) (All-cons IsWord (decimal count) (kept_words kept) (decimal_word count (omega (arith, valid.2))) (kept_plain kept))))
item_words-plain (Discard n) valid = All-cons IsWord (codes "discard") (decimal n ∷ []) (word_from_test (codes "discard") refl) (All-cons IsWord (decimal n) ([]) (decimal_word n (valid)) (All-nil IsWord))
item_words-plain (Bus n kind id) valid = All-cons IsWord (codes "bus") (decimal n ∷ kind_words kind id) (word_from_test (codes "bus") refl) (All-cons IsWord (decimal n) (kind_words kind id) (decimal_word n (valid.0)) (kind_plain kind id valid.1 valid.2))
item_words-plain (Flash id) valid = All-cons IsWord (codes "flash") (id_text id ∷ []) (word_from_test (codes "flash") refl) (All-cons IsWord (id_text id) ([]) (id_word id valid) (All-nil IsWord))
item_words-plain Recover valid = All-cons IsWord (codes "recover") ([]) (word_from_test (codes "recover") refl) (All-nil IsWord)
item_words-plain (Irq mask) valid = All-cons IsWord (codes "irq") (hex_word mask ∷ []) (word_from_test (codes "irq") refl) (All-cons IsWord (hex_word mask) ([]) (hex_word_word mask (valid)) (All-nil IsWord))
item_words-plain (Done id) valid = All-cons IsWord (decimal id) (codes "ok" ∷ []) (decimal_word id (valid)) (All-cons IsWord (codes "ok") ([]) (word_from_test (codes "ok") refl) (All-nil IsWord))
item_words-plain (Read id) valid = All-cons IsWord (decimal id) (codes "data" ∷ []) (decimal_word id (valid)) (All-cons IsWord (codes "data") ([]) (word_from_test (codes "data") refl) (All-nil IsWord))
item_words-plain (Sector value) valid = data_plain value valid
item_words-plain (Status id number) valid = All-cons IsWord (decimal id) (codes "status" ∷ hex_word number ∷ []) (decimal_word id (valid.0)) (All-cons IsWord (codes "status") (hex_word number ∷ []) (word_from_test (codes "status") refl) (All-cons IsWord (hex_word number) ([]) (hex_word_word number (valid.1)) (All-nil IsWord)))
item_words-plain (Fault id why) valid = All-cons IsWord (decimal id) (codes "fault" ∷ why_text why ∷ []) (decimal_word id (valid)) (All-cons IsWord (codes "fault") (why_text why ∷ []) (word_from_test (codes "fault") refl) (All-cons IsWord (why_text why) ([]) (why_word why) (All-nil IsWord)))
item_words-plain (Refused id why) valid = All-cons IsWord (decimal id) (codes "refused" ∷ limit_text why ∷ []) (decimal_word id (valid)) (All-cons IsWord (codes "refused") (limit_text why ∷ []) (word_from_test (codes "refused") refl) (All-cons IsWord (limit_text why) ([]) (limit_word why) (All-nil IsWord)))
item_words-plain Cut valid = All-cons IsWord (codes "cut") ([]) (word_from_test (codes "cut") refl) (All-nil IsWord)
item_words-plain (Lost id) valid = All-cons IsWord (decimal id) (codes "lost" ∷ []) (decimal_word id (valid)) (All-cons IsWord (codes "lost") ([]) (word_from_test (codes "lost") refl) (All-nil IsWord))
item_words-plain On valid = All-cons IsWord (codes "on") ([]) (word_from_test (codes "on") refl) (All-nil IsWord)
item_words-plain (Left sector value) valid = All-cons IsWord (codes "left") (decimal sector ∷ data_words value) (word_from_test (codes "left") refl) (All-cons IsWord (decimal sector) (data_words value) (decimal_word sector (valid.0)) (data_plain value valid.1))
item_words-plain (Turn letter) valid = All-cons IsWord (codes "turn") (letter_text letter ∷ []) (word_from_test (codes "turn") refl) (All-cons IsWord (letter_text letter) ([]) (letter_word letter) (All-nil IsWord))
item_words-plain (Off end) valid = All-cons IsWord (codes "off") (end_text end ∷ []) (word_from_test (codes "off") refl) (All-cons IsWord (end_text end) ([]) (end_word end) (All-nil IsWord))

item_words-some : (item : Item) → item_words item ≢ []
item_words-some (Card sectors depth lines) none = cc
item_words-some (Issue id tag) none = cc
item_words-some (Params n id) none = cc
item_words-some (Address n id) none = cc
item_words-some (Poll n mask) none = cc
item_words-some (Phase n id count kept) none = cc
item_words-some (Discard n) none = cc
item_words-some (Bus n kind id) none = cc
item_words-some (Flash id) none = cc
item_words-some Recover none = cc
item_words-some (Irq mask) none = cc
item_words-some (Done id) none = cc
item_words-some (Read id) none = cc
item_words-some (Sector value) none = data_words-some value none
item_words-some (Status id number) none = cc
item_words-some (Fault id why) none = cc
item_words-some (Refused id why) none = cc
item_words-some Cut none = cc
item_words-some (Lost id) none = cc
item_words-some On none = cc
item_words-some (Left sector value) none = cc
item_words-some (Turn letter) none = cc
item_words-some (Off end) none = cc

-- the words between the spaces of an item's line are its words
pub words_of-item : (item : Item) → IsItem item → words_of (spaced (item_words item)) ≡ item_words item
words_of-item item valid = words_of-words (item_words item) (item_words-some item) (free_words (item_words item) (item_words-plain item valid))

pub words_from_line : (text : List ℕ) (item : Item) → IsItem item → text ≡ spaced (item_words item) → words_of text ≡ item_words item
words_from_line text item valid is = ap words_of is ∙ words_of-item item valid

line_from_words : (text : List ℕ) (item : Item) → words_of text ≡ item_words item → text ≡ spaced (item_words item)
line_from_words text item is = sym (join_with_byte-slice_split 32 text) ∙ ap spaced is

-- what is read of the words is read of the line
pub reads_line : (text first : List ℕ) (words : List (List ℕ)) (result : Option Item) → words_of text ≡ first ∷ words
    → Reads result (λ item. IsItem item × (first ∷ words ≡ item_words item)) → Reads result (λ item. IsItem item × (text ≡ spaced (item_words item)))
reads_line text first words None parts none = λ item p. none item (p.0, sym parts ∙ words_from_line text item p.0 p.1)
reads_line text first words (Some item) parts some = (some.0, line_from_words text item (parts ∙ some.1))

-- what stands before the line feed of an item's text
pub item_text-line : (item : Item) (after : List ℕ) → item_text item ++ after ≡ spaced (item_words item) ++ 10 ∷ after
unfolding item_text
item_text-line item after = append_assoc (spaced (item_words item)) (codes "\n") after

-- the first line of a text, if it is an item's
pub item_line : (item : Item) (text after front rest : List ℕ) → IsItem item → text ≡ front ++ 10 ∷ rest → IsFree 10 front → text ≡ item_text item ++ after
    → (front ≡ spaced (item_words item)) × (rest ≡ after)
item_line item text after front rest valid parts free is =
    first_part 10 front (spaced (item_words item)) rest after free (line_free (item_words item) (item_words-plain item valid)) (sym parts ∙ is ∙ item_text-line item after)

-- a text that begins with an item's line
pub item_parts : (item : Item) (text front after : List ℕ) → text ≡ front ++ 10 ∷ after → front ≡ spaced (item_words item) → text ≡ item_text item ++ after
item_parts item text front after parts is = parts ∙ ap (λ t. t ++ 10 ∷ after) is ∙ sym (item_text-line item after)

-- a text without a line feed begins with no item
pub no_item : (item : Item) (text after : List ℕ) → IsFree 10 text → text ≡ item_text item ++ after → ⊥
no_item item text after free is =
    let P : List ℕ → Type 0 = λ t. IsFree 10 t in
    not_free 10 (spaced (item_words item)) after (subst P (is ∙ item_text-line item after) free)

-- an item's text isn't empty
pub item_text-long : (item : Item) → 0 < length (item_text item)
unfolding item_text
item_text-long item = omega (arith, length-append {A = ℕ})

-- its words and a line feed
pub item_text-length : (item : Item) → length (item_text item) ≡ length (spaced (item_words item)) + 1
unfolding item_text
item_text-length item = length-append (spaced (item_words item)) (codes "\n")

pub item_is_line : (item : Item) → IsItem item → IsLine (item_text item)
unfolding item_text
item_is_line item valid = line_is (item_words item) (item_words-plain item valid)

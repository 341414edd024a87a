-- The text of a request is a line of its words, which no other line is.
use Rattle.std.proofs.Common.{◌≡◌, ◌≢◌, ℕ, ◌+◌, ◌*◌, Bool, true, false, List, [], ◌∷◌, ◌++◌, length, codes, decimal, refl, sym, ap, ◌∙◌, arith}
use Rattle.std.specs.Prelude.{All, slice_index, ◌==◌}
use Rattle.std.specs.List.{list_any}
use Rattle.std.proofs.lemmas.Fmt.{decimal_injective}
use Rattle.std.proofs.lemmas.List.Elements.{All-nil, All-cons, All-append}
use Rattle.std.proofs.lemmas.List.Splits.{join_with_byte-slice_split}
use Rattle.storage_model.specs.declared.block.Block.{Block}
use Rattle.storage_model.specs.declared.plan.Fill.{Fill}
use Rattle.storage_model.specs.declared.plan.Fill.TheVariants.{Same, Ramp, Listed}
use Rattle.storage_model.specs.declared.plan.Job.{Job}
use Rattle.storage_model.specs.declared.plan.Job.TheVariants.{Read, Write, Flush, Barrier, Status}
use Rattle.text_words.specs.Words.{hex_byte, line, spaced, words_of}
use Rattle.text_words.proofs.Bytes.{hex_byte-injective}
use Rattle.text_words.proofs.Lines.{IsWord, free_words, word_from_test, words_of-words}
use Rattle.text_words.proofs.Spellings.{byte_word, decimal_word}
use Rattle.request_text.specs.declared.request.Contents.{Contents}
use Rattle.request_text.specs.declared.request.Contents.TheVariants.{Fill as FillContents, Ramp as RampContents, Hex as HexContents}
use Rattle.request_text.specs.declared.setting.Setting.{Setting}
use Rattle.request_text.specs.Requests.{IsBlock, IsFill, IsFillAt, IsJob, IsPlacedAt, IsRange, all_words, contents_text, digits_of, fill_words, flag_words, job_words, later_words, listed_by, listed_count}
use Rattle.request_text.specs.Settings.{IsSetting, setting_text, setting_words}
use Rattle.request_text.proofs.Digits.{digits_of-word, same_blocks}
use Rattle.text_words.proofs.LineTexts.{one_line}
use Rattle.request_text.proofs.SettingTexts.{setting_text-is, setting_words-plain}

two_words : (word value : List ℕ) → IsWord word → IsWord value → All IsWord (word ∷ value ∷ [])
two_words word value plain other = All-cons IsWord word (value ∷ []) plain (All-cons IsWord value [] other (All-nil IsWord))

fill_words-plain : (fill : Fill) (digits : List ℕ) → IsFill fill → IsWord digits → All IsWord (fill_words digits fill)
fill_words-plain (Same byte) digits valid plain = two_words (codes "fill") (hex_byte byte) (word_from_test (codes "fill") refl) (byte_word byte valid)
fill_words-plain (Ramp start) digits valid plain = two_words (codes "ramp") (decimal start) (word_from_test (codes "ramp") refl) (decimal_word start (omega (arith, valid)))
fill_words-plain (Listed place) digits valid plain = two_words (codes "hex") digits (word_from_test (codes "hex") refl) plain

flag_words-plain : (word : List ℕ) (set : Bool) → IsWord word → All IsWord (flag_words word set)
flag_words-plain word true plain = All-cons IsWord word [] plain (All-nil IsWord)
flag_words-plain word false plain = All-nil IsWord

later_words-plain : (reliable high : Bool) → All IsWord (later_words reliable high)
later_words-plain reliable high =
    All-append IsWord (flag_words (codes "reliable") reliable) (flag_words (codes "high") high)
    (flag_words-plain (codes "reliable") reliable (word_from_test (codes "reliable") refl)) (flag_words-plain (codes "high") high (word_from_test (codes "high") refl))

all_words-plain : (forced reliable high : Bool) → All IsWord (all_words forced reliable high)
all_words-plain forced reliable high =
    All-append IsWord (flag_words (codes "forced") forced) (later_words reliable high)
    (flag_words-plain (codes "forced") forced (word_from_test (codes "forced") refl)) (later_words-plain reliable high)

range_words-plain : (sector blocks : ℕ) (words : List (List ℕ)) → IsRange sector blocks → All IsWord words → All IsWord (decimal sector ∷ decimal blocks ∷ words)
range_words-plain sector blocks words range plain =
    All-cons IsWord (decimal sector) (decimal blocks ∷ words) (decimal_word sector range.fits) (All-cons IsWord (decimal blocks) words (decimal_word blocks (omega (arith, range.most))) plain)

pub job_words-plain : (job : Job) (digits : List ℕ) → IsJob job → IsWord digits → All IsWord (job_words digits job)
job_words-plain (Read sector blocks high) digits valid plain =
    All-cons IsWord (codes "read") (decimal sector ∷ decimal blocks ∷ flag_words (codes "high") high) (word_from_test (codes "read") refl)
    (range_words-plain sector blocks (flag_words (codes "high") high) valid (flag_words-plain (codes "high") high (word_from_test (codes "high") refl)))
job_words-plain (Write sector blocks fill forced reliable high) digits valid plain =
    All-cons IsWord (codes "write") (decimal sector ∷ decimal blocks ∷ fill_words digits fill ++ all_words forced reliable high) (word_from_test (codes "write") refl)
    (range_words-plain sector blocks (fill_words digits fill ++ all_words forced reliable high) valid.0
    (All-append IsWord (fill_words digits fill) (all_words forced reliable high) (fill_words-plain fill digits valid.1 plain) (all_words-plain forced reliable high)))
job_words-plain Flush digits valid plain = All-cons IsWord (codes "flush") [] (word_from_test (codes "flush") refl) (All-nil IsWord)
job_words-plain Barrier digits valid plain = All-cons IsWord (codes "barrier") [] (word_from_test (codes "barrier") refl) (All-nil IsWord)
job_words-plain Status digits valid plain = All-cons IsWord (codes "status") [] (word_from_test (codes "status") refl) (All-nil IsWord)

job_words-some : (job : Job) (digits : List ℕ) → job_words digits job ≢ []
job_words-some (Read sector blocks high) digits none = cc
job_words-some (Write sector blocks fill forced reliable high) digits none = cc
job_words-some Flush digits none = cc
job_words-some Barrier digits none = cc
job_words-some Status digits none = cc

-- the words between the spaces of a request's line are its words
pub words_of-job : (job : Job) (digits : List ℕ) → IsJob job → IsWord digits → words_of (spaced (job_words digits job)) ≡ job_words digits job
words_of-job job digits valid plain = words_of-words (job_words digits job) (job_words-some job digits) (free_words (job_words digits job) (job_words-plain job digits valid plain))

pub words_from_line : (text : List ℕ) (job : Job) (digits : List ℕ) → IsJob job → IsWord digits → text ≡ spaced (job_words digits job) → words_of text ≡ job_words digits job
words_from_line text job digits valid plain is = ap words_of is ∙ words_of-job job digits valid plain

pub line_from_words : (text : List ℕ) (job : Job) (digits : List ℕ) → words_of text ≡ job_words digits job → text ≡ spaced (job_words digits job)
line_from_words text job digits is = sym (join_with_byte-slice_split 32 text) ∙ ap spaced is

-- the first two bytes of the first word
abbrev mark_of : List (List ℕ) → ℕ
mark_of [] = 0
mark_of (word ∷ words) = slice_index word 0 + 256 * slice_index word 1

-- no setting's words are a request's
words_apart : (setting : Setting) (job : Job) (digits : List ℕ) → setting_words setting ≢ job_words digits job
words_apart setting (Read sector blocks high) digits e = omega (arith, ap mark_of e)
words_apart setting (Write sector blocks fill forced reliable high) digits e = omega (arith, ap mark_of e)
words_apart setting Flush digits e = omega (arith, ap mark_of e)
words_apart setting Barrier digits e = omega (arith, ap mark_of e)
words_apart setting Status digits e = omega (arith, ap mark_of e)

abbrev contents_of : Fill → Contents
contents_of (Same byte) = FillContents
contents_of (Ramp start) = RampContents
contents_of (Listed place) = HexContents

abbrev value_of : List ℕ → Fill → List ℕ
value_of digits (Same byte) = hex_byte byte
value_of digits (Ramp start) = decimal start
value_of digits (Listed place) = digits

fill_words-two : (fill : Fill) (digits : List ℕ) → fill_words digits fill ≡ contents_text (contents_of fill) ∷ value_of digits fill ∷ []
fill_words-two (Same byte) digits = refl
fill_words-two (Ramp start) digits = refl
fill_words-two (Listed place) digits = refl

same_contents : (contents other : Contents) → contents_text contents ≡ contents_text other → contents ≡ other
same_contents FillContents FillContents e = refl
same_contents FillContents RampContents e = absurd (omega (arith, ap (λ w. slice_index w 0) e))
same_contents FillContents HexContents e = absurd (omega (arith, ap (λ w. slice_index w 0) e))
same_contents RampContents FillContents e = absurd (omega (arith, ap (λ w. slice_index w 0) e))
same_contents RampContents RampContents e = refl
same_contents RampContents HexContents e = absurd (omega (arith, ap (λ w. slice_index w 0) e))
same_contents HexContents FillContents e = absurd (omega (arith, ap (λ w. slice_index w 0) e))
same_contents HexContents RampContents e = absurd (omega (arith, ap (λ w. slice_index w 0) e))
same_contents HexContents HexContents e = refl

-- whether a word begins with a byte
abbrev begins : ℕ → List (List ℕ) → Bool
begins byte words = list_any (λ word. slice_index word 0 == byte) words

flags_back : (forced reliable high : Bool) → (begins 102 (all_words forced reliable high) ≡ forced) × (begins 114 (all_words forced reliable high) ≡ reliable) × (begins 104 (all_words forced reliable high) ≡ high)
flags_back true true true = (refl, refl, refl)
flags_back true true false = (refl, refl, refl)
flags_back true false true = (refl, refl, refl)
flags_back true false false = (refl, refl, refl)
flags_back false true true = (refl, refl, refl)
flags_back false true false = (refl, refl, refl)
flags_back false false true = (refl, refl, refl)
flags_back false false false = (refl, refl, refl)

same_flags : (f r h g s i : Bool) → all_words f r h ≡ all_words g s i → (f ≡ g) × (r ≡ s) × (h ≡ i)
same_flags f r h g s i same =
    let one = flags_back f r h in
    let two = flags_back g s i in (
      sym one.0 ∙ ap (begins 102) same ∙ two.0,
      sym one.1 ∙ ap (begins 114) same ∙ two.1,
      sym one.2 ∙ ap (begins 104) same ∙ two.2,
    )

same_high : (high other : Bool) → flag_words (codes "high") high ≡ flag_words (codes "high") other → high ≡ other
same_high true true e = refl
same_high true false e = cc
same_high false true e = cc
same_high false false e = refl

three_words : (a b c d e f : List ℕ) (x y : List (List ℕ)) → a ∷ b ∷ c ∷ x ≡ d ∷ e ∷ f ∷ y → (b ≡ e) × (c ≡ f) × (x ≡ y)
three_words a b c d e f x y same = ((cc), (cc), (cc))

two_words-parts : (a b c d : List ℕ) (x y : List (List ℕ)) → a ∷ b ∷ x ≡ c ∷ d ∷ y → (a ≡ c) × (b ≡ d) × (x ≡ y)
two_words-parts a b c d x y same = ((cc), (cc), (cc))

no_blocks : (xs : List Block) → length xs ≡ 0 → xs ≡ []
no_blocks [] none = refl
no_blocks (x ∷ xs) none = absurd (omega arith)

no_others : (xs ys : List Block) → length xs ≡ 0 → length ys ≡ 0 → xs ≡ ys
no_others xs ys none empty = no_blocks xs none ∙ sym (no_blocks ys empty)

same_fill : (at : ℕ) (fill other : Fill) (d e : List ℕ) → IsFill fill → IsFill other → IsFillAt at fill → IsFillAt at other → contents_of fill ≡ contents_of other
    → value_of d fill ≡ value_of e other → fill ≡ other
same_fill at (Same byte) (Same value) d e valid sound here also kind same = ap Same (hex_byte-injective byte value valid sound same)
same_fill at (Same byte) (Ramp start) d e valid sound here also kind same = cc
same_fill at (Same byte) (Listed place) d e valid sound here also kind same = cc
same_fill at (Ramp start) (Same byte) d e valid sound here also kind same = cc
same_fill at (Ramp start) (Ramp other) d e valid sound here also kind same = ap Ramp (decimal_injective start other (omega (arith, valid)) (omega (arith, sound)) same)
same_fill at (Ramp start) (Listed place) d e valid sound here also kind same = cc
same_fill at (Listed place) (Same byte) d e valid sound here also kind same = cc
same_fill at (Listed place) (Ramp start) d e valid sound here also kind same = cc
same_fill at (Listed place) (Listed other) d e valid sound here also kind same = ap Listed (here ∙ sym also)

write_parts : (at : ℕ) (fill content : Fill) (d e : List ℕ) (f r h g s i : Bool) → IsFill fill → IsFill content → IsFillAt at fill → IsFillAt at content
    → fill_words d fill ++ all_words f r h ≡ fill_words e content ++ all_words g s i → (fill ≡ content) × (f ≡ g) × (r ≡ s) × (h ≡ i)
write_parts at fill content d e f r h g s i valid sound here also same =
    let left = ap (λ w. w ++ all_words f r h) (fill_words-two fill d) in
    let right = ap (λ w. w ++ all_words g s i) (fill_words-two content e) in
    let rest = two_words-parts (contents_text (contents_of fill)) (value_of d fill) (contents_text (contents_of content)) (value_of e content)
    (all_words f r h) (all_words g s i) (sym left ∙ same ∙ right) in
    let flags = same_flags f r h g s i rest.2 in
    (same_fill at fill content d e valid sound here also (same_contents (contents_of fill) (contents_of content) rest.0) rest.1, flags.0, flags.1, flags.2)

-- a request is determined by its words and its place
pub same_job : (at : ℕ) (job other : Job) (d e : List ℕ) → IsJob job → IsJob other → IsPlacedAt at job → IsPlacedAt at other → job_words d job ≡ job_words e other → job ≡ other
same_job at (Read sector blocks high) (Read from count first) d e valid sound here also same =
    let parts = three_words (codes "read") (decimal sector) (decimal blocks) (codes "read") (decimal from) (decimal count) (flag_words (codes "high") high) (flag_words (codes "high") first) same in
    let start = decimal_injective sector from (omega (arith, valid.fits)) (omega (arith, sound.fits)) parts.0 in
    let number = decimal_injective blocks count (omega (arith, valid.most)) (omega (arith, sound.most)) parts.1 in
    let flag = same_high high first parts.2 in
    cc
same_job at (Write sector blocks fill forced reliable high) (Write from count content firm safe first) d e valid sound here also same =
    let parts = three_words (codes "write") (decimal sector) (decimal blocks) (codes "write") (decimal from) (decimal count)
    (fill_words d fill ++ all_words forced reliable high) (fill_words e content ++ all_words firm safe first) same in
    let start = decimal_injective sector from (omega (arith, valid.0.fits)) (omega (arith, sound.0.fits)) parts.0 in
    let number = decimal_injective blocks count (omega (arith, valid.0.most)) (omega (arith, sound.0.most)) parts.1 in
    let rest = write_parts at fill content d e forced reliable high firm safe first valid.1 sound.1 here also parts.2 in
    let one = rest.0 in
    let two = rest.1 in
    let three = rest.2 in
    let four = rest.3 in
    cc
same_job at Flush Flush d e valid sound here also same = refl
same_job at Barrier Barrier d e valid sound here also same = refl
same_job at Status Status d e valid sound here also same = refl
same_job at (Read sector blocks high) (Write from count content firm safe first) d e valid sound here also same = absurd (omega (arith, ap mark_of same))
same_job at (Read sector blocks high) Flush d e valid sound here also same = absurd (omega (arith, ap mark_of same))
same_job at (Read sector blocks high) Barrier d e valid sound here also same = absurd (omega (arith, ap mark_of same))
same_job at (Read sector blocks high) Status d e valid sound here also same = absurd (omega (arith, ap mark_of same))
same_job at (Write sector blocks fill forced reliable high) (Read from count first) d e valid sound here also same = absurd (omega (arith, ap mark_of same))
same_job at (Write sector blocks fill forced reliable high) Flush d e valid sound here also same = absurd (omega (arith, ap mark_of same))
same_job at (Write sector blocks fill forced reliable high) Barrier d e valid sound here also same = absurd (omega (arith, ap mark_of same))
same_job at (Write sector blocks fill forced reliable high) Status d e valid sound here also same = absurd (omega (arith, ap mark_of same))
same_job at Flush (Read from count first) d e valid sound here also same = absurd (omega (arith, ap mark_of same))
same_job at Flush (Write from count content firm safe first) d e valid sound here also same = absurd (omega (arith, ap mark_of same))
same_job at Flush Barrier d e valid sound here also same = absurd (omega (arith, ap mark_of same))
same_job at Flush Status d e valid sound here also same = absurd (omega (arith, ap mark_of same))
same_job at Barrier (Read from count first) d e valid sound here also same = absurd (omega (arith, ap mark_of same))
same_job at Barrier (Write from count content firm safe first) d e valid sound here also same = absurd (omega (arith, ap mark_of same))
same_job at Barrier Flush d e valid sound here also same = absurd (omega (arith, ap mark_of same))
same_job at Barrier Status d e valid sound here also same = absurd (omega (arith, ap mark_of same))
same_job at Status (Read from count first) d e valid sound here also same = absurd (omega (arith, ap mark_of same))
same_job at Status (Write from count content firm safe first) d e valid sound here also same = absurd (omega (arith, ap mark_of same))
same_job at Status Flush d e valid sound here also same = absurd (omega (arith, ap mark_of same))
same_job at Status Barrier d e valid sound here also same = absurd (omega (arith, ap mark_of same))

write_digits : (fill : Fill) (count : ℕ) (xs ys : List Block) (more : List (List ℕ)) → All IsBlock xs → All IsBlock ys → length xs ≡ listed_count fill count → length ys ≡ listed_count fill count
    → fill_words (digits_of xs) fill ++ more ≡ fill_words (digits_of ys) fill ++ more → xs ≡ ys
write_digits (Same byte) count xs ys more each all long also same = no_others xs ys long also
write_digits (Ramp start) count xs ys more each all long also same = no_others xs ys long also
write_digits (Listed place) count xs ys more each all long also same =
    same_blocks xs ys each all (long ∙ sym also) (two_words-parts (codes "hex") (digits_of xs) (codes "hex") (digits_of ys) more more same).1

-- the blocks that a request lists are determined by its words
pub same_listed : (job : Job) (xs ys : List Block) → All IsBlock xs → All IsBlock ys → length xs ≡ listed_by job → length ys ≡ listed_by job → job_words (digits_of xs) job ≡ job_words (digits_of ys) job → xs ≡ ys
same_listed (Read sector blocks high) xs ys each all long also same = no_others xs ys long also
same_listed (Write sector blocks fill forced reliable high) xs ys each all long also same =
    write_digits fill blocks xs ys (all_words forced reliable high) each all long also
    (three_words (codes "write") (decimal sector) (decimal blocks) (codes "write") (decimal sector) (decimal blocks)
    (fill_words (digits_of xs) fill ++ all_words forced reliable high) (fill_words (digits_of ys) fill ++ all_words forced reliable high) same).2
same_listed Flush xs ys each all long also same = no_others xs ys long also
same_listed Barrier xs ys each all long also same = no_others xs ys long also
same_listed Status xs ys each all long also same = no_others xs ys long also

-- a request and the blocks that it lists
pub record Request (at : ℕ) (job : Job) (blocks : List Block) : Type 0 where
  pub valid : IsJob job
  pub placed : IsPlacedAt at job
  pub each : All IsBlock blocks
  pub long : length blocks ≡ listed_by job

-- they are determined by the words
pub same_request : (at : ℕ) (job other : Job) (xs ys : List Block) → Request at job xs → Request at other ys → job_words (digits_of xs) job ≡ job_words (digits_of ys) other → (job ≡ other) × (xs ≡ ys)
same_request at job other xs ys one two same =
    let first = same_job at job other (digits_of xs) (digits_of ys) one.valid two.valid one.placed two.placed same in
    (first, same_listed job xs ys one.each two.each one.long (two.long ∙ ap listed_by (sym first)) (same ∙ ap (job_words (digits_of ys)) (sym first)))

-- the blocks that a request names have the digits of a word
pub request_words-plain : (at : ℕ) (job : Job) (blocks : List Block) → Request at job blocks → All IsWord (job_words (digits_of blocks) job)
request_words-plain at job blocks request = job_words-plain job (digits_of blocks) request.valid (digits_of-word blocks request.each)

-- a text begins with one request
pub one_request : (at : ℕ) (job other : Job) (xs ys : List Block) (a b : List ℕ) → Request at job xs → Request at other ys
    → line (job_words (digits_of xs) job) ++ a ≡ line (job_words (digits_of ys) other) ++ b → (job ≡ other) × (xs ≡ ys) × (a ≡ b)
one_request at job other xs ys a b one two same =
    let parts = one_line (job_words (digits_of xs) job) (job_words (digits_of ys) other) a b (request_words-plain at job xs one) (request_words-plain at other ys two)
    (job_words-some job (digits_of xs)) (job_words-some other (digits_of ys)) same in
    let whole = same_request at job other xs ys one two parts.0 in
    (whole.0, whole.1, parts.1)

-- and not with a setting too
pub request_no_setting : (at : ℕ) (job : Job) (blocks : List Block) (setting : Setting) (a b : List ℕ) → Request at job blocks → IsSetting setting
    → line (job_words (digits_of blocks) job) ++ a ≡ setting_text setting ++ b → ⊥
request_no_setting at job blocks setting a b request valid same =
    let parts = one_line (job_words (digits_of blocks) job) (setting_words setting) a b (request_words-plain at job blocks request) (setting_words-plain setting valid)
    (job_words-some job (digits_of blocks)) (λ e. cc) (same ∙ ap (λ t. t ++ b) (setting_text-is setting)) in
    words_apart setting job (digits_of blocks) (sym parts.0)

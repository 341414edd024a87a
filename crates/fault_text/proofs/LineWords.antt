-- The words of a line determine it, and it determines them.
use Rattle.std.proofs.Common.{◌≡◌, ◌≢◌, ℕ, ◌+◌, ◌*◌, ◌^◌, ◌<◌, ◌≤◌, Bool, true, false, List, [], ◌∷◌, ◌++◌, length, map, codes, decimal, Option, Some, None, Result, Ok, Err, refl, sym, ap, ◌∙◌, subst, arith, append_assoc}
use Rattle.std.specs.Prelude.{All, IfOk, slice_index}
use Rattle.std.proofs.lemmas.Fmt.{decimal_injective}
use Rattle.std.proofs.lemmas.List.{length-append}
use Rattle.std.proofs.lemmas.List.Elements.{All-nil, All-cons}
use Rattle.std.proofs.lemmas.List.Splits.{join_with_byte-slice_split}
use Rattle.storage_model.specs.declared.faults.BusKind.{BusKind}
use Rattle.storage_model.specs.declared.faults.BusKind.TheVariants.{Lost, NoResp, Bad, Late}
use Rattle.text_words.specs.Reads.{Reads}
use Rattle.text_words.specs.Words.{spaced, words_of}
use Rattle.text_words.proofs.Lines.{IsFree, IsWord, first_part, free_words, line_free, not_free, word_from_test, words_of-words}
use Rattle.text_words.proofs.Spellings.{decimal_word}
use Rattle.fault_text.specs.declared.keyword.Keyword.{Keyword}
use Rattle.fault_text.specs.declared.keyword.Keyword.TheVariants.{Ready as ReadyWord, Bus as BusWord, Program as ProgramWord, Fetch as FetchWord, Cut as CutWord, Turn as TurnWord}
use Rattle.fault_text.specs.declared.line.FaultLine.{FaultLine}
use Rattle.fault_text.specs.declared.line.FaultLine.TheVariants.{Ready, Bus, Program, Fetch, Cut, Turn}
use Rattle.storage_model.specs.Faults.{IsKind}
use Rattle.fault_text.specs.Lines.{IsLine, fault_word, keyword_text, kind_words, letter_byte, line_text, line_words}
use Rattle.text_words.specs.HexNumber.{hex_number}
use Rattle.text_words.proofs.LineTexts.{IsLine as IsWholeLine, line_is}
use Rattle.text_words.proofs.HexNumbers.{hex_number-injective, number_word}
use Rattle.fault_text.proofs.Letters.{letters_word, same_letters}

-- the first byte of the first word, which tells lines apart
abbrev pub first_byte : List (List ℕ) → ℕ
first_byte [] = 0
first_byte (word ∷ words) = slice_index word 0

-- what is read of the words after the first is read of the line
pub no_ready : (words : List (List ℕ)) → ((mask : ℕ) → ¬ ((mask < 2 ^ 32) × (words ≡ hex_number mask ∷ []))) → (fault : FaultLine) → ¬ (IsLine fault × (codes "ready" ∷ words ≡ line_words fault))
no_ready words none (Ready mask) p = (let is = p.1 in none mask (p.0, cc))
no_ready words none (Bus n kind) p = omega (arith, ap first_byte p.1)
no_ready words none (Program n cut mask) p = omega (arith, ap first_byte p.1)
no_ready words none (Fetch n) p = omega (arith, ap first_byte p.1)
no_ready words none (Cut n) p = omega (arith, ap first_byte p.1)
no_ready words none (Turn letters) p = omega (arith, ap first_byte p.1)

pub no_bus : (words : List (List ℕ)) → ((f : ℕ × BusKind) → ¬ ((1 ≤ f.0) × (f.0 ≤ 4294967294) × IsKind f.1 × (words ≡ decimal f.0 ∷ kind_words f.1))) → (fault : FaultLine) → ¬ (IsLine fault × (codes "bus" ∷ words ≡ line_words fault))
no_bus words none (Bus n kind) p = (let is = p.1 in none (n, kind) (p.0.0, p.0.1, p.0.2, cc))
no_bus words none (Ready mask) p = omega (arith, ap first_byte p.1)
no_bus words none (Program n cut mask) p = omega (arith, ap first_byte p.1)
no_bus words none (Fetch n) p = omega (arith, ap first_byte p.1)
no_bus words none (Cut n) p = omega (arith, ap first_byte p.1)
no_bus words none (Turn letters) p = omega (arith, ap first_byte p.1)

pub no_program : (words : List (List ℕ)) → ((f : ℕ × Bool × ℕ) → ¬ ((1 ≤ f.0) × (f.0 < 2 ^ 32) × (f.2 < 2 ^ 8) × (words ≡ decimal f.0 ∷ fault_word f.1 ∷ hex_number f.2 ∷ []))) → (fault : FaultLine) → ¬ (IsLine fault × (codes "program" ∷ words ≡ line_words fault))
no_program words none (Program n cut mask) p = (let is = p.1 in none (n, cut, mask) (p.0.0, p.0.1, p.0.2, cc))
no_program words none (Ready mask) p = omega (arith, ap first_byte p.1)
no_program words none (Bus n kind) p = omega (arith, ap first_byte p.1)
no_program words none (Fetch n) p = omega (arith, ap first_byte p.1)
no_program words none (Cut n) p = omega (arith, ap first_byte p.1)
no_program words none (Turn letters) p = omega (arith, ap first_byte p.1)

fault_plain : (cut : Bool) → IsWord (fault_word cut)
fault_plain true = word_from_test (codes "cut") refl
fault_plain false = word_from_test (codes "fail") refl

kind_plain : (kind : BusKind) → IsKind kind → All IsWord (kind_words kind)
kind_plain Lost valid = All-cons IsWord (codes "lost") [] (word_from_test (codes "lost") refl) (All-nil IsWord)
kind_plain NoResp valid = All-cons IsWord (codes "noresp") [] (word_from_test (codes "noresp") refl) (All-nil IsWord)
kind_plain (Bad block) valid = All-cons IsWord (codes "data") (decimal block ∷ []) (word_from_test (codes "data") refl) (All-cons IsWord (decimal block) [] (decimal_word block (omega (arith, valid.1))) (All-nil IsWord))
kind_plain Late valid = All-cons IsWord (codes "late") [] (word_from_test (codes "late") refl) (All-nil IsWord)

pub line_words-plain : (fault : FaultLine) → IsLine fault → All IsWord (line_words fault)
line_words-plain (Ready mask) valid = All-cons IsWord (codes "ready") (hex_number mask ∷ []) (word_from_test (codes "ready") refl) (All-cons IsWord (hex_number mask) [] (number_word mask (omega (arith, valid))) (All-nil IsWord))
line_words-plain (Bus n kind) valid = All-cons IsWord (codes "bus") (decimal n ∷ kind_words kind) (word_from_test (codes "bus") refl) (All-cons IsWord (decimal n) (kind_words kind) (decimal_word n (omega (arith, valid.1))) (kind_plain kind valid.2))
line_words-plain (Program n cut mask) valid = All-cons IsWord (codes "program") (decimal n ∷ fault_word cut ∷ hex_number mask ∷ []) (word_from_test (codes "program") refl)
    (All-cons IsWord (decimal n) (fault_word cut ∷ hex_number mask ∷ []) (decimal_word n valid.1) (All-cons IsWord (fault_word cut) (hex_number mask ∷ []) (fault_plain cut) (All-cons IsWord (hex_number mask) [] (number_word mask (omega (arith, valid.2))) (All-nil IsWord))))
line_words-plain (Fetch n) valid = All-cons IsWord (codes "fetch") (decimal n ∷ codes "fail" ∷ []) (word_from_test (codes "fetch") refl) (All-cons IsWord (decimal n) (codes "fail" ∷ []) (decimal_word n valid.1) (All-cons IsWord (codes "fail") [] (word_from_test (codes "fail") refl) (All-nil IsWord)))
line_words-plain (Cut n) valid = All-cons IsWord (codes "cut") (decimal n ∷ []) (word_from_test (codes "cut") refl) (All-cons IsWord (decimal n) [] (decimal_word n valid) (All-nil IsWord))
line_words-plain (Turn letters) valid = All-cons IsWord (codes "turn") (map letter_byte letters ∷ []) (word_from_test (codes "turn") refl) (All-cons IsWord (map letter_byte letters) [] (letters_word letters) (All-nil IsWord))

line_words-some : (fault : FaultLine) → line_words fault ≢ []
line_words-some (Ready mask) none = cc
line_words-some (Bus n kind) none = cc
line_words-some (Program n cut mask) none = cc
line_words-some (Fetch n) none = cc
line_words-some (Cut n) none = cc
line_words-some (Turn letters) none = cc

-- the words between the spaces of a line are its words
pub words_of-fault : (fault : FaultLine) → IsLine fault → words_of (spaced (line_words fault)) ≡ line_words fault
words_of-fault fault valid = words_of-words (line_words fault) (line_words-some fault) (free_words (line_words fault) (line_words-plain fault valid))

pub words_from_line : (text : List ℕ) (fault : FaultLine) → IsLine fault → text ≡ spaced (line_words fault) → words_of text ≡ line_words fault
words_from_line text fault valid is = ap words_of is ∙ words_of-fault fault valid

line_from_words : (text : List ℕ) (fault : FaultLine) → words_of text ≡ line_words fault → text ≡ spaced (line_words fault)
line_from_words text fault is = sym (join_with_byte-slice_split 32 text) ∙ ap spaced is

-- what is read of the words is read of the line
pub reads_line : (text first : List ℕ) (words : List (List ℕ)) (result : Option FaultLine) → words_of text ≡ first ∷ words
    → Reads result (λ fault. IsLine fault × (first ∷ words ≡ line_words fault)) → Reads result (λ fault. IsLine fault × (text ≡ spaced (line_words fault)))
reads_line text first words None parts none = λ fault p. none fault (p.0, sym parts ∙ words_from_line text fault p.0 p.1)
reads_line text first words (Some fault) parts some = (some.0, line_from_words text fault (parts ∙ some.1))

-- what stands before the line feed of a line's text
pub line_text-line : (fault : FaultLine) (after : List ℕ) → line_text fault ++ after ≡ spaced (line_words fault) ++ 10 ∷ after
unfolding line_text
line_text-line fault after = append_assoc (spaced (line_words fault)) (codes "\n") after

-- the first line of a text, if it is one
pub fault_line : (fault : FaultLine) (text after front rest : List ℕ) → IsLine fault → text ≡ front ++ 10 ∷ rest → IsFree 10 front → text ≡ line_text fault ++ after
    → (front ≡ spaced (line_words fault)) × (rest ≡ after)
fault_line fault text after front rest valid parts free is =
    first_part 10 front (spaced (line_words fault)) rest after free (line_free (line_words fault) (line_words-plain fault valid)) (sym parts ∙ is ∙ line_text-line fault after)

-- a text that begins with a line
pub fault_parts : (fault : FaultLine) (text front after : List ℕ) → text ≡ front ++ 10 ∷ after → front ≡ spaced (line_words fault) → text ≡ line_text fault ++ after
fault_parts fault text front after parts is = parts ∙ ap (λ t. t ++ 10 ∷ after) is ∙ sym (line_text-line fault after)

-- a text without a line feed begins with no line
pub no_fault : (fault : FaultLine) (text after : List ℕ) → IsFree 10 text → text ≡ line_text fault ++ after → ⊥
no_fault fault text after free is =
    let P : List ℕ → Type 0 = λ t. IsFree 10 t in
    not_free 10 (spaced (line_words fault)) after (subst P (is ∙ line_text-line fault after) free)

-- a line's text isn't empty
pub line_text-long : (fault : FaultLine) → 0 < length (line_text fault)
unfolding line_text
line_text-long fault = omega (arith, length-append {A = ℕ})

same_fault_word : (cut other : Bool) → fault_word cut ≡ fault_word other → cut ≡ other
same_fault_word true true e = refl
same_fault_word true false e = cc
same_fault_word false true e = cc
same_fault_word false false e = refl

-- the first two bytes of the first word
abbrev mark_of : List (List ℕ) → ℕ
mark_of [] = 0
mark_of (word ∷ words) = slice_index word 0 + 256 * slice_index word 1

same_kind : (kind other : BusKind) → IsKind kind → IsKind other → kind_words kind ≡ kind_words other → kind ≡ other
same_kind Lost Lost valid sound e = refl
same_kind Lost NoResp valid sound e = absurd (omega (arith, ap mark_of e))
same_kind Lost (Bad block) valid sound e = absurd (omega (arith, ap mark_of e))
same_kind Lost Late valid sound e = absurd (omega (arith, ap mark_of e))
same_kind NoResp Lost valid sound e = absurd (omega (arith, ap mark_of e))
same_kind NoResp NoResp valid sound e = refl
same_kind NoResp (Bad block) valid sound e = absurd (omega (arith, ap mark_of e))
same_kind NoResp Late valid sound e = absurd (omega (arith, ap mark_of e))
same_kind (Bad block) Lost valid sound e = absurd (omega (arith, ap mark_of e))
same_kind (Bad block) NoResp valid sound e = absurd (omega (arith, ap mark_of e))
same_kind (Bad block) (Bad other) valid sound e = ap Bad (decimal_injective block other (omega (arith, valid.1)) (omega (arith, sound.1)) (cc))
same_kind (Bad block) Late valid sound e = absurd (omega (arith, ap mark_of e))
same_kind Late Lost valid sound e = absurd (omega (arith, ap mark_of e))
same_kind Late NoResp valid sound e = absurd (omega (arith, ap mark_of e))
same_kind Late (Bad block) valid sound e = absurd (omega (arith, ap mark_of e))
same_kind Late Late valid sound e = refl

-- a line is determined by its words
pub same_line : (fault other : FaultLine) → IsLine fault → IsLine other → line_words fault ≡ line_words other → fault ≡ other
same_line (Ready mask) (Ready mask2) valid sound same = ap Ready (hex_number-injective mask mask2 (omega (arith, valid)) (omega (arith, sound)) (cc))
same_line (Ready mask) (Bus m kind2) valid sound same = absurd (omega (arith, ap first_byte same))
same_line (Ready mask) (Program m cut2 mask2) valid sound same = absurd (omega (arith, ap first_byte same))
same_line (Ready mask) (Fetch m) valid sound same = absurd (omega (arith, ap first_byte same))
same_line (Ready mask) (Cut m) valid sound same = absurd (omega (arith, ap first_byte same))
same_line (Ready mask) (Turn letters2) valid sound same = absurd (omega (arith, ap first_byte same))
same_line (Bus n kind) (Ready mask2) valid sound same = absurd (omega (arith, ap first_byte same))
same_line (Bus n kind) (Bus m kind2) valid sound same = (let number = decimal_injective n m (omega (arith, valid.1)) (omega (arith, sound.1)) (cc) in let same = same_kind kind kind2 valid.2 sound.2 (cc) in cc)
same_line (Bus n kind) (Program m cut2 mask2) valid sound same = absurd (omega (arith, ap first_byte same))
same_line (Bus n kind) (Fetch m) valid sound same = absurd (omega (arith, ap first_byte same))
same_line (Bus n kind) (Cut m) valid sound same = absurd (omega (arith, ap first_byte same))
same_line (Bus n kind) (Turn letters2) valid sound same = absurd (omega (arith, ap first_byte same))
same_line (Program n cut mask) (Ready mask2) valid sound same = absurd (omega (arith, ap first_byte same))
same_line (Program n cut mask) (Bus m kind2) valid sound same = absurd (omega (arith, ap first_byte same))
same_line (Program n cut mask) (Program m cut2 mask2) valid sound same = (let number = decimal_injective n m (omega (arith, valid.1)) (omega (arith, sound.1)) (cc) in let end = same_fault_word cut cut2 (cc) in let same = hex_number-injective mask mask2 (omega (arith, valid.2)) (omega (arith, sound.2)) (cc) in cc)
same_line (Program n cut mask) (Fetch m) valid sound same = absurd (omega (arith, ap first_byte same))
same_line (Program n cut mask) (Cut m) valid sound same = absurd (omega (arith, ap first_byte same))
same_line (Program n cut mask) (Turn letters2) valid sound same = absurd (omega (arith, ap first_byte same))
same_line (Fetch n) (Ready mask2) valid sound same = absurd (omega (arith, ap first_byte same))
same_line (Fetch n) (Bus m kind2) valid sound same = absurd (omega (arith, ap first_byte same))
same_line (Fetch n) (Program m cut2 mask2) valid sound same = absurd (omega (arith, ap first_byte same))
same_line (Fetch n) (Fetch m) valid sound same = ap Fetch (decimal_injective n m (omega (arith, valid.1)) (omega (arith, sound.1)) (cc))
same_line (Fetch n) (Cut m) valid sound same = absurd (omega (arith, ap first_byte same))
same_line (Fetch n) (Turn letters2) valid sound same = absurd (omega (arith, ap first_byte same))
same_line (Cut n) (Ready mask2) valid sound same = absurd (omega (arith, ap first_byte same))
same_line (Cut n) (Bus m kind2) valid sound same = absurd (omega (arith, ap first_byte same))
same_line (Cut n) (Program m cut2 mask2) valid sound same = absurd (omega (arith, ap first_byte same))
same_line (Cut n) (Fetch m) valid sound same = absurd (omega (arith, ap first_byte same))
same_line (Cut n) (Cut m) valid sound same = ap Cut (decimal_injective n m (omega (arith, valid)) (omega (arith, sound)) (cc))
same_line (Cut n) (Turn letters2) valid sound same = absurd (omega (arith, ap first_byte same))
same_line (Turn letters) (Ready mask2) valid sound same = absurd (omega (arith, ap first_byte same))
same_line (Turn letters) (Bus m kind2) valid sound same = absurd (omega (arith, ap first_byte same))
same_line (Turn letters) (Program m cut2 mask2) valid sound same = absurd (omega (arith, ap first_byte same))
same_line (Turn letters) (Fetch m) valid sound same = absurd (omega (arith, ap first_byte same))
same_line (Turn letters) (Cut m) valid sound same = absurd (omega (arith, ap first_byte same))
same_line (Turn letters) (Turn letters2) valid sound same = ap Turn (same_letters letters letters2 (cc))

-- no line's text begins another, and it has one meaning
pub one_line : (fault other : FaultLine) (x y : List ℕ) → IsLine fault → IsLine other → line_text fault ++ x ≡ line_text other ++ y → (fault ≡ other) × (x ≡ y)
one_line fault other x y valid sound same =
    let parts = fault_line other (line_text fault ++ x) y (spaced (line_words fault)) x sound (line_text-line fault x) (line_free (line_words fault) (line_words-plain fault valid)) same in
    (same_line fault other valid sound (sym (words_of-fault fault valid) ∙ words_from_line (spaced (line_words fault)) other sound parts.0), parts.1)

-- a line is of one fault
pub one_fault : (text : List ℕ) (fault other : FaultLine) → IsLine fault → IsLine other → text ≡ spaced (line_words fault) → text ≡ spaced (line_words other) → fault ≡ other
one_fault text fault other valid sound one two = same_line fault other valid sound (sym (words_from_line text fault valid one) ∙ words_from_line text other sound two)

-- a word that names no line begins none
pub no_keyword : (first : List ℕ) (words : List (List ℕ)) → ((keyword : Keyword) → first ≢ keyword_text keyword) → (fault : FaultLine) → ¬ (IsLine fault × (first ∷ words ≡ line_words fault))
no_keyword first words none (Ready mask) p = (let is = p.1 in none ReadyWord (cc))
no_keyword first words none (Bus n kind) p = (let is = p.1 in none BusWord (cc))
no_keyword first words none (Program n cut mask) p = (let is = p.1 in none ProgramWord (cc))
no_keyword first words none (Fetch n) p = (let is = p.1 in none FetchWord (cc))
no_keyword first words none (Cut n) p = (let is = p.1 in none CutWord (cc))
no_keyword first words none (Turn letters) p = (let is = p.1 in none TurnWord (cc))

-- the same of an answer that can want memory
pub reads_ok : {E : Type 0} (text first : List ℕ) (words : List (List ℕ)) (result : Result (Option FaultLine) E) → words_of text ≡ first ∷ words
    → IfOk result (λ read. Reads read (λ fault. IsLine fault × (first ∷ words ≡ line_words fault))) → IfOk result (λ read. Reads read (λ fault. IsLine fault × (text ≡ spaced (line_words fault))))
reads_ok text first words (Ok read) parts reads = reads_line text first words read parts reads
reads_ok text first words (Err end) parts reads = tt

-- its text is a line
pub fault_is_line : (fault : FaultLine) → IsLine fault → IsWholeLine (line_text fault)
unfolding line_text
fault_is_line fault valid = line_is (line_words fault) (line_words-plain fault valid)

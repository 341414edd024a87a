-- Lines and words, taken apart and joined.
use Rattle.std.proofs.Common.{◌≡◌, ◌≢◌, ℕ, ◌<◌, ◌≤◌, Bool, nat_lt, ◌&&◌, true, false, eqb, List, [], ◌∷◌, ◌++◌, refl, ap, sym, ◌∙◌, arith}
use Rattle.std.specs.Prelude.{All}
use Rattle.std.proofs.lemmas.List.Elements.{All-nil, All-cons, All-head, All-tail, All-append, All-weaker}
use Rattle.std.proofs.lemmas.List.Splits.{join_with_byte-slice_split, slice_split_none, slice_split_at}
use Rattle.std.proofs.lemmas.Bool.{ne_eqb, and_parts, ltb-true}
use Rattle.text_words.specs.Words.{spaced, words_of}

-- no byte of the text is the mark
abbrev pub IsFree : ℕ → List ℕ → Type 0
IsFree mark text = All (λ b. b ≢ mark) text

-- what stands before the first mark is determined
pub first_part : (mark : ℕ) (a b x y : List ℕ) → IsFree mark a → IsFree mark b → a ++ mark ∷ x ≡ b ++ mark ∷ y → (a ≡ b) × (x ≡ y)
first_part mark [] [] x y free clear same = (refl, cc)
first_part mark [] (d ∷ b) x y free clear same = absurd (All-head (λ b. b ≢ mark) d b clear (cc))
first_part mark (c ∷ a) [] x y free clear same = absurd (All-head (λ b. b ≢ mark) c a free (cc))
first_part mark (c ∷ a) (d ∷ b) x y free clear same =
    let rest = first_part mark a b x y (All-tail (λ b. b ≢ mark) c a free) (All-tail (λ b. b ≢ mark) d b clear) (cc) in
    let head : c ≡ d = cc in
    let tail = rest.0 in
    (cc, rest.1)

pub words_last : (text : List ℕ) → IsFree 32 text → words_of text ≡ text ∷ []
words_last text free = slice_split_none (λ b. eqb b 32) text (All-weaker (λ b. b ≢ 32) (λ b. eqb b 32 ≡ false) (λ b. ne_eqb b 32) text free)

pub words_more : (text word after : List ℕ) → text ≡ word ++ 32 ∷ after → IsFree 32 word → words_of text ≡ word ∷ words_of after
words_more text word after is free =
    rw is (slice_split_at (λ b. eqb b 32) word 32 after (All-weaker (λ b. b ≢ 32) (λ b. eqb b 32 ≡ false) (λ b. ne_eqb b 32) word free) refl)

-- words without spaces are those of the text that joins them
pub words_of-spaced : (word : List ℕ) (words : List (List ℕ)) → All (IsFree 32) (word ∷ words) → words_of (spaced (word ∷ words)) ≡ word ∷ words
words_of-spaced word [] free = words_last word (All-head (IsFree 32) word [] free)
words_of-spaced word (next ∷ words) free =
    words_more (spaced (word ∷ next ∷ words)) word (spaced (next ∷ words)) refl (All-head (IsFree 32) word (next ∷ words) free)
    ∙ ap (λ rest. word ∷ rest) (words_of-spaced next words (All-tail (IsFree 32) word (next ∷ words) free))

-- a word: bytes above the space
abbrev pub IsWord : List ℕ → Type 0
IsWord word = All (λ b. 32 < b) word

abbrev pub all_above : List ℕ → Bool
all_above [] = true
all_above (b ∷ bytes) = nat_lt 32 b && all_above bytes

pub word_from_test : (word : List ℕ) → all_above word ≡ true → IsWord word
word_from_test [] h = All-nil (λ b. 32 < b)
word_from_test (b ∷ word) h =
    let parts = and_parts (nat_lt 32 b) (all_above word) h in
    All-cons (λ b. 32 < b) b word (ltb-true 32 b parts.0) (word_from_test word parts.1)

pub free_from_word : (mark : ℕ) (word : List ℕ) → mark ≤ 32 → IsWord word → IsFree mark word
free_from_word mark word low plain = All-weaker (λ b. 32 < b) (λ b. b ≢ mark) (λ b h. λ e. omega arith) word plain

pub free_words : (words : List (List ℕ)) → All IsWord words → All (IsFree 32) words
free_words words plain = All-weaker IsWord (IsFree 32) (λ word h. free_from_word 32 word (omega arith) h) words plain

-- no line feed stands in a line's words
pub line_free : (words : List (List ℕ)) → All IsWord words → IsFree 10 (spaced words)
line_free [] plain = All-nil (λ b. b ≢ 10)
line_free (word ∷ []) plain = free_from_word 10 word (omega arith) (All-head IsWord word [] plain)
line_free (word ∷ next ∷ words) plain =
    All-append (λ b. b ≢ 10) word (32 ∷ spaced (next ∷ words)) (free_from_word 10 word (omega arith) (All-head IsWord word (next ∷ words) plain))
    (All-cons (λ b. b ≢ 10) 32 (spaced (next ∷ words)) (λ e. omega arith) (line_free (next ∷ words) (All-tail IsWord word (next ∷ words) plain)))

pub not_free : (mark : ℕ) (front rest : List ℕ) → IsFree mark (front ++ mark ∷ rest) → ⊥
not_free mark [] rest free = All-head (λ b. b ≢ mark) mark rest free refl
not_free mark (b ∷ front) rest free = not_free mark front rest (All-tail (λ b. b ≢ mark) b (front ++ mark ∷ rest) free)

-- a line has a word
pub words_some : (text : List ℕ) → words_of text ≢ []
words_some text none =
    let empty : text ≡ [] = sym (join_with_byte-slice_split 32 text) ∙ ap spaced none in
    let both : [] ∷ [] ≡ [] = ap words_of (sym empty) ∙ none in
    cc

-- a word in front of others
pub spaced-more : (word : List ℕ) (words : List (List ℕ)) → words ≢ [] → spaced (word ∷ words) ≡ word ++ 32 ∷ spaced words
spaced-more word [] some = absurd (some refl)
spaced-more word (next ∷ words) some = refl

pub words_of-words : (words : List (List ℕ)) → words ≢ [] → All (IsFree 32) words → words_of (spaced words) ≡ words
words_of-words [] some free = absurd (some refl)
words_of-words (word ∷ words) some free = words_of-spaced word words free

-- What a line does to the sink, by its words.
use Rattle.std.proofs.Common.{◌≡◌, ℕ, true, false, List, [], ◌∷◌, ◌∙◌, ap, refl}
use Rattle.std.specs.Prelude.{fold}
use Rattle.std.proofs.lemmas.Bool.{and_parts}
use Rattle.std.proofs.lemmas.List.Sums.{fold-append}
use Rattle.text_words.specs.Words.{line, spaced}
use Rattle.load_count.specs.Lines.{at_start, begun, seen, step, told}
use Rattle.load_count.specs.declared.counts.Counts.{Counts}
use Rattle.load_count.specs.declared.line.Line.{Line}
use Rattle.load_count.specs.declared.sink.CountingSink.{CountingSink}
use Rattle.load_count.proofs.Plain.{ArePlain, plain, plain_byte, unended, unspaced}

abbrev pub at : Counts → Line → CountingSink
at counts line = record { counts = counts; line = line }

-- the line behind a word, which a space or its end follows
abbrev pub behind : Line → List ℕ → Line
behind line [] = line
behind line (letter ∷ word) = begun line letter

-- the line behind words
abbrev pub worded : Line → List (List ℕ) → Line
worded line [] = line
worded line (word ∷ []) = behind line word
worded line (word ∷ next ∷ words) = worded (record (behind line word) { within = false }) (next ∷ words)

within_step : (counts : Counts) (line : Line) (b : ℕ) → line.within ≡ true → plain_byte b ≡ true → step (at counts line) b ≡ at counts line
unfolding step seen
within_step counts line b within h = rw (unended b h, unspaced b h, within) refl

first_step : (counts : Counts) (line : Line) (b : ℕ) → line.within ≡ false → plain_byte b ≡ true → step (at counts line) b ≡ at counts (begun line b)
unfolding step seen
first_step counts line b without h = rw (unended b h, unspaced b h, without) refl

space_step : (counts : Counts) (line : Line) → step (at counts line) 32 ≡ at counts (record line { within = false })
unfolding step seen
space_step counts line = refl

end_step : (counts : Counts) (line : Line) → step (at counts line) 10 ≡ at (told counts line) at_start
unfolding step
end_step counts line = refl

begun_within : (line : Line) (letter : ℕ) → (begun line letter).within ≡ true
unfolding begun
begun_within line letter = refl

-- the rest of a word
rest_taken : (counts : Counts) (line : Line) (word : List ℕ) → line.within ≡ true → plain word ≡ true → fold step (at counts line) word ≡ at counts line
rest_taken counts line [] within h = refl
rest_taken counts line (b ∷ word) within h =
    let parts = and_parts (plain_byte b) (plain word) h in
    ap (λ sink. fold step sink word) (within_step counts line b within parts.0) ∙ rest_taken counts line word within parts.1

word_taken : (counts : Counts) (line : Line) (word : List ℕ) → line.within ≡ false → plain word ≡ true → fold step (at counts line) word ≡ at counts (behind line word)
word_taken counts line [] without h = refl
word_taken counts line (b ∷ word) without h =
    let parts = and_parts (plain_byte b) (plain word) h in
    ap (λ sink. fold step sink word) (first_step counts line b without parts.0) ∙ rest_taken counts (begun line b) word (begun_within line b) parts.1

words_taken : (counts : Counts) (line : Line) (words : List (List ℕ)) → line.within ≡ false → ArePlain words → fold step (at counts line) (spaced words) ≡ at counts (worded line words)
words_taken counts line [] without h = refl
words_taken counts line (word ∷ []) without h = word_taken counts line word without h.0
words_taken counts line (word ∷ next ∷ words) without h =
    fold-append step (at counts line) word (32 ∷ spaced (next ∷ words))
    ∙ ap (λ sink. fold step sink (32 ∷ spaced (next ∷ words))) (word_taken counts line word without h.0)
    ∙ ap (λ sink. fold step sink (spaced (next ∷ words))) (space_step counts (behind line word))
    ∙ words_taken counts (record (behind line word) { within = false }) (next ∷ words) refl h.1

-- a whole line
pub line_taken : (counts : Counts) (words : List (List ℕ)) → ArePlain words → fold step (at counts at_start) (line words) ≡ at (told counts (worded at_start words)) at_start
line_taken counts words h =
    fold-append step (at counts at_start) (spaced words) (10 ∷ [])
    ∙ ap (λ sink. step sink 10) (words_taken counts at_start words refl h)
    ∙ end_step counts (worded at_start words)

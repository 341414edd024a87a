-- The text of a setting is a line of its words, which no other line is.
use Rattle.std.proofs.Common.{◌≡◌, ◌≢◌, ℕ, ◌^◌, ◌<◌, Bool, true, false, List, [], ◌∷◌, ◌++◌, codes, decimal, Option, Some, None, refl, sym, ap, ◌∙◌, arith}
use Rattle.std.specs.Prelude.{All, slice_index}
use Rattle.std.proofs.lemmas.Fmt.{decimal_injective}
use Rattle.std.proofs.lemmas.List.Elements.{All-nil, All-cons}
use Rattle.std.proofs.lemmas.List.Splits.{join_with_byte-slice_split}
use Rattle.text_words.specs.Reads.{Reads}
use Rattle.text_words.specs.Words.{line, spaced, words_of}
use Rattle.text_words.proofs.Lines.{IsFree, IsWord, free_words, word_from_test, words_of-words}
use Rattle.text_words.proofs.Spellings.{decimal_low, decimal_word}
use Rattle.text_words.proofs.LineTexts.{IsLine, front_line, line_is, line_parts, no_line, one_line}
use Rattle.request_text.specs.declared.setting.Kind.{Kind}
use Rattle.request_text.specs.declared.setting.Kind.TheVariants.{Depth as DepthKind, Cache as CacheKind, Descriptors as DescriptorsKind, Coalesce as CoalesceKind}
use Rattle.request_text.specs.declared.setting.Setting.{Setting}
use Rattle.request_text.specs.declared.setting.Setting.TheVariants.{Depth, Cache, Descriptors, Coalesce}
use Rattle.request_text.specs.Settings.{IsCache, IsSetting, kind_of, kind_text, lines_text, setting_text, setting_words, value_text, width_text}

kind_word : (kind : Kind) → IsWord (kind_text kind)
kind_word DepthKind = word_from_test (codes "depth") refl
kind_word CacheKind = word_from_test (codes "cache") refl
kind_word DescriptorsKind = word_from_test (codes "desc") refl
kind_word CoalesceKind = word_from_test (codes "coalesce") refl

lines_word : (lines : Option ℕ) → IsCache lines → IsWord (lines_text lines)
lines_word (Some n) fits = decimal_word n (omega arith)
lines_word None fits = word_from_test (codes "off") refl

width_word : (wide : Bool) → IsWord (width_text wide)
width_word true = word_from_test (codes "128") refl
width_word false = word_from_test (codes "64") refl

value_word : (setting : Setting) → IsSetting setting → IsWord (value_text setting)
value_word (Depth depth) valid = decimal_word depth (omega (arith, valid.1))
value_word (Cache lines) valid = lines_word lines valid
value_word (Descriptors wide) valid = width_word wide
value_word (Coalesce count) valid = decimal_word count (omega (arith, valid))

pub setting_words-plain : (setting : Setting) → IsSetting setting → All IsWord (setting_words setting)
setting_words-plain setting valid =
    All-cons IsWord (codes "set") (kind_text (kind_of setting) ∷ value_text setting ∷ []) (word_from_test (codes "set") refl)
    (All-cons IsWord (kind_text (kind_of setting)) (value_text setting ∷ []) (kind_word (kind_of setting))
    (All-cons IsWord (value_text setting) [] (value_word setting valid) (All-nil IsWord)))

words_of-setting : (setting : Setting) → IsSetting setting → words_of (spaced (setting_words setting)) ≡ setting_words setting
words_of-setting setting valid = words_of-words (setting_words setting) (λ e. cc) (free_words (setting_words setting) (setting_words-plain setting valid))

pub words_from_line : (text : List ℕ) (setting : Setting) → IsSetting setting → text ≡ spaced (setting_words setting) → words_of text ≡ setting_words setting
words_from_line text setting valid is = ap words_of is ∙ words_of-setting setting valid

line_from_words : (text : List ℕ) (setting : Setting) → words_of text ≡ setting_words setting → text ≡ spaced (setting_words setting)
line_from_words text setting is = sym (join_with_byte-slice_split 32 text) ∙ ap spaced is

-- what is read of the words is read of the line
pub reads_line : (text first : List ℕ) (words : List (List ℕ)) (result : Option Setting) → words_of text ≡ first ∷ words
    → Reads result (λ setting. IsSetting setting × (first ∷ words ≡ setting_words setting)) → Reads result (λ setting. IsSetting setting × (text ≡ spaced (setting_words setting)))
reads_line text first words None parts none = λ setting p. none setting (p.0, sym parts ∙ words_from_line text setting p.0 p.1)
reads_line text first words (Some setting) parts some = (some.0, line_from_words text setting (parts ∙ some.1))

same_kind : (kind other : Kind) → kind_text kind ≡ kind_text other → kind ≡ other
same_kind DepthKind DepthKind e = refl
same_kind DepthKind CacheKind e = absurd (omega (arith, ap (λ w. slice_index w 2) e))
same_kind DepthKind DescriptorsKind e = absurd (omega (arith, ap (λ w. slice_index w 2) e))
same_kind DepthKind CoalesceKind e = absurd (omega (arith, ap (λ w. slice_index w 2) e))
same_kind CacheKind DepthKind e = absurd (omega (arith, ap (λ w. slice_index w 2) e))
same_kind CacheKind CacheKind e = refl
same_kind CacheKind DescriptorsKind e = absurd (omega (arith, ap (λ w. slice_index w 2) e))
same_kind CacheKind CoalesceKind e = absurd (omega (arith, ap (λ w. slice_index w 2) e))
same_kind DescriptorsKind DepthKind e = absurd (omega (arith, ap (λ w. slice_index w 2) e))
same_kind DescriptorsKind CacheKind e = absurd (omega (arith, ap (λ w. slice_index w 2) e))
same_kind DescriptorsKind DescriptorsKind e = refl
same_kind DescriptorsKind CoalesceKind e = absurd (omega (arith, ap (λ w. slice_index w 2) e))
same_kind CoalesceKind DepthKind e = absurd (omega (arith, ap (λ w. slice_index w 2) e))
same_kind CoalesceKind CacheKind e = absurd (omega (arith, ap (λ w. slice_index w 2) e))
same_kind CoalesceKind DescriptorsKind e = absurd (omega (arith, ap (λ w. slice_index w 2) e))
same_kind CoalesceKind CoalesceKind e = refl

no_off : (n : ℕ) → n < 2 ^ 32 → decimal n ≢ codes "off"
no_off n fits e = omega (arith, decimal_low n fits, ap (λ w. slice_index w 0) e)

same_lines : (lines other : Option ℕ) → IsCache lines → IsCache other → lines_text lines ≡ lines_text other → lines ≡ other
same_lines (Some m) (Some n) fits small e = ap Some (decimal_injective m n (omega arith) (omega arith) e)
same_lines (Some m) None fits small e = absurd (no_off m (omega arith) e)
same_lines None (Some n) fits small e = absurd (no_off n (omega arith) (sym e))
same_lines None None fits small e = refl

same_width : (wide other : Bool) → width_text wide ≡ width_text other → wide ≡ other
same_width true true e = refl
same_width true false e = absurd (omega (arith, ap (λ w. slice_index w 0) e))
same_width false true e = absurd (omega (arith, ap (λ w. slice_index w 0) e))
same_width false false e = refl

-- settings of one kind differ in their values
same_value : (setting other : Setting) → IsSetting setting → IsSetting other → kind_of setting ≡ kind_of other → value_text setting ≡ value_text other → setting ≡ other
same_value (Depth m) (Depth n) valid sound kind e = ap Depth (decimal_injective m n (omega (arith, valid.1)) (omega (arith, sound.1)) e)
same_value (Depth m) (Cache other) valid sound kind e = cc
same_value (Depth m) (Descriptors other) valid sound kind e = cc
same_value (Depth m) (Coalesce n) valid sound kind e = cc
same_value (Cache lines) (Depth n) valid sound kind e = cc
same_value (Cache lines) (Cache other) valid sound kind e = ap Cache (same_lines lines other valid sound e)
same_value (Cache lines) (Descriptors other) valid sound kind e = cc
same_value (Cache lines) (Coalesce n) valid sound kind e = cc
same_value (Descriptors wide) (Depth n) valid sound kind e = cc
same_value (Descriptors wide) (Cache other) valid sound kind e = cc
same_value (Descriptors wide) (Descriptors other) valid sound kind e = ap Descriptors (same_width wide other e)
same_value (Descriptors wide) (Coalesce n) valid sound kind e = cc
same_value (Coalesce m) (Depth n) valid sound kind e = cc
same_value (Coalesce m) (Cache other) valid sound kind e = cc
same_value (Coalesce m) (Descriptors other) valid sound kind e = cc
same_value (Coalesce m) (Coalesce n) valid sound kind e = ap Coalesce (decimal_injective m n (omega (arith, valid)) (omega (arith, sound)) e)

second_third : (a b c d e : List ℕ) → a ∷ b ∷ c ∷ [] ≡ a ∷ d ∷ e ∷ [] → (b ≡ d) × (c ≡ e)
second_third a b c d e same = ((cc), (cc))

-- a setting is determined by its words
pub same_setting : (setting other : Setting) → IsSetting setting → IsSetting other → setting_words setting ≡ setting_words other → setting ≡ other
same_setting setting other valid sound same =
    let parts = second_third (codes "set") (kind_text (kind_of setting)) (value_text setting) (kind_text (kind_of other)) (value_text other) same in
    same_value setting other valid sound (same_kind (kind_of setting) (kind_of other) parts.0) parts.1

pub setting_text-line : (setting : Setting) → IsSetting setting → IsLine (setting_text setting)
unfolding setting_text
setting_text-line setting valid = line_is (setting_words setting) (setting_words-plain setting valid)

pub setting_text-is : (setting : Setting) → setting_text setting ≡ line (setting_words setting)
unfolding setting_text
setting_text-is setting = refl

-- a text begins with one setting
pub one_setting : (setting other : Setting) (x y : List ℕ) → IsSetting setting → IsSetting other → setting_text setting ++ x ≡ setting_text other ++ y → (setting ≡ other) × (x ≡ y)
unfolding setting_text
one_setting setting other x y valid sound same =
    let parts = one_line (setting_words setting) (setting_words other) x y (setting_words-plain setting valid) (setting_words-plain other sound) (λ e. cc) (λ e. cc) same in
    (same_setting setting other valid sound parts.0, parts.1)

-- the first line of a text, if it is a setting's
pub setting_line : (setting : Setting) (text after front rest : List ℕ) → IsSetting setting → text ≡ front ++ 10 ∷ rest → IsFree 10 front → text ≡ setting_text setting ++ after
    → (front ≡ spaced (setting_words setting)) × (rest ≡ after)
unfolding setting_text
setting_line setting text after front rest valid parts free is = front_line (setting_words setting) text after front rest (setting_words-plain setting valid) parts free is

pub no_setting : (setting : Setting) (text after : List ℕ) → IsFree 10 text → text ≡ setting_text setting ++ after → ⊥
unfolding setting_text
no_setting setting text after free is = no_line (setting_words setting) text after free is

pub setting_parts : (setting : Setting) (text front after : List ℕ) → text ≡ front ++ 10 ∷ after → front ≡ spaced (setting_words setting) → text ≡ setting_text setting ++ after
unfolding setting_text
setting_parts setting text front after parts is = line_parts (setting_words setting) text front after parts is

-- a line is of one setting
pub same_line : (text : List ℕ) (setting other : Setting) → IsSetting setting → IsSetting other → text ≡ spaced (setting_words setting) → text ≡ spaced (setting_words other) → setting ≡ other
same_line text setting other valid sound one two = same_setting setting other valid sound (sym (words_from_line text setting valid one) ∙ words_from_line text other sound two)

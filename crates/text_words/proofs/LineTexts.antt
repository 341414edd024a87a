-- Texts that are lines: each ends with the only line feed in it.
use Rattle.std.proofs.Common.{◌≡◌, ◌≢◌, ◌⊎◌, inl, inr, ℕ, ◌+◌, ◌<◌, ◌≤◌, false, cond, List, [], ◌∷◌, ◌++◌, length, codes, refl, sym, ap, subst, ◌∙◌, arith, append_assoc}
use Rattle.std.specs.Prelude.{All, flat_map, ◌==◌}
use Rattle.std.proofs.lemmas.Bool.{ne_eqb}
use Rattle.std.proofs.lemmas.List.{append-nil, length-append}
use Rattle.std.proofs.lemmas.List.Elements.{All-head, All-tail}
use Rattle.std.proofs.lemmas.List.Sums.{sum_by-append, sum_by-cons}
use Rattle.text_words.specs.Words.{line, spaced, words_of}
use Rattle.text_words.proofs.Lines.{IsFree, IsWord, first_part, free_words, line_free, not_free, words_of-words}
use Rattle.text_words.specs.Texts.{lines_in}

-- what stands before the line feed
pub line_break : (words : List (List ℕ)) (after : List ℕ) → line words ++ after ≡ spaced words ++ 10 ∷ after
line_break words after = append_assoc (spaced words) (codes "\n") after

-- the first line of a text, if it is of these words
pub front_line : (words : List (List ℕ)) (text after front rest : List ℕ) → All IsWord words → text ≡ front ++ 10 ∷ rest → IsFree 10 front → text ≡ line words ++ after
    → (front ≡ spaced words) × (rest ≡ after)
front_line words text after front rest plain parts free is =
    first_part 10 front (spaced words) rest after free (line_free words plain) (sym parts ∙ is ∙ line_break words after)

-- a text begins with one line
pub one_line : (words others : List (List ℕ)) (x y : List ℕ) → All IsWord words → All IsWord others → words ≢ [] → others ≢ [] → line words ++ x ≡ line others ++ y → (words ≡ others) × (x ≡ y)
one_line words others x y plain also some more same =
    let parts = front_line others (line words ++ x) y (spaced words) x also (line_break words x) (line_free words plain) same in
    (sym (words_of-words words some (free_words words plain)) ∙ ap words_of parts.0 ∙ words_of-words others more (free_words others also), parts.1)

-- a text without a line feed begins with no line
pub no_line : (words : List (List ℕ)) (text after : List ℕ) → IsFree 10 text → text ≡ line words ++ after → ⊥
no_line words text after free is =
    let P : List ℕ → Type 0 = λ t. IsFree 10 t in
    not_free 10 (spaced words) after (subst P (is ∙ line_break words after) free)

pub line_parts : (words : List (List ℕ)) (text front after : List ℕ) → text ≡ front ++ 10 ∷ after → front ≡ spaced words → text ≡ line words ++ after
line_parts words text front after parts is = parts ∙ ap (λ t. t ++ 10 ∷ after) is ∙ sym (line_break words after)

-- a line
pub record IsLine (text : List ℕ) : Type 0 where
  pub front : List ℕ
  pub free : IsFree 10 front
  pub whole : text ≡ front ++ 10 ∷ []

pub line_is : (words : List (List ℕ)) → All IsWord words → IsLine (line words)
line_is words plain = record { front = spaced words; free = line_free words plain; whole = refl }

pub line_more : (text after : List ℕ) (is : IsLine text) → text ++ after ≡ is.front ++ 10 ∷ after
line_more text after is = ap (λ t. t ++ after) is.whole ∙ append_assoc is.front (10 ∷ []) after

pub line_long : (text : List ℕ) → IsLine text → 0 < length text
line_long text is = omega (arith, ap length is.whole, length-append is.front (10 ∷ []))

abbrev breaks : ℕ → ℕ
breaks b = cond (b == 10) 1 0

pub lines_in-append : (a b : List ℕ) → lines_in (a ++ b) ≡ lines_in a + lines_in b
lines_in-append a b = sum_by-append breaks a b

no_breaks : (text : List ℕ) → IsFree 10 text → lines_in text ≡ 0
no_breaks [] free = refl
no_breaks (b ∷ text) free =
    let here : (b == 10) ≡ false = ne_eqb b 10 (All-head (λ b. b ≢ 10) b text free) in
    let none : breaks b ≡ 0 = rw here refl in
    let rest = no_breaks text (All-tail (λ b. b ≢ 10) b text free) in
    omega (arith, sum_by-cons breaks b text, none, rest)

one_break : (text : List ℕ) → IsLine text → lines_in text ≡ 1
one_break text is = ap lines_in is.whole ∙ lines_in-append is.front (10 ∷ []) ∙ ap (λ n. n + 1) (no_breaks is.front is.free)

-- so many lines
pub lines_of : {T : Type 0} (P : T → Type 0) (text : T → List ℕ) → ((x : T) → P x → IsLine (text x)) → (xs : List T) → All P xs → lines_in (flat_map text xs) ≡ length xs
lines_of P text lines [] all = refl
lines_of P text lines (x ∷ xs) all =
    omega (arith, lines_in-append (text x) (flat_map text xs), one_break (text x) (lines x (All-head P x xs all)), lines_of P text lines xs (All-tail P x xs all))

-- not more than there are bytes
pub lines_fit : {T : Type 0} (P : T → Type 0) (text : T → List ℕ) → ((x : T) → P x → IsLine (text x)) → (xs : List T) → All P xs → length xs ≤ length (flat_map text xs)
lines_fit P text lines [] all = omega arith
lines_fit P text lines (x ∷ xs) all =
    omega (arith, lines_fit P text lines xs (All-tail P x xs all), line_long (text x) (lines x (All-head P x xs all)), length-append (text x) (flat_map text xs))

-- a line feed stands at the end of the first line or after it
abbrev Breaks : List ℕ → List ℕ → List ℕ → List ℕ → Type 0
Breaks front rest a b = ((a ≡ front) × (rest ≡ b)) ⊎ ((more : List ℕ) × (a ≡ front ++ 10 ∷ more) × (rest ≡ more ++ 10 ∷ b))

break_at : (front rest a b : List ℕ) → IsFree 10 front → front ++ 10 ∷ rest ≡ a ++ 10 ∷ b → Breaks front rest a b
break_at [] rest [] b free same = inl (refl, cc)
break_at [] rest (c ∷ a) b free same = inr (a, (cc), (cc))
break_at (d ∷ front) rest [] b free same = absurd (All-head (λ b. b ≢ 10) d front free (cc))
break_at (d ∷ front) rest (c ∷ a) b free same =
    let head : d ≡ c = cc in
    elim (break_at front rest a b (All-tail (λ b. b ≢ 10) d front free) (cc)) [
      | inl here ↦ (let tail = here.0 in inl ((cc), here.1))
      | inr later ↦ (let tail = later.1 in inr (later.0, (cc), later.2))
    ]

-- a text of lines that is cut behind a line feed: within them, or behind them
pub record CutWithin {T : Type 0} (text : T → List ℕ) (xs : List T) (a : List ℕ) : Type 0 where
  pub front : List T
  pub back : List T
  pub list : xs ≡ front ++ back
  pub whole : a ++ 10 ∷ [] ≡ flat_map text front

pub record CutBehind {T : Type 0} (text : T → List ℕ) (xs : List T) (y a b : List ℕ) : Type 0 where
  pub more : List ℕ
  pub front : a ≡ flat_map text xs ++ more
  pub rest : y ≡ more ++ 10 ∷ b

pub cut : {T : Type 0} (P : T → Type 0) (text : T → List ℕ) → ((x : T) → P x → IsLine (text x)) → (xs : List T) (y a b : List ℕ) → All P xs → flat_map text xs ++ y ≡ a ++ 10 ∷ b
    → CutWithin text xs a ⊎ CutBehind text xs y a b
cut P text lines [] y a b all same = inr (record { more = a; front = refl; rest = same })
cut P text lines (x ∷ xs) y a b all same =
    let is = lines x (All-head P x xs all) in
    let whole : is.front ++ 10 ∷ (flat_map text xs ++ y) ≡ a ++ 10 ∷ b = sym (line_more (text x) (flat_map text xs ++ y) is) ∙ sym (append_assoc (text x) (flat_map text xs) y) ∙ same in
    elim (break_at is.front (flat_map text xs ++ y) a b is.free whole) [
      | inl here ↦ inl (record {
        front = x ∷ [];
        back = xs;
        list = refl;
        whole = ap (λ t. t ++ 10 ∷ []) here.0 ∙ sym is.whole ∙ sym (append-nil (text x));
      })
      | inr later ↦ (
          let begins : is.front ++ 10 ∷ later.0 ≡ text x ++ later.0 = sym (line_more (text x) later.0 is) in
          elim (cut P text lines xs y later.0 b (All-tail P x xs all) later.2) [
            | inl within ↦ inl (record {
              front = x ∷ within.front;
              back = within.back;
              list = ap (λ l. x ∷ l) within.list;
              whole = ap (λ t. t ++ 10 ∷ []) (later.1 ∙ begins) ∙ append_assoc (text x) later.0 (10 ∷ []) ∙ ap (λ t. text x ++ t) within.whole;
            })
            | inr behind ↦ inr (record {
              more = behind.more;
              front = later.1 ∙ begins ∙ ap (λ t. text x ++ t) behind.front ∙ sym (append_assoc (text x) (flat_map text xs) behind.more);
              rest = behind.rest;
            })
          ]
          )
    ]

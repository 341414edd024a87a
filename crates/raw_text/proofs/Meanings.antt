-- A script's text has one meaning or one first bad line.
use Rattle.std.proofs.Common.{◌≡◌, ◌≢◌, ◌⊎◌, inl, inr, ℕ, Bool, false, ◌+◌, ◌-◌, ◌<◌, ◌≤◌, List, [], ◌∷◌, ◌++◌, length, refl, sym, ap, ◌∙◌, subst, arith, append_assoc}
use Rattle.std.specs.Prelude.{All, ◌==◌}
use Rattle.std.proofs.lemmas.Grind.{flat_map-append}
use Rattle.std.proofs.lemmas.List.{append-nil, length-append}
use Rattle.std.proofs.lemmas.List.Elements.{All-nil, All-cons, All-head, All-tail, All-append}
use Rattle.std.proofs.lemmas.Bool.{eqb-false}
use Rattle.text_words.specs.Words.{spaced}
use Rattle.text_words.proofs.Lines.{IsFree}
use Rattle.raw_text.specs.declared.op.RawOp.{RawOp}
use Rattle.raw_text.specs.Raw.{IsOp, op_text, op_words}
use Rattle.raw_text.specs.Meaning.{AreWithin, IsBadAfter, IsBadAt, Means, ops_text}
use Rattle.raw_text.proofs.OpTexts.{one_op, op_line, op_line_free, op_parts, op_text-length, op_text-line, op_text-long}

ops_text-append : (ops more : List RawOp) → ops_text (ops ++ more) ≡ ops_text ops ++ ops_text more
ops_text-append ops more = flat_map-append op_text ops more

pub ops_text-push : (ops : List RawOp) (op : RawOp) → ops_text (ops ++ op ∷ []) ≡ ops_text ops ++ op_text op
ops_text-push ops op = ops_text-append ops (op ∷ []) ∙ ap (λ t. ops_text ops ++ t) (append-nil (op_text op))

All-front : (ops more : List RawOp) → All IsOp (ops ++ more) → All IsOp ops
All-front [] more all = All-nil IsOp
All-front (op ∷ ops) more all = All-cons IsOp op ops (All-head IsOp op (ops ++ more) all) (All-front ops more (All-tail IsOp op (ops ++ more) all))

All-back : (ops more : List RawOp) → All IsOp (ops ++ more) → All IsOp more
All-back [] more all = all
All-back (op ∷ ops) more all = All-back ops more (All-tail IsOp op (ops ++ more) all)

-- the front of what one text can have is what one text can have
within_front : (ops more : List RawOp) → AreWithin (ops ++ more) → AreWithin ops
within_front ops more within = record {
  each = All-front ops more within.each;
  bytes = omega (arith, within.bytes, ap length (ops_text-append ops more), length-append (ops_text ops) (ops_text more));
}

-- of two ops_text that agree, one goes on with operations of the other
record Goes (ops : List RawOp) (x : List ℕ) (others : List RawOp) (y : List ℕ) : Type 0 where
  more : List RawOp
  list : others ≡ ops ++ more
  rest : x ≡ ops_text more ++ y

goes_on : (op other : RawOp) (ops others : List RawOp) (x y : List ℕ) → op ≡ other → Goes ops x others y → Goes (op ∷ ops) x (other ∷ others) y
goes_on op other ops others x y same goes = record { more = goes.more; list = (let list = goes.list in cc); rest = goes.rest }

overlap : (ops others : List RawOp) (x y : List ℕ) → All IsOp ops → All IsOp others → ops_text ops ++ x ≡ ops_text others ++ y → Goes ops x others y ⊎ Goes others y ops x
overlap [] others x y all each same = inl (record { more = others; list = refl; rest = same })
overlap (op ∷ ops) [] x y all each same = inr (record { more = op ∷ ops; list = refl; rest = sym same })
overlap (op ∷ ops) (other ∷ others) x y all each same =
    let parts = one_op op other (ops_text ops ++ x) (ops_text others ++ y) (All-head IsOp op ops all) (All-head IsOp other others each)
    (sym (append_assoc (op_text op) (ops_text ops) x) ∙ same ∙ append_assoc (op_text other) (ops_text others) y) in
    elim (overlap ops others x y (All-tail IsOp op ops all) (All-tail IsOp other others each) parts.1) [
      | inl goes ↦ inl (goes_on op other ops others x y parts.0 goes)
      | inr goes ↦ inr (goes_on other op others ops y x (sym parts.0) goes)
    ]

-- where nothing is left, nothing more was read
none_left : (more : List RawOp) (y : List ℕ) → [] ≡ ops_text more ++ y → (more ≡ []) × (y ≡ [])
none_left [] y is = (refl, sym is)
none_left (op ∷ more) y is =
    absurd (omega (arith, op_text-long op, ap length is, length-append (op_text op ++ ops_text more) y, length-append (op_text op) (ops_text more)))

-- no operation stands at a bad line
none_at_bad : (bytes : List ℕ) (good : List RawOp) (rest : List ℕ) (more : List RawOp) (y : List ℕ) → IsBadAfter bytes good rest → rest ≡ ops_text more ++ y → AreWithin (good ++ more) → more ≡ []
none_at_bad bytes good rest [] y bad is within = refl
none_at_bad bytes good rest (op ∷ more) y bad is within =
    let P : List RawOp → Type 0 = λ ops. AreWithin ops in
    absurd (bad.bad op (ops_text more ++ y) (is ∙ append_assoc (op_text op) (ops_text more) y)
    (within_front (good ++ op ∷ []) more (subst P (sym (append_assoc good (op ∷ []) more)) within)))

-- a text means one list of operations
pub one_meaning : (bytes : List ℕ) (ops others : List RawOp) → Means bytes ops → Means bytes others → ops ≡ others
one_meaning bytes ops others means also =
    let same : ops_text ops ++ [] ≡ ops_text others ++ [] = append-nil (ops_text ops) ∙ sym means.text ∙ also.text ∙ sym (append-nil (ops_text others)) in
    elim (overlap ops others [] [] means.within.each also.within.each same) [
      | inl goes ↦ (let none = none_left goes.more [] goes.rest in sym (goes.list ∙ ap (λ more. ops ++ more) none.0 ∙ append-nil ops))
      | inr goes ↦ (let none = none_left goes.more [] goes.rest in goes.list ∙ ap (λ more. others ++ more) none.0 ∙ append-nil others)
    ]

-- a text that means operations has no bad line
pub no_bad_line : (bytes : List ℕ) (ops : List RawOp) (line : ℕ) → Means bytes ops → IsBadAt bytes line → ⊥
no_bad_line bytes ops line means bad =
    let good = bad.0 in
    let rest = bad.1 in
    let same : ops_text ops ++ [] ≡ ops_text good ++ rest = append-nil (ops_text ops) ∙ sym means.text ∙ bad.2.text in
    elim (overlap ops good [] rest means.within.each bad.2.within.each same) [
      | inl goes ↦ bad.2.more (none_left goes.more rest goes.rest).1
      | inr goes ↦ (
          let P : List RawOp → Type 0 = λ all. AreWithin all in
          let none = none_at_bad bytes good rest goes.more [] bad.2 goes.rest (subst P goes.list means.within) in
          bad.2.more (goes.rest ∙ ap (λ more. ops_text more ++ []) none)
          )
    ]

same_length : (good others : List RawOp) (more : List RawOp) → others ≡ good ++ more → more ≡ [] → length good + 1 ≡ length others + 1
same_length good others more list none = ap (λ ops. length ops + 1) (sym (list ∙ ap (λ m. good ++ m) none ∙ append-nil good))

-- a text has one first bad line
pub one_bad_line : (bytes : List ℕ) (line other : ℕ) → IsBadAt bytes line → IsBadAt bytes other → line ≡ other
one_bad_line bytes line other bad also =
    let P : List RawOp → Type 0 = λ all. AreWithin all in
    elim (overlap bad.0 also.0 bad.1 also.1 bad.2.within.each also.2.within.each (sym bad.2.text ∙ also.2.text)) [
      | inl goes ↦ (
          let none = none_at_bad bytes bad.0 bad.1 goes.more also.1 bad.2 goes.rest (subst P goes.list also.2.within) in
          bad.3 ∙ same_length bad.0 also.0 goes.more goes.list none ∙ sym also.3
          )
      | inr goes ↦ (
          let none = none_at_bad bytes also.0 also.1 goes.more bad.1 also.2 goes.rest (subst P goes.list bad.2.within) in
          bad.3 ∙ sym (same_length also.0 bad.0 goes.more goes.list none) ∙ sym also.3
          )
    ]

pub last_op : (ops : List RawOp) (op : RawOp) → AreWithin (ops ++ op ∷ []) → IsOp op
last_op ops op within = All-head IsOp op [] (All-back ops (op ∷ []) within.each)

pub some_left : (rest : List ℕ) (empty : Bool) → empty ≡ (length rest == 0) → empty ≡ false → rest ≢ []
some_left rest empty is other e = omega (arith, eqb-false (length rest) 0 (sym is ∙ other), ap length e)

-- how many more bytes a text can have
pub room_left : (bytes : List ℕ) (ops : List RawOp) (rest : List ℕ) → bytes ≡ ops_text ops ++ rest → AreWithin ops → 16777216 - (length bytes - length rest) + length (ops_text ops) ≡ 16777216
room_left bytes ops rest text within = omega (arith, within.bytes, ap length text, length-append (ops_text ops) rest)

-- one operation more, where its line fits
pub within_push : (ops : List RawOp) (op : RawOp) (line : List ℕ) (room : ℕ) → AreWithin ops → IsOp op → line ≡ spaced (op_words op) → length line < room → room + length (ops_text ops) ≡ 16777216 → AreWithin (ops ++ op ∷ [])
within_push ops op line room within valid is fits counted = record {
  each = All-append IsOp ops (op ∷ []) within.each (All-cons IsOp op [] valid (All-nil IsOp));
  bytes = omega (arith, ap length (ops_text-push ops op), length-append (ops_text ops) (op_text op), op_text-length op, ap length is);
}

-- the line after the operations so far is the first bad one, where it has no line feed or doesn't fit
pub bad_line : (bytes : List ℕ) (ops : List RawOp) (rest : List ℕ) (room : ℕ) → bytes ≡ ops_text ops ++ rest → AreWithin ops → rest ≢ [] → room + length (ops_text ops) ≡ 16777216
    → ((line after : List ℕ) → rest ≡ line ++ 10 ∷ after → IsFree 10 line → room ≤ length line) → IsBadAfter bytes ops rest
bad_line bytes ops rest room text within more counted none = record {
  text = text;
  within = within;
  more = more;
  bad = λ op after is wider.
      let valid = last_op ops op wider in
      let long = none (spaced (op_words op)) after (is ∙ op_text-line op after) (op_line_free op valid) in
      omega (arith, wider.bytes, ap length (ops_text-push ops op), length-append (ops_text ops) (op_text op), op_text-length op);
}

-- and where it is no operation's
pub bad_op : (bytes : List ℕ) (ops : List RawOp) (rest line after : List ℕ) → bytes ≡ ops_text ops ++ rest → AreWithin ops → rest ≢ [] → rest ≡ line ++ 10 ∷ after → IsFree 10 line
    → ((op : RawOp) → ¬ (IsOp op × (line ≡ spaced (op_words op)))) → IsBadAfter bytes ops rest
bad_op bytes ops rest line after text within more parts free none = record {
  text = text;
  within = within;
  more = more;
  bad = λ op other is wider.
      let valid = last_op ops op wider in
      none op (valid, (op_line op rest other line after valid parts free is).0);
}

-- what stands after one operation more
pub text_push : (bytes : List ℕ) (ops : List RawOp) (op : RawOp) (rest line after : List ℕ) → bytes ≡ ops_text ops ++ rest → rest ≡ line ++ 10 ∷ after → line ≡ spaced (op_words op) → bytes ≡ ops_text (ops ++ op ∷ []) ++ after
text_push bytes ops op rest line after text parts is =
    text ∙ ap (λ t. ops_text ops ++ t) (op_parts op rest line after parts is) ∙ sym (append_assoc (ops_text ops) (op_text op) after) ∙ ap (λ t. t ++ after) (sym (ops_text-push ops op))

-- an operation has a byte at least
pub length_ops : (ops : List RawOp) → length ops ≤ length (ops_text ops)
length_ops [] = omega arith
length_ops (op ∷ ops) = omega (arith, length_ops ops, op_text-long op, length-append (op_text op) (ops_text ops))

nothing : (rest : List ℕ) → length rest ≡ 0 → rest ≡ []
nothing [] none = refl
nothing (b ∷ rest) none = absurd (omega arith)

-- the operations of a text of which nothing is left
pub all_read : (bytes : List ℕ) (ops : List RawOp) (rest : List ℕ) → bytes ≡ ops_text ops ++ rest → AreWithin ops → length rest ≡ 0 → Means bytes ops
all_read bytes ops rest text within none = record { text = text ∙ ap (λ more. ops_text ops ++ more) (nothing rest none) ∙ append-nil (ops_text ops); within = within }

shorter_front : (a b x y : List ℕ) → length a ≤ length x → x ++ y ≡ a ++ b → (after : List ℕ) × (x ≡ a ++ after)
shorter_front [] b x y short same = (x, refl)
shorter_front (c ∷ a) b [] y short same = absurd (omega arith)
shorter_front (c ∷ a) b (d ∷ x) y short same =
    let rest = shorter_front a b x y (omega arith) (cc) in
    let tail = rest.1 in
    let head : d ≡ c = cc in
    (rest.0, cc)

empty_front : (front more : List ℕ) → front ++ more ≡ [] → front ≡ []
empty_front [] more e = refl
empty_front (b ∷ front) more e = absurd (cc)

-- a text that goes past the limit on bytes has the first bad line of its front, if that front does too
pub bad_front : (front more : List ℕ) (line : ℕ) → 16777216 < length front → IsBadAt front line → IsBadAt (front ++ more) line
bad_front front more line long bad =
    let good = bad.0 in
    let rest = bad.1 in
    let text = bad.2.text in (
      good,
      rest ++ more,
      record {
        text = ap (λ t. t ++ more) text ∙ append_assoc (ops_text good) rest more;
        within = bad.2.within;
        more = λ e. bad.2.more (empty_front rest more e);
        bad = λ op after is wider.
            let short : length (op_text op) ≤ length rest =
            omega (arith, wider.bytes, ap length (ops_text-push good op), length-append (ops_text good) (op_text op), ap length text, length-append (ops_text good) rest) in
            let parts = shorter_front (op_text op) after rest more short is in
            bad.2.bad op parts.0 parts.1 wider;
      },
      bad.3,
    )

-- a text that means operations has not more than 16 MiB
pub meaning_fits : (bytes : List ℕ) (ops : List RawOp) → Means bytes ops → length bytes ≤ 16777216
meaning_fits bytes ops means = omega (arith, ap length means.text, means.within.bytes)

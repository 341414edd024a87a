-- What the front of a script says of all of it.
use Rattle.std.proofs.Common.{◌≡◌, ℕ, ◌<◌, ◌≤◌, List, [], ◌∷◌, ◌++◌, Option, None, Some, IfSome, length, take, drop, refl, sym, ◌∙◌, ap, subst, arith, append_assoc, inl, inr}
use Rattle.std.proofs.lemmas.Grind.{flat_map-append}
use Rattle.std.proofs.lemmas.List.{append-nil, length-append}
use Rattle.raw_text.specs.declared.op.RawOp.{RawOp}
use Rattle.raw_text.specs.Meaning.{IsBadAt, Means, ops_text}
use Rattle.raw_text.specs.Raw.{op_text}
use Rattle.cqmmc_top.proofs.TextsRead.{whole_or_long, front_and_rest}
use Rattle.cqmmc_top.specs.Texts.{WasRead}

ops_text-push : (ops : List RawOp) (op : RawOp) → ops_text (ops ++ op ∷ []) ≡ ops_text ops ++ op_text op
ops_text-push ops op = flat_map-append op_text ops (op ∷ []) ∙ ap (λ t. ops_text ops ++ t) (append-nil (op_text op))

shorter_front : (a b x y : List ℕ) → length a ≤ length x → x ++ y ≡ a ++ b → (after : List ℕ) × (x ≡ a ++ after)
shorter_front [] b x y short same = (x, refl)
shorter_front (c ∷ a) b [] y short same = absurd (omega arith)
shorter_front (c ∷ a) b (d ∷ x) y short same =
    let rest = shorter_front a b x y (omega arith) (cc) in
    let tail = rest.1 in
    let head : d ≡ c = cc in
    (rest.0, cc)

empty_front : (front more : List ℕ) → front ++ more ≡ [] → front ≡ []
empty_front [] more e = refl
empty_front (b ∷ front) more e = absurd (cc)

-- a script that goes past the limit on bytes has the first bad line of its front, if that front does too
bad_front : (front more : List ℕ) (line : ℕ) → 16777216 < length front → IsBadAt front line → IsBadAt (front ++ more) line
bad_front front more line long bad =
    let good = bad.0 in
    let rest = bad.1 in
    let text = bad.2.text in (
      good,
      rest ++ more,
      record {
        text = ap (λ t. t ++ more) text ∙ append_assoc (ops_text good) rest more;
        within = bad.2.within;
        more = λ e. bad.2.more (empty_front rest more e);
        bad = λ op after is wider.
            let short : length (op_text op) ≤ length rest =
            omega (arith, wider.bytes, ap length (ops_text-push good op), length-append (ops_text good) (op_text op), ap length text, length-append (ops_text good) rest) in
            let parts = shorter_front (op_text op) after rest more short is in
            bad.2.bad op parts.0 parts.1 wider;
      },
      bad.3,
    )

meaning_fits : (bytes : List ℕ) (ops : List RawOp) → Means bytes ops → length bytes ≤ 16777216
meaning_fits bytes ops means = omega (arith, ap length means.text, means.within.bytes)

means_all : (left bytes : List ℕ) (ops : List RawOp) → bytes ≡ take 16777217 left → Means bytes ops → Means left ops
means_all left bytes ops is means = elim (whole_or_long 16777216 left bytes is) [
  | inl whole ↦ subst (λ text. Means text ops) whole means
  | inr long ↦ absurd (omega (arith, meaning_fits bytes ops means))
]

bad_all : (left bytes : List ℕ) (line : ℕ) → bytes ≡ take 16777217 left → IsBadAt bytes line → IsBadAt left line
bad_all left bytes line is bad = elim (whole_or_long 16777216 left bytes is) [
  | inl whole ↦ subst (λ text. IsBadAt text line) whole bad
  | inr long ↦ subst (λ text. IsBadAt text line) (sym (front_and_rest 16777217 left bytes is)) (bad_front bytes (drop 16777217 left) line long bad)
]

pub script_read : (text : Option (List ℕ)) (bytes : List ℕ) (ops : List RawOp) → WasRead text bytes → Means bytes ops → IfSome text (λ left. Means left ops)
script_read None bytes ops read means = tt
script_read (Some left) bytes ops read means = means_all left bytes ops read means

pub bad_script_read : (text : Option (List ℕ)) (bytes : List ℕ) (line : ℕ) → WasRead text bytes → IsBadAt bytes line → IfSome text (λ left. IsBadAt left line)
bad_script_read None bytes line read bad = tt
bad_script_read (Some left) bytes line read bad = bad_all left bytes line read bad

-- What the front of a text says of all of it.
use Rattle.std.proofs.Common.{◌≡◌, ◌⊎◌, inl, inr, ℕ, suc, ◌+◌, ◌<◌, ◌≤◌, List, [], ◌∷◌, ◌++◌, Option, None, Some, IfSome, length, take, drop, refl, sym, ◌∙◌, ap, subst, arith, take-append-drop, length-take}
use Rattle.std.proofs.lemmas.List.{append_assoc, length-append, take_all}
use Rattle.std.specs.Prelude.{flat_map}
use Rattle.storage_model.specs.declared.faults.Faults.{Faults}
use Rattle.storage_model.specs.declared.plan.Plan.{Plan}
use Rattle.fault_text.specs.Faults.{Means as FaultsMean, array_of}
use Rattle.fault_text.specs.declared.line.FaultLine.{FaultLine}
use Rattle.fault_text.specs.declared.line.FaultLine.TheVariants.{Ready, Bus, Program, Fetch, Cut, Turn}
use Rattle.request_text.specs.Meaning.{Means as RequestsMean}
use Rattle.text_words.specs.Texts.{IsBadAt}
use Rattle.cqmmc_top.specs.Texts.{WasRead}

-- the whole text was read, or more than the limit
pub whole_or_long : (most : ℕ) (left bytes : List ℕ) → bytes ≡ take (suc most) left → (bytes ≡ left) ⊎ (most < length bytes)
whole_or_long most left bytes is = elim (le_or_lt (length left) most) [
  | inl short ↦ inl (is ∙ take_all (suc most) left (omega arith))
  | inr long ↦ inr (let n : length bytes ≡ suc most = ap length is ∙ (length-take (suc most) left ∙ omega arith) in omega arith)
]
  where
    le_or_lt : (a b : ℕ) → (a ≤ b) ⊎ (b < a)
    le_or_lt a b = grind arith

pub front_and_rest : (n : ℕ) (left bytes : List ℕ) → bytes ≡ take n left → left ≡ bytes ++ drop n left
front_and_rest n left bytes is = sym (take-append-drop n left) ∙ ap (λ front. front ++ drop n left) (sym is)

shorter_front : (a b x y : List ℕ) → length a ≤ length x → x ++ y ≡ a ++ b → (after : List ℕ) × (x ≡ a ++ after)
shorter_front [] b x y short same = (x, refl)
shorter_front (c ∷ a) b [] y short same = absurd (omega arith)
shorter_front (c ∷ a) b (d ∷ x) y short same =
    let rest = shorter_front a b x y (omega arith) (cc) in
    let tail = rest.1 in
    let head : d ≡ c = cc in
    (rest.0, cc)

empty_front : (front more : List ℕ) → front ++ more ≡ [] → front ≡ []
empty_front [] more e = refl
empty_front (b ∷ front) more e = absurd (cc)

-- a text that goes past the limit on bytes has the first bad line of its front, if that front does too
module _ {M : Type 0} (Means : List ℕ → M → Type 0) (fits : (bytes : List ℕ) (meaning : M) → Means bytes meaning → length bytes ≤ 16777216) where
  bad_front : (front more : List ℕ) (line : ℕ) → 16777216 < length front → IsBadAt Means front line → IsBadAt Means (front ++ more) line
  bad_front front more line long bad =
      let good = bad.0 in
      let rest = bad.1 in
      let text = bad.2.text in (
        good,
        rest ++ more,
        record {
          text = ap (λ t. t ++ more) text ∙ append_assoc good rest more;
          meaning = bad.2.meaning;
          means = bad.2.means;
          more = λ e. bad.2.more (empty_front rest more e);
          bad = λ next after other is free means.
              let row : List ℕ = next ++ 10 ∷ [] in
              let fit : length (good ++ row) ≤ 16777216 = fits (good ++ row) other (subst (λ bytes. Means bytes other) (append_assoc good next (10 ∷ [])) means) in
              let whole : length (good ++ row) ≡ length good + length row = length-append good row in
              let front_is : length front ≡ length (good ++ rest) = ap length text in
              let long_is : length (good ++ rest) ≡ length good + length rest = length-append good rest in
              let short : length row ≤ length rest = omega (arith, fit, long, whole, front_is, long_is) in
              let parts = shorter_front row after rest more short (is ∙ sym (append_assoc next (10 ∷ []) after)) in
              bad.2.bad next parts.0 other (parts.1 ∙ append_assoc next (10 ∷ []) parts.0) free means;
        },
        bad.3,
      )

  pub means_read : (text : Option (List ℕ)) (bytes : List ℕ) (meaning : M) → WasRead text bytes → Means bytes meaning → IfSome text (λ left. Means left meaning)
  means_read None bytes meaning read means = tt
  means_read (Some left) bytes meaning read means = elim (whole_or_long 16777216 left bytes read) [
    | inl whole ↦ subst (λ text. Means text meaning) whole means
    | inr long ↦ absurd (let fit = fits bytes meaning means in omega (arith, fit, long))
  ]

  pub bad_read : (text : Option (List ℕ)) (bytes : List ℕ) (line : ℕ) → WasRead text bytes → IsBadAt Means bytes line → IfSome text (λ left. IsBadAt Means left line)
  bad_read None bytes line read bad = tt
  bad_read (Some left) bytes line read bad = elim (whole_or_long 16777216 left bytes read) [
    | inl whole ↦ subst (λ text. IsBadAt Means text line) whole bad
    | inr long ↦ subst (λ text. IsBadAt Means text line) (sym (front_and_rest 16777217 left bytes read)) (bad_front bytes (drop 16777217 left) line long bad)
  ]

pub request_fits : (bytes : List ℕ) (plan : Plan) → RequestsMean bytes plan → length bytes ≤ 16777216
request_fits bytes plan means = means.long

-- a line makes one call fail at most
hit_few : (line : FaultLine) → length (array_of line) ≤ 1
hit_few (Ready mask) = omega arith
hit_few (Bus n kind) = omega arith
hit_few (Program n cut mask) = omega arith
hit_few (Fetch n) = omega arith
hit_few (Cut n) = omega arith
hit_few (Turn letters) = omega arith

hits_few : (lines : List FaultLine) → length (flat_map array_of lines) ≤ length lines
hits_few [] = omega arith
hits_few (line ∷ lines) = let first = hit_few line in let rest = hits_few lines in let all = length-append (array_of line) (flat_map array_of lines) in omega (arith, first, rest, all)

pub few_faults : (bytes : List ℕ) (faults : Faults) → FaultsMean bytes faults → length faults.array ≤ 4096
few_faults bytes faults means = let few = hits_few means.lines in let most = means.within.count in let are = ap (λ (f : Faults). length f.array) means.meant in omega (arith, few, most, are)

-- Laws of the first bad line, for texts of which each front of whole lines means something.
use Rattle.std.proofs.Common.{◌≡◌, ◌≢◌, ◌⊎◌, inl, inr, ℕ, ◌+◌, ◌≤◌, Bool, true, false, List, [], ◌∷◌, ◌++◌, length, refl, sym, ap, subst, ◌∙◌, arith, append_assoc}
use Rattle.std.specs.Prelude.{◌==◌}
use Rattle.std.proofs.lemmas.Bool.{eqb-true}
use Rattle.std.proofs.lemmas.List.{append-nil, length-append}
use Rattle.std.proofs.lemmas.List.Elements.{All-nil, All-cons}
use Rattle.text_words.specs.Texts.{IsBadAfter, IsBadAt, lines_in}
use Rattle.text_words.proofs.Lines.{IsFree, not_free}

-- nothing, or whole lines
abbrev pub Ended : List ℕ → Type 0
Ended text = (text ≡ []) ⊎ ((front : List ℕ) × (text ≡ front ++ 10 ∷ []))

back_empty : (xs ys : List ℕ) → xs ++ ys ≡ [] → ys ≡ []
back_empty [] ys e = e
back_empty (x ∷ xs) ys e = absurd (cc)

front_empty : (xs ys : List ℕ) → xs ++ ys ≡ [] → xs ≡ []
front_empty [] ys e = refl
front_empty (x ∷ xs) ys e = absurd (cc)

not_ended : (good rest front : List ℕ) → good ++ rest ≡ front ++ 10 ∷ [] → rest ≢ [] → IsFree 10 rest → ⊥
not_ended [] rest front same some free = not_free 10 front [] (subst (λ (t : List ℕ). IsFree 10 t) same free)
not_ended (b ∷ good) rest [] same some free = some (back_empty good rest (cc))
not_ended (b ∷ good) rest (c ∷ front) same some free = not_ended good rest front (cc) some free

record FirstLine (rest : List ℕ) : Type 0 where
  next : List ℕ
  after : List ℕ
  parts : rest ≡ next ++ 10 ∷ after
  free : IsFree 10 next

either : (c : Bool) → (c ≡ true) ⊎ (c ≡ false)
either true = inl refl
either false = inr refl

is_break : (b : ℕ) → (b ≡ 10) ⊎ (b ≢ 10)
is_break b = elim (either (b == 10)) [
  | inl holds ↦ inl (eqb-true b 10 holds)
  | inr fails ↦ inr (λ e. let here : (b == 10) ≡ true = rw e refl in cc)
]

first_line : (rest : List ℕ) → FirstLine rest ⊎ IsFree 10 rest
first_line [] = inr (All-nil (λ b. b ≢ 10))
first_line (b ∷ rest) =
    elim (is_break b) [
      | inl break ↦ inl (record { next = []; after = rest; parts = ap (λ c. c ∷ rest) break; free = All-nil (λ b. b ≢ 10) })
      | inr other ↦ elim (first_line rest) [
        | inl first ↦ inl (record { next = b ∷ first.next; after = first.after; parts = ap (λ t. b ∷ t) first.parts; free = All-cons (λ b. b ≢ 10) b first.next other first.free })
        | inr free ↦ inr (All-cons (λ b. b ≢ 10) b rest other free)
      ]
    ]

abbrev OneIsFront : List ℕ → List ℕ → List ℕ → List ℕ → Type 0
OneIsFront a x b y = ((more : List ℕ) × (b ≡ a ++ more) × (x ≡ more ++ y)) ⊎ ((more : List ℕ) × (a ≡ b ++ more) × (y ≡ more ++ x))

one_front : (a b x y : List ℕ) → a ++ x ≡ b ++ y → OneIsFront a x b y
one_front [] b x y same = inl (b, refl, same)
one_front (c ∷ a) [] x y same = inr (c ∷ a, refl, sym same)
one_front (c ∷ a) (d ∷ b) x y same =
    let head : c ≡ d = cc in
    elim (one_front a b x y (cc)) [
      | inl left ↦ (let list = left.1 in inl (left.0, (cc), left.2))
      | inr right ↦ (let list = right.1 in inr (right.0, (cc), right.2))
    ]

shorter_front : (a b x y : List ℕ) → length a ≤ length x → x ++ y ≡ a ++ b → (after : List ℕ) × (x ≡ a ++ after)
shorter_front [] b x y short same = (x, refl)
shorter_front (c ∷ a) b [] y short same = absurd (omega arith)
shorter_front (c ∷ a) b (d ∷ x) y short same =
    let rest = shorter_front a b x y (omega arith) (cc) in
    let tail = rest.1 in
    let head : d ≡ c = cc in
    (rest.0, cc)

-- a front of whole lines means something, and what means something is whole lines
pub record HasLines {M : Type 0} (Means : List ℕ → M → Type 0) : Type 0 where
  pub front : (a b : List ℕ) (m : M) → Means (a ++ 10 ∷ b) m → (other : M) × Means (a ++ 10 ∷ []) other
  pub ended : (bytes : List ℕ) (m : M) → Means bytes m → Ended bytes

module _ {M : Type 0} (Means : List ℕ → M → Type 0) (are : HasLines Means) where
  -- no text with a meaning goes past a bad line
  behind_bad : (bytes good rest more after : List ℕ) (m : M) → IsBadAfter Means bytes good rest → Means (good ++ more) m → rest ≡ more ++ after → more ≢ [] → ⊥
  behind_bad bytes good rest more after m bad means is some =
      elim (first_line more) [
        | inl first ↦ (
            let whole : good ++ more ≡ good ++ first.next ++ 10 ∷ first.after = ap (λ t. good ++ t) first.parts ∙ sym (append_assoc good first.next (10 ∷ first.after)) in
            let front = are.front (good ++ first.next) first.after m (subst (λ (t : List ℕ). Means t m) whole means) in
            bad.bad first.next (first.after ++ after) front.0 (is ∙ ap (λ t. t ++ after) first.parts ∙ append_assoc first.next (10 ∷ first.after) after) first.free front.1
            )
        | inr free ↦ elim (are.ended (good ++ more) m means) [
          | inl none ↦ some (back_empty good more none)
          | inr ended ↦ not_ended good more ended.0 ended.1 some free
        ]
      ]

  -- a text that means something has no bad line
  pub no_bad_line : (bytes : List ℕ) (m : M) (number : ℕ) → Means bytes m → IsBadAt Means bytes number → ⊥
  no_bad_line bytes m number means bad =
      behind_bad bytes bad.0 bad.1 bad.1 [] m bad.2 (subst (λ (t : List ℕ). Means t m) bad.2.text means) (sym (append-nil bad.1)) bad.2.more

  same_good : (bytes good rest other behind more : List ℕ) → IsBadAfter Means bytes good rest → IsBadAfter Means bytes other behind → other ≡ good ++ more → rest ≡ more ++ behind → good ≡ other
  same_good bytes good rest other behind [] bad also list is = sym (list ∙ append-nil good)
  same_good bytes good rest other behind (b ∷ more) bad also list is =
      absurd (behind_bad bytes good rest (b ∷ more) behind also.meaning bad (subst (λ (t : List ℕ). Means t also.meaning) list also.means) is (λ e. cc))

  -- a text has one first bad line
  pub one_bad_line : (bytes : List ℕ) (number other : ℕ) → IsBadAt Means bytes number → IsBadAt Means bytes other → number ≡ other
  one_bad_line bytes number other bad also =
      elim (one_front bad.0 also.0 bad.1 also.1 (sym bad.2.text ∙ also.2.text)) [
        | inl left ↦ bad.3 ∙ ap (λ (t : List ℕ). lines_in t + 1) (same_good bytes bad.0 bad.1 also.0 also.1 left.0 bad.2 also.2 left.1 left.2) ∙ sym also.3
        | inr right ↦ bad.3 ∙ ap (λ (t : List ℕ). lines_in t + 1) (sym (same_good bytes also.0 also.1 bad.0 bad.1 right.0 also.2 bad.2 right.1 right.2)) ∙ sym also.3
      ]

  -- a text of so many bytes as a text may have, or more, has the first bad line of its front, if that front has one
  pub bad_front : (limit : ℕ) → ((bytes : List ℕ) (m : M) → Means bytes m → length bytes ≤ limit) → (front more : List ℕ) (number : ℕ) → limit ≤ length front → IsBadAt Means front number
      → IsBadAt Means (front ++ more) number
  bad_front limit fits front more number long bad =
      let good = bad.0 in
      let rest = bad.1 in
      let text = bad.2.text in (
        good,
        rest ++ more,
        record {
          text = ap (λ t. t ++ more) text ∙ append_assoc good rest more;
          meaning = bad.2.meaning;
          means = bad.2.means;
          more = λ e. bad.2.more (front_empty rest more e);
          bad = λ next after other is free means.
              let whole : rest ++ more ≡ (next ++ 10 ∷ []) ++ after = is ∙ sym (append_assoc next (10 ∷ []) after) in
              let short : length (next ++ 10 ∷ []) ≤ length rest =
              omega (arith, fits (good ++ next ++ 10 ∷ []) other means, long, ap length text, length-append good rest, length-append (good ++ next) (10 ∷ []), length-append good next, length-append next (10 ∷ [])) in
              let parts = shorter_front (next ++ 10 ∷ []) after rest more short whole in
              bad.2.bad next parts.0 other (parts.1 ∙ append_assoc next (10 ∷ []) parts.0) free means;
        },
        bad.3,
      )

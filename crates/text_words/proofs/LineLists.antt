-- Texts of lists whose elements are written as a line each.
use Rattle.std.proofs.Common.{◌≡◌, ◌⊎◌, inl, inr, ℕ, List, [], ◌∷◌, ◌++◌, length, refl, sym, ap, ◌∙◌, subst, arith, append_assoc}
use Rattle.std.specs.Prelude.{All, flat_map}
use Rattle.std.proofs.lemmas.List.{append-nil, length-append}
use Rattle.std.proofs.lemmas.List.Elements.{All-head, All-tail}
use Rattle.text_words.proofs.Lines.{IsFree, first_part}
use Rattle.text_words.proofs.BadLines.{Ended}
use Rattle.text_words.proofs.LineTexts.{IsLine, line_long, line_more}

-- lines end with a line feed
pub lines_ended : {T : Type 0} (P : T → Type 0) (text : T → List ℕ) → ((x : T) → P x → IsLine (text x)) → (xs : List T) → All P xs → Ended (flat_map text xs)
lines_ended P text lines [] all = inl refl
lines_ended P text lines (x ∷ xs) all =
    let is = lines x (All-head P x xs all) in
    elim (lines_ended P text lines xs (All-tail P x xs all)) [
      | inl none ↦ inr (is.front, ap (λ t. text x ++ t) none ∙ append-nil (text x) ∙ is.whole)
      | inr some ↦ inr (text x ++ some.0, ap (λ t. text x ++ t) some.1 ∙ sym (append_assoc (text x) some.0 (10 ∷ [])))
    ]

module _ {T : Type 0} (text : T → List ℕ) (Valid : T → Type 0) (lines : (x : T) → Valid x → IsLine (text x)) (injective : (x y : T) → Valid x → Valid y → text x ≡ text y → x ≡ y) where
  -- a text begins with the line of one element
  one_text : (x y : T) (a b : List ℕ) → Valid x → Valid y → text x ++ a ≡ text y ++ b → (x ≡ y) × (a ≡ b)
  one_text x y a b valid sound same =
      let one = lines x valid in
      let two = lines y sound in
      let parts = first_part 10 one.front two.front a b one.free two.free (sym (line_more (text x) a one) ∙ same ∙ line_more (text y) b two) in
      (injective x y valid sound (one.whole ∙ ap (λ t. t ++ 10 ∷ []) parts.0 ∙ sym two.whole), parts.1)

  -- of two texts that agree, one goes on with elements of the other
  record Goes (xs : List T) (a : List ℕ) (ys : List T) (b : List ℕ) : Type 0 where
    more : List T
    list : ys ≡ xs ++ more
    rest : a ≡ flat_map text more ++ b
    each : All Valid more

  goes_on : (x y : T) (xs ys : List T) (a b : List ℕ) → x ≡ y → Goes xs a ys b → Goes (x ∷ xs) a (y ∷ ys) b
  goes_on x y xs ys a b same goes = record { more = goes.more; list = (let list = goes.list in cc); rest = goes.rest; each = goes.each }

  overlap : (xs ys : List T) (a b : List ℕ) → All Valid xs → All Valid ys → flat_map text xs ++ a ≡ flat_map text ys ++ b → Goes xs a ys b ⊎ Goes ys b xs a
  overlap [] ys a b all each same = inl (record { more = ys; list = refl; rest = same; each = each })
  overlap (x ∷ xs) [] a b all each same = inr (record { more = x ∷ xs; list = refl; rest = sym same; each = all })
  overlap (x ∷ xs) (y ∷ ys) a b all each same =
      let parts = one_text x y (flat_map text xs ++ a) (flat_map text ys ++ b) (All-head Valid x xs all) (All-head Valid y ys each)
      (sym (append_assoc (text x) (flat_map text xs) a) ∙ same ∙ append_assoc (text y) (flat_map text ys) b) in
      elim (overlap xs ys a b (All-tail Valid x xs all) (All-tail Valid y ys each) parts.1) [
        | inl goes ↦ inl (goes_on x y xs ys a b parts.0 goes)
        | inr goes ↦ inr (goes_on y x ys xs b a (sym parts.0) goes)
      ]

  -- where nothing is left, there is no further element
  none_left : (more : List T) (b : List ℕ) → All Valid more → [] ≡ flat_map text more ++ b → (more ≡ []) × (b ≡ [])
  none_left [] b each is = (refl, sym is)
  none_left (x ∷ more) b each is =
      absurd (omega (arith, line_long (text x) (lines x (All-head Valid x more each)), ap length is, length-append (text x ++ flat_map text more) b, length-append (text x) (flat_map text more)))

  -- a text is that of one list
  pub one_list : (xs ys : List T) → All Valid xs → All Valid ys → flat_map text xs ≡ flat_map text ys → xs ≡ ys
  one_list xs ys all each same =
      elim (overlap xs ys [] [] all each (append-nil (flat_map text xs) ∙ same ∙ sym (append-nil (flat_map text ys)))) [
        | inl goes ↦ (let none = none_left goes.more [] goes.each goes.rest in sym (goes.list ∙ ap (λ more. xs ++ more) none.0 ∙ append-nil xs))
        | inr goes ↦ (let none = none_left goes.more [] goes.each goes.rest in goes.list ∙ ap (λ more. ys ++ more) none.0 ∙ append-nil ys)
      ]

  no_end : (next : List ℕ) → next ++ 10 ∷ [] ≡ [] → ⊥
  no_end next none = omega (arith, ap length none, length-append next (10 ∷ []))

  -- where no element that may follow is in front of the rest, a list's text does not go on with its next line
  pub none_next : (AreWithin : List T → Type 0) → ((xs : List T) → AreWithin xs → All Valid xs) → ((xs more : List T) → AreWithin (xs ++ more) → AreWithin xs)
      → (good : List T) (rest : List ℕ) → AreWithin good → ((x : T) (after : List ℕ) → rest ≡ text x ++ after → ¬ AreWithin (good ++ x ∷ []))
      → (next after : List ℕ) (ys : List T) → rest ≡ next ++ 10 ∷ after → IsFree 10 next → AreWithin ys → ¬ (flat_map text good ++ next ++ 10 ∷ [] ≡ flat_map text ys)
  none_next AreWithin valid front good rest within bad next after ys parts free sound same =
      elim (overlap good ys (next ++ 10 ∷ []) [] (valid good within) (valid ys sound) (sym (append_assoc (flat_map text good) next (10 ∷ [])) ∙ same ∙ sym (append-nil (flat_map text ys)))) [
        | inl goes ↦ by goes.more goes.list goes.rest goes.each
        | inr goes ↦ no_end next (none_left goes.more (next ++ 10 ∷ []) goes.each goes.rest).1
      ]
    where
      by : (more : List T) → ys ≡ good ++ more → next ++ 10 ∷ [] ≡ flat_map text more ++ [] → All Valid more → ⊥
      by [] list is each = no_end next is
      by (x ∷ more) list is each =
          let line = lines x (All-head Valid x more each) in
          let begins = sym (append_assoc (text x) (flat_map text more) []) in
          let here = first_part 10 next line.front [] (flat_map text more ++ []) free line.free (is ∙ append_assoc (text x) (flat_map text more) [] ∙ line_more (text x) (flat_map text more ++ []) line) in
          let P : List T → Type 0 = λ xs. AreWithin xs in
          bad x after (parts ∙ ap (λ t. t ++ 10 ∷ after) here.0 ∙ sym (line_more (text x) after line))
          (front (good ++ x ∷ []) more (subst P (list ∙ sym (append_assoc good (x ∷ []) more)) sound))

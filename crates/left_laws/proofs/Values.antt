-- The values shown below a bound, the epochs that allow them, and the contents that they make.
use Rattle.std.proofs.Common.{◌≡◌, ◌∙◌, ℕ, zero, suc, ◌<◌, ◌≤◌, inl, inr, Bool, true, false, ◌&&◌, List, [], ◌∷◌, ◌++◌, filter, length, refl, ap, sym, arith}
use Rattle.std.proofs.lemmas.Bool.{cases_Bool, cases_lt, eq-eqb, ne_eqb}
use Rattle.std.proofs.lemmas.List.{get_or_default, same_lists}
use Rattle.std.proofs.lemmas.List.Elements.{filter_agree}
use Rattle.left_laws.proofs.Rests.{mixes_skip}
use Rattle.left_laws.proofs.Sectors.{map_put, map_same, map_skip}
use Rattle.left_laws.specs.Lines.{epochs_below, has_put, is_mix_below, left_line, lefts_below, lines_below}
use Rattle.storage_model.proofs.Applied.{sector_put_other, sector_put_same}
use Rattle.storage_model.proofs.Appends.{contents_now-none, contents_now-put, length-contents_now}
use Rattle.storage_model.specs.Contents.{contents_now, put_on, sector_at}
use Rattle.storage_model.specs.Left.{every_below, mix_at}
use Rattle.storage_model.specs.declared.block.Block.{Block}
use Rattle.storage_model.specs.declared.marks.Put.{Put}
use Rattle.storage_model.specs.declared.marks.Mark.{Mark}
use Rattle.storage_model.specs.declared.trace.Item.TheVariants.{Left}
use Rattle.trace_effects.specs.Cuts.{all_epochs}
use Rattle.trace_effects.specs.Effects.{left_mark}

-- contents of the same size that agree on the sectors without a put
pub record Rests (base : List Block) (pend : List Mark) (after : List Block) : Type 0 where
  pub size : length after ≡ length base
  pub rest : (k : ℕ) → has_put k pend ≡ false → sector_at after k ≡ sector_at base k

-- the values

abbrev mark_of : List Block → ℕ → Mark
mark_of after k = left_mark k (sector_at after k)

pub lefts_put : (pend : List Mark) (after : List Block) (n : ℕ) → has_put n pend ≡ true → lefts_below pend after (suc n) ≡ lefts_below pend after n ++ left_mark n (sector_at after n) ∷ []
lefts_put pend after n put = map_put (mark_of after) pend n put

pub lefts_skip : (pend : List Mark) (after : List Block) (n : ℕ) → has_put n pend ≡ false → lefts_below pend after (suc n) ≡ lefts_below pend after n
lefts_skip pend after n off = map_skip (mark_of after) pend n off

pub lefts_same : (pend : List Mark) (after other : List Block) (n : ℕ) → ((j : ℕ) → j < n → sector_at other j ≡ sector_at after j) → lefts_below pend other n ≡ lefts_below pend after n
lefts_same pend after other n same = map_same (mark_of other) (mark_of after) pend n (λ j below. ap (left_mark j) (same j below))

pub lines_same : (pend : List Mark) (after other : List Block) (n : ℕ) → ((j : ℕ) → j < n → sector_at other j ≡ sector_at after j) → lines_below pend other n ≡ lines_below pend after n
lines_same pend after other n same = map_same (left_line other) (left_line after) pend n (λ j below. ap (Left j) (same j below))

-- the epochs

filter_both : {X : Type 0} (p q : X → Bool) (xs : List X) → filter p (filter q xs) ≡ filter (λ x. p x && q x) xs
filter_both p q [] = refl
filter_both p q (x ∷ xs) =
    elim (cases_Bool (q x)) [
      | inl found ↦ elim (cases_Bool (p x)) [
        | inl both ↦ rw (found, both) (ap (λ ys. x ∷ ys) (filter_both p q xs))
        | inr one ↦ rw (found, one) (filter_both p q xs)
      ]
      | inr lost ↦ elim (cases_Bool (p x)) [
        | inl one ↦ rw (lost, one) (filter_both p q xs)
        | inr none ↦ rw (lost, none) (filter_both p q xs)
      ]
    ]

-- one more value
pub epochs_more : (base : List Block) (pend : List Mark) (after : List Block) (n : ℕ) → filter (λ e. mix_at base pend e n (sector_at after n)) (epochs_below base pend after n) ≡ epochs_below base pend after (suc n)
epochs_more base pend after n = filter_both (λ e. mix_at base pend e n (sector_at after n)) (is_mix_below base pend after n) (all_epochs pend)

pub epochs_skip : (base : List Block) (pend : List Mark) (after : List Block) (n : ℕ) → Rests base pend after → has_put n pend ≡ false → epochs_below base pend after (suc n) ≡ epochs_below base pend after n
epochs_skip base pend after n rests off =
    filter_agree (is_mix_below base pend after (suc n)) (is_mix_below base pend after n) (λ e. mixes_skip base pend after n e off (rests.rest n off)) (all_epochs pend)

every_same : (n : ℕ) (p q : ℕ → Bool) → ((j : ℕ) → j < n → p j ≡ q j) → every_below n p ≡ every_below n q
every_same zero p q same = refl
every_same (suc n) p q same = ap (λ b. b && every_below n p) (same n (omega arith)) ∙ ap (λ b. q n && b) (every_same n p q (λ j below. same j (omega arith)))

pub mixes_same : (base : List Block) (pend : List Mark) (after other : List Block) (n e : ℕ) → ((j : ℕ) → j < n → sector_at other j ≡ sector_at after j) → is_mix_below base pend other n e ≡ is_mix_below base pend after n e
mixes_same base pend after other n e same =
    every_same n (λ k. mix_at base pend e k (sector_at other k)) (λ k. mix_at base pend e k (sector_at after k)) (λ j below. ap (mix_at base pend e j) (same j below))

pub epochs_same : (base : List Block) (pend : List Mark) (after other : List Block) (n : ℕ) → ((j : ℕ) → j < n → sector_at other j ≡ sector_at after j) → epochs_below base pend other n ≡ epochs_below base pend after n
epochs_same base pend after other n same =
    filter_agree (is_mix_below base pend other n) (is_mix_below base pend after n) (λ e. mixes_same base pend after other n e same) (all_epochs pend)

-- the contents that the values make

abbrev put_of : List Block → ℕ → Put
put_of after n = record { sector = n; value = sector_at after n; reliable = false }

made_put : (base : List Block) (pend : List Mark) (after : List Block) (n j : ℕ) → has_put n pend ≡ true
    → sector_at (contents_now base (lefts_below pend after (suc n))) j ≡ sector_at (put_on (contents_now base (lefts_below pend after n)) (put_of after n)) j
made_put base pend after n j put =
    ap (λ marks. sector_at (contents_now base marks) j) (lefts_put pend after n put) ∙ ap (λ c. sector_at c j) (contents_now-put base (lefts_below pend after n) (put_of after n))

made_skip : (base : List Block) (pend : List Mark) (after : List Block) (n j : ℕ) → has_put n pend ≡ false
    → sector_at (contents_now base (lefts_below pend after (suc n))) j ≡ sector_at (contents_now base (lefts_below pend after n)) j
made_skip base pend after n j off = ap (λ marks. sector_at (contents_now base marks) j) (lefts_skip pend after n off)

made_above : (base : List Block) (pend : List Mark) (after : List Block) (n j : ℕ) → n ≤ j → sector_at (contents_now base (lefts_below pend after n)) j ≡ sector_at base j
made_above base pend after zero j above = ap (λ c. sector_at c j) (contents_now-none base)
made_above base pend after (suc n) j above =
    let before = made_above base pend after n j (omega arith) in
    elim (cases_Bool (has_put n pend)) [
      | inl put ↦ made_put base pend after n j put ∙ (sector_put_other (contents_now base (lefts_below pend after n)) (put_of after n) j (ne_eqb n j (omega arith)) ∙ before)
      | inr off ↦ made_skip base pend after n j off ∙ before
    ]

made_below : (base : List Block) (pend : List Mark) (after : List Block) (n j : ℕ) → Rests base pend after → n ≤ length base → j < n → sector_at (contents_now base (lefts_below pend after n)) j ≡ sector_at after j
made_below base pend after zero j rests inside below = absurd (omega arith)
made_below base pend after (suc n) j rests inside below =
    let long = length-contents_now base (lefts_below pend after n) in
    elim (cases_Bool (has_put n pend)) [
      | inl put ↦ made_put base pend after n j put ∙ elim (cases_lt j n) [
        | inl before ↦ sector_put_other (contents_now base (lefts_below pend after n)) (put_of after n) j (ne_eqb n j (omega arith)) ∙ made_below base pend after n j rests (omega arith) before
        | inr last ↦
            let is : n ≡ j = omega arith in
            sector_put_same (contents_now base (lefts_below pend after n)) (put_of after n) j (omega arith) (eq-eqb n j is) ∙ ap (sector_at after) is
      ]
      | inr off ↦ made_skip base pend after n j off ∙ elim (cases_lt j n) [
        | inl before ↦ made_below base pend after n j rests (omega arith) before
        | inr last ↦
            let is : j ≡ n = omega arith in
            made_above base pend after n j (omega arith) ∙ (ap (sector_at base) is ∙ (sym (rests.rest n off) ∙ sym (ap (sector_at after) is)))
      ]
    ]

pub sectors_same : (xs ys : List Block) → length xs ≡ length ys → ((j : ℕ) → j < length xs → sector_at xs j ≡ sector_at ys j) → xs ≡ ys
sectors_same xs ys size same = same_lists xs ys size (λ k d below.
    get_or_default xs k d (record { 0 = [] }) below ∙ (same k below ∙ get_or_default ys k (record { 0 = [] }) d (omega arith)))

-- behind the last sector with a put they are all that is left
pub made : (base : List Block) (pend : List Mark) (after : List Block) (n : ℕ) → Rests base pend after → n ≤ length base → ((j : ℕ) → n ≤ j → has_put j pend ≡ false) → contents_now base (lefts_below pend after n) ≡ after
made base pend after n rests inside none =
    let c = contents_now base (lefts_below pend after n) in
    let long = length-contents_now base (lefts_below pend after n) in
    sectors_same c after (long ∙ sym rests.size) (λ j below. elim (cases_lt j n) [
      | inl shown ↦ made_below base pend after n j rests inside shown
      | inr past ↦ made_above base pend after n j past ∙ sym (rests.rest j (none j past))
    ])

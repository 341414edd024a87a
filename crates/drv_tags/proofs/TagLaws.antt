-- What taking and giving a tag do to each tag, and the first of some numbers that passes a test.
use Rattle.std.proofs.Common.{◌≡◌, ◌≢◌, ℕ, zero, suc, ◌+◌, ◌-◌, ◌^◌, ◌<◌, Bool, true, false, refl, sym, ap, ◌∙◌, subst, arith}
use Rattle.std.specs.Prelude.{◌==◌, cond, not, nat_lt, Option, Some, None, IfSome, IfNone}
use Rattle.std.specs.Int.{bit_at, w32}
use Rattle.std.specs.Int.RustNames.{bit_and, bit_or}
use Rattle.std.specs.List.{find, range_with_len}
use Rattle.std.proofs.lemmas.Bool.{eqb-true, eqb-false, ltb-true, ltb-false, false≢true}
use Rattle.std.proofs.lemmas.Nat.{one_shl}
use Rattle.std.proofs.lemmas.Nat.Bits.{bit_at_and, bit_at_or, bit_at-lt, bit_at-pow_same, bit_at-pow_other, bit_at_clear_same, bit_at_clear_other}
use Rattle.drv_tags.specs.Tags.{TagSet, IsTagSet, AreUsedBelow, ChangesTag, is_used, lowest_free, with_tag, without_tag}

-- the first of n numbers from a on that passes
pub find-range_with_len : (p : ℕ → Bool) (a n i : ℕ) → i < n → ((k : ℕ) → k < i → p (a + k) ≡ false) → p (a + i) ≡ true
    → find p (range_with_len a n) ≡ Some (a + i)
find-range_with_len p a zero i low below here = absurd (omega (arith, low))
find-range_with_len p a (suc n) zero low below here =
    let same : a + 0 ≡ a = omega arith in
    let first : p a ≡ true = ap p (sym same) ∙ here in
    rw first (ap Some (sym same))
find-range_with_len p a (suc n) (suc i) low below here =
    let same : a + 0 ≡ a = omega arith in
    let first : p a ≡ false = ap p (sym same) ∙ below 0 (omega arith) in
    let moved : (k : ℕ) → a + 1 + k ≡ a + suc k = λ k. omega arith in
    rw first
    (find-range_with_len p (a + 1) n i (omega (arith, low))
    (λ k l. ap p (moved k) ∙ below (suc k) (omega (arith, l)))
    (ap p (moved i) ∙ here)
    ∙ ap Some (moved i))

set_bit : (b : Bool) (word tag other : ℕ) → (other == tag) ≡ b
    → (bit_at (bit_or word (2 ^ tag)) other == 1) ≡ cond b true (bit_at word other == 1)
set_bit true word tag other h =
    let bit : bit_at (2 ^ tag) other ≡ 1 = subst (λ n. bit_at (2 ^ tag) n ≡ 1) (sym (eqb-true other tag h)) (bit_at-pow_same tag) in
    let both = bit_at_or word (2 ^ tag) other in
    let low = bit_at-lt word other in
    let whole : bit_at (bit_or word (2 ^ tag)) other ≡ 1 = omega (arith, both, low, bit) in
    ap (λ n. n == 1) whole
set_bit false word tag other h =
    let bit = bit_at-pow_other tag other (eqb-false other tag h) in
    let both = bit_at_or word (2 ^ tag) other in
    let whole : bit_at (bit_or word (2 ^ tag)) other ≡ bit_at word other = omega (arith, both, bit) in
    ap (λ n. n == 1) whole

-- a tag taken: its bit is set, and the others stay
pub ChangesTag-with_tag : (tags : TagSet) (tag : ℕ) → ChangesTag tags (with_tag tags tag) tag true
ChangesTag-with_tag tags tag other = set_bit (other == tag) tags.used tag other refl

cleared_same : (word tag : ℕ) → tag < 32 → bit_at (bit_and word (2 ^ 32 - 1 - 2 ^ tag)) tag ≡ 0
cleared_same word tag low =
    subst (λ n. bit_at (bit_and word (2 ^ 32 - 1 - n)) tag ≡ 0) (one_shl tag 32 low) (bit_at_clear_same w32 word tag low)

cleared_other : (word tag other : ℕ) → tag < 32 → other < 32 → other ≢ tag
    → bit_at (bit_and word (2 ^ 32 - 1 - 2 ^ tag)) other ≡ bit_at word other
cleared_other word tag other low inside apart =
    subst (λ n. bit_at (bit_and word (2 ^ 32 - 1 - n)) other ≡ bit_at word other) (one_shl tag 32 low)
    (bit_at_clear_other w32 word tag low other inside apart)

clear_above : (b : Bool) (bit : ℕ) → (bit == 1) ≡ b → bit < 2 → (b ≡ true → ⊥) → bit ≡ 0
clear_above true bit h low none = absurd (none refl)
clear_above false bit h low none = let apart = eqb-false bit 1 h in omega (arith, low, apart)

cleared_above : (word tag other : ℕ) → bit_at word other ≡ 0
    → bit_at (bit_and word (2 ^ 32 - 1 - 2 ^ tag)) other ≡ bit_at word other
cleared_above word tag other clear =
    let both = bit_at_and word (2 ^ 32 - 1 - 2 ^ tag) other in
    omega (arith, both, clear)

cleared_at : (inside : Bool) (tags : TagSet) (tag other : ℕ) → nat_lt other 32 ≡ inside → IsTagSet tags → tag < 32 → other ≢ tag
    → bit_at (bit_and tags.used (2 ^ 32 - 1 - 2 ^ tag)) other ≡ bit_at tags.used other
cleared_at true tags tag other h sound low apart = cleared_other tags.used tag other low (ltb-true other 32 h) apart
cleared_at false tags tag other h sound low apart =
    cleared_above tags.used tag other
    (clear_above (is_used tags other) (bit_at tags.used other) refl (bit_at-lt tags.used other)
    (λ used. let under = sound.below other used in omega (arith, under, sound.depth, ltb-false other 32 h)))

clear_bit : (b : Bool) (tags : TagSet) (tag other : ℕ) → (other == tag) ≡ b → IsTagSet tags → tag < 32
    → (bit_at (bit_and tags.used (2 ^ 32 - 1 - 2 ^ tag)) other == 1) ≡ cond b false (bit_at tags.used other == 1)
clear_bit true tags tag other h sound low =
    ap (λ n. n == 1) (subst (λ n. bit_at (bit_and tags.used (2 ^ 32 - 1 - 2 ^ tag)) n ≡ 0) (sym (eqb-true other tag h)) (cleared_same tags.used tag low))
clear_bit false tags tag other h sound low =
    ap (λ n. n == 1) (cleared_at (nat_lt other 32) tags tag other refl sound low (eqb-false other tag h))

used-below : (tags : TagSet) (tag : ℕ) → IsTagSet tags → is_used tags tag ≡ true → tag < 32
used-below tags tag sound used = let low = sound.below tag used in let depth = sound.depth in omega (arith, low, depth)

-- a tag given back: its bit is clear, and the others stay
pub ChangesTag-without_tag : (tags : TagSet) (tag : ℕ) → IsTagSet tags → is_used tags tag ≡ true → ChangesTag tags (without_tag tags tag) tag false
ChangesTag-without_tag tags tag sound used other = clear_bit (other == tag) tags tag other refl sound (used-below tags tag sound used)

taken_below : (b : Bool) (tags : TagSet) (tag other : ℕ) → (other == tag) ≡ b → IsTagSet tags → tag < tags.depth
    → cond b true (is_used tags other) ≡ true → other < tags.depth
taken_below true tags tag other h sound low used = subst (λ n. n < tags.depth) (sym (eqb-true other tag h)) low
taken_below false tags tag other h sound low used = sound.below other used

-- a tag that there is may be taken
pub IsTagSet-with_tag : (tags : TagSet) (tag : ℕ) → IsTagSet tags → tag < tags.depth → IsTagSet (with_tag tags tag)
IsTagSet-with_tag tags tag sound low = record {
  depth = sound.depth;
  below = λ other used. taken_below (other == tag) tags tag other refl sound low (sym (ChangesTag-with_tag tags tag other) ∙ used);
}

given_used : (b : Bool) (used : Bool) → cond b false used ≡ true → used ≡ true
given_used true used h = absurd (false≢true h)
given_used false used h = h

-- a tag may be given back
pub IsTagSet-without_tag : (tags : TagSet) (tag : ℕ) → IsTagSet tags → is_used tags tag ≡ true → IsTagSet (without_tag tags tag)
IsTagSet-without_tag tags tag sound used = record {
  depth = sound.depth;
  below = λ other left.
      sound.below other
      (given_used (other == tag) (is_used tags other) (sym (ChangesTag-without_tag tags tag sound used other) ∙ left));
}

-- a tag that is free, with none free below it, is the lowest free one
pub lowest_free-first : (tags : TagSet) (tag : ℕ) → tag < tags.depth → is_used tags tag ≡ false → AreUsedBelow tags tag
    → lowest_free tags ≡ Some tag
lowest_free-first tags tag low free below =
    let at : (k : ℕ) → 0 + k ≡ k = λ k. omega arith in
    find-range_with_len (λ tag. not (is_used tags tag)) 0 tags.depth tag low
    (λ k l. ap (λ n. not (is_used tags n)) (at k) ∙ ap not (below k l))
    (ap (λ n. not (is_used tags n)) (at tag) ∙ ap not free)
    ∙ ap Some (at tag)

find-none : (p : ℕ → Bool) (a n : ℕ) → ((k : ℕ) → k < n → p (a + k) ≡ false) → find p (range_with_len a n) ≡ None
find-none p a zero none = refl
find-none p a (suc n) none =
    let same : a + 0 ≡ a = omega arith in
    let moved : (k : ℕ) → a + 1 + k ≡ a + suc k = λ k. omega arith in
    let first : p a ≡ false = ap p (sym same) ∙ none 0 (omega arith) in
    rw first (find-none p (a + 1) n (λ k l. ap p (moved k) ∙ none (suc k) (omega (arith, l))))

-- where all are used, none is free
pub lowest_free-none : (tags : TagSet) → AreUsedBelow tags tags.depth → lowest_free tags ≡ None
lowest_free-none tags all =
    let at : (k : ℕ) → 0 + k ≡ k = λ k. omega arith in
    find-none (λ tag. not (is_used tags tag)) 0 tags.depth (λ k l. ap (λ n. not (is_used tags n)) (at k) ∙ ap not (all k l))

-- what the search of the tags answers is the lowest free one
pub lowest_free-is : (tags : TagSet) (found : Option ℕ) → IfSome found (λ tag. tag < tags.depth) → IfSome found (λ tag. is_used tags tag ≡ false)
    → IfSome found (λ tag. AreUsedBelow tags tag) → IfNone found (AreUsedBelow tags tags.depth) → found ≡ lowest_free tags
lowest_free-is tags (Some tag) low free below all = sym (lowest_free-first tags tag low free below)
lowest_free-is tags None low free below all = sym (lowest_free-none tags all)

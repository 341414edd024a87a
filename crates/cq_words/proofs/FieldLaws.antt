-- The laws of fields: what is put into a field is read from it, and every other field stays.
use Rattle.std.proofs.Common.{◌≡◌, ℕ, ◌+◌, ◌-◌, ◌*◌, ◌/◌, ◌%◌, ◌^◌, ◌≤◌, ◌<◌, sym, ap, ◌∙◌, arith}
use Rattle.std.proofs.Math.Nat.{lt-div-mul-add, mul-le-mul_right, zero-div, mod-eq_of_lt}
use Rattle.std.proofs.Math.Pow.{mod-mod-pow}
use Rattle.std.proofs.lemmas.Nat.{pow_pos, pow-add, mod_below, mod_low, shr_high, shr-shr, shr_below, shr_split, field_of as field-shift}
use Rattle.cq_words.specs.Fields.{field_of, with_field}

-- a field holds a number of its width
pub field_of-lt : (word low width : ℕ) → field_of word low width < 2 ^ width
unfolding field_of
field_of-lt word low width = mod_below (word / 2 ^ low) (2 ^ width) (pow_pos width)

regroup : (h a b v r : ℕ) → h * (a * b) + v * a + r ≡ (h * b + v) * a + r
regroup h a b v r = omega arith

-- the word in two parts, at the field's lowest bit
pub with_field-split : (word low width value : ℕ)
    → with_field word low width value ≡ (word / 2 ^ (low + width) * 2 ^ width + value) * 2 ^ low + word % 2 ^ low
unfolding with_field
with_field-split word low width value =
    let h = word / 2 ^ (low + width) in
    ap (λ p. h * p + value * 2 ^ low + word % 2 ^ low) (pow-add 2 low width)
    ∙ regroup h (2 ^ low) (2 ^ width) value (word % 2 ^ low)

with_field-below : (word low width value : ℕ) → with_field word low width value % 2 ^ low ≡ word % 2 ^ low
with_field-below word low width value =
    ap (λ x. x % 2 ^ low) (with_field-split word low width value)
    ∙ mod_low (word / 2 ^ (low + width) * 2 ^ width + value) low (word % 2 ^ low) (mod_below word (2 ^ low) (pow_pos low))

with_field-shifted : (word low width value : ℕ)
    → with_field word low width value / 2 ^ low ≡ word / 2 ^ (low + width) * 2 ^ width + value
with_field-shifted word low width value =
    ap (λ x. x / 2 ^ low) (with_field-split word low width value)
    ∙ shr_high (word / 2 ^ (low + width) * 2 ^ width + value) low (word % 2 ^ low) (mod_below word (2 ^ low) (pow_pos low))

with_field-above : (word low width value : ℕ) → value < 2 ^ width
    → with_field word low width value / 2 ^ (low + width) ≡ word / 2 ^ (low + width)
with_field-above word low width value h =
    sym (shr-shr (with_field word low width value) low width)
    ∙ ap (λ x. x / 2 ^ width) (with_field-shifted word low width value)
    ∙ shr_high (word / 2 ^ (low + width)) width value h

-- what is put into a field is read from it
pub field_of-with_field : (word low width value : ℕ) → value < 2 ^ width
    → field_of (with_field word low width value) low width ≡ value
unfolding field_of
field_of-with_field word low width value h =
    ap (λ x. x % 2 ^ width) (with_field-shifted word low width value)
    ∙ mod_low (word / 2 ^ (low + width)) width value h

field_of-cut : (word low width d : ℕ) → field_of (word % 2 ^ (low + width + d)) low width ≡ field_of word low width
unfolding field_of
field_of-cut word low width d =
    sym (field-shift (word % 2 ^ (low + width + d)) width low)
    ∙ ap (λ x. x / 2 ^ low)
    (ap (λ k. word % 2 ^ k % 2 ^ (width + low)) (omega arith) ∙ mod-mod-pow word d (width + low))
    ∙ field-shift word width low

-- a field that ends at or below another's lowest bit stays where that is written
pub field_of-with_field_above : (word low width value low' width' : ℕ) → low' + width' ≤ low
    → field_of (with_field word low width value) low' width' ≡ field_of word low' width'
field_of-with_field_above word low width value low' width' h =
    let d = low - (low' + width') in
    let e : low' + width' + d ≡ low = omega arith in
    sym (field_of-cut (with_field word low width value) low' width' d)
    ∙ ap (λ k. field_of (with_field word low width value % 2 ^ k) low' width') e
    ∙ ap (λ x. field_of x low' width') (with_field-below word low width value)
    ∙ ap (λ k. field_of (word % 2 ^ k) low' width') (sym e)
    ∙ field_of-cut word low' width' d

-- a field above another stays where that is written
pub field_of-with_field_below : (word low width value low' width' : ℕ) → value < 2 ^ width → low + width ≤ low'
    → field_of (with_field word low width value) low' width' ≡ field_of word low' width'
unfolding field_of
field_of-with_field_below word low width value low' width' v h =
    let d = low' - (low + width) in
    let e : low + width + d ≡ low' = omega arith in
    ap (λ k. with_field word low width value / 2 ^ k % 2 ^ width') (sym e)
    ∙ ap (λ x. x % 2 ^ width') (sym (shr-shr (with_field word low width value) (low + width) d))
    ∙ ap (λ x. x / 2 ^ d % 2 ^ width') (with_field-above word low width value v)
    ∙ ap (λ x. x % 2 ^ width') (shr-shr word (low + width) d)
    ∙ ap (λ k. word / 2 ^ k % 2 ^ width') e

below_product : (n q b p t : ℕ) → n < q * b + b → (q + 1) * b ≤ p → t ≡ p → n < t
below_product n q b p t near most e = omega arith

-- a word of so many bits stays one
pub with_field-lt : (word low width value bits : ℕ) → value < 2 ^ width → low + width ≤ bits → word < 2 ^ bits
    → with_field word low width value < 2 ^ bits
with_field-lt word low width value bits v h w =
    let new = with_field word low width value in
    let k = low + width in
    let j = bits - k in
    let e : 2 ^ bits ≡ 2 ^ j * 2 ^ k = let s : bits ≡ j + k = omega arith in ap (λ n. 2 ^ n) s ∙ pow-add 2 j k in
    let fits : word < 2 ^ (j + k) = let s : 2 ^ (j + k) ≡ 2 ^ j * 2 ^ k = pow-add 2 j k in omega arith in
    let high : word / 2 ^ k < 2 ^ j = shr_below word j k fits in
    let same : new / 2 ^ k ≡ word / 2 ^ k = with_field-above word low width value v in
    let near : new < new / 2 ^ k * 2 ^ k + 2 ^ k = lt-div-mul-add (pow_pos k) in
    let up : new / 2 ^ k + 1 ≤ 2 ^ j = omega arith in
    let most : (new / 2 ^ k + 1) * 2 ^ k ≤ 2 ^ j * 2 ^ k = mul-le-mul_right (2 ^ k) up in
    below_product new (new / 2 ^ k) (2 ^ k) (2 ^ j * 2 ^ k) (2 ^ bits) near most e

-- all fields of zero are zero
pub field_of-zero : (low width : ℕ) → field_of 0 low width ≡ 0
unfolding field_of
field_of-zero low width =
    ap (λ x. x % 2 ^ width) (zero-div (2 ^ low)) ∙ mod-eq_of_lt (pow_pos width)

filled : (w q h f v a b r : ℕ) → q * a + r ≡ w → h * b + f ≡ q → f ≡ 0 → (h * b + v) * a + r ≡ w + v * a
filled w q h f v a b r whole high none = omega (arith, ap (λ t. t * a) high, ap (λ t. t * a) none)

-- in an empty field the value is added
pub with_field-empty : (word low width value : ℕ) → field_of word low width ≡ 0
    → with_field word low width value ≡ word + value * 2 ^ low
unfolding field_of
with_field-empty word low width value none =
    let high : word / 2 ^ low / 2 ^ width ≡ word / 2 ^ (low + width) = shr-shr word low width in
    let parts : word / 2 ^ (low + width) * 2 ^ width + word / 2 ^ low % 2 ^ width ≡ word / 2 ^ low =
    ap (λ x. x * 2 ^ width + word / 2 ^ low % 2 ^ width) (sym high) ∙ shr_split (word / 2 ^ low) width in
    with_field-split word low width value
    ∙ filled word (word / 2 ^ low) (word / 2 ^ (low + width)) (word / 2 ^ low % 2 ^ width) value (2 ^ low) (2 ^ width) (word % 2 ^ low)
    (shr_split word low) parts none

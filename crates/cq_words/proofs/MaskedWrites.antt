-- The masks and shifts by which a field is read and written, in numbers.
use Rattle.std.proofs.Common.{◌≡◌, ℕ, ◌+◌, ◌-◌, ◌*◌, ◌/◌, ◌%◌, ◌^◌, ◌≤◌, ◌<◌, sym, ap, ◌∙◌, arith}
use Rattle.std.specs.Prelude.{bit_and, bit_or}
use Rattle.std.proofs.Math.Nat.{pow-le-pow_right}
use Rattle.std.specs.Int.Bits.{and_zero_l, or_zero_r}
use Rattle.std.proofs.lemmas.Nat.{pow_pos, pow-add, one_shl, shl_whole, shr_split, mod_below, and_comm, and_mask, and-not, and_block, or_block, or_shifted, shr-shr}
use Rattle.cq_words.specs.Fields.{field_of, with_field}
use Rattle.cq_words.proofs.FieldLaws.{with_field-split}

-- the bits of a mask are a field, where it stands
mask_of_field : (word low width : ℕ) → bit_and ((2 ^ width - 1) * 2 ^ low) word ≡ word / 2 ^ low % 2 ^ width * 2 ^ low
mask_of_field word low width =
    ap (λ m. bit_and m word) (omega arith)
    ∙ ap (bit_and ((2 ^ width - 1) * 2 ^ low + 0)) (sym (shr_split word low))
    ∙ and_block low (2 ^ width - 1) (word / 2 ^ low) 0 (word % 2 ^ low) (pow_pos low) (mod_below word (2 ^ low) (pow_pos low))
    ∙ ap (λ x. bit_and (2 ^ width - 1) (word / 2 ^ low) * 2 ^ low + x) (and_zero_l (word % 2 ^ low))
    ∙ ap (λ x. x * 2 ^ low + 0) (and_comm (2 ^ width - 1) (word / 2 ^ low) ∙ and_mask (word / 2 ^ low) width)
    ∙ omega arith

mask_fits : (low width : ℕ) → low + width ≤ 64 → (2 ^ width - 1) * 2 ^ low < 2 ^ 64
mask_fits low width h =
    let whole : 2 ^ (width + low) ≡ 2 ^ width * 2 ^ low = pow-add 2 width low in
    let some : 0 < 2 ^ width = pow_pos width in
    let more : 0 < 2 ^ low = pow_pos low in
    let top : 2 ^ (width + low) ≤ 2 ^ 64 = let base : 0 < 2 = omega arith in let most : width + low ≤ 64 = omega arith in pow-le-pow_right base most in
    let one_less : (2 ^ width - 1 + 1) * 2 ^ low ≡ 2 ^ width * 2 ^ low = ap (λ m. m * 2 ^ low) (omega arith) in
    omega arith

cleared_parts : (c f w x h b a r : ℕ) → c + f * a ≡ w → x * a + r ≡ w → h * b + f ≡ x → c ≡ h * b * a + r
cleared_parts c f w x h b a r cw xw hx = omega (arith, ap (λ t. t * a) hx)

cleared_split : (word low width : ℕ) → word < 2 ^ 64 → low + width ≤ 64
    → bit_and word (2 ^ 64 - 1 - (2 ^ width - 1) * 2 ^ low) ≡ word / 2 ^ (low + width) * 2 ^ width * 2 ^ low + word % 2 ^ low
cleared_split word low width lt h =
    let mask = (2 ^ width - 1) * 2 ^ low in
    let fits : mask < 2 ^ 64 = mask_fits low width h in
    let all : bit_and (2 ^ 64 - 1 - mask) word + bit_and mask word ≡ word = and-not 64 mask word fits lt in
    let field : bit_and mask word ≡ word / 2 ^ low % 2 ^ width * 2 ^ low = mask_of_field word low width in
    let turned : bit_and word (2 ^ 64 - 1 - mask) ≡ bit_and (2 ^ 64 - 1 - mask) word = and_comm word _ in
    let high : word / 2 ^ low / 2 ^ width ≡ word / 2 ^ (low + width) = shr-shr word low width in
    let parts : word / 2 ^ (low + width) * 2 ^ width + word / 2 ^ low % 2 ^ width ≡ word / 2 ^ low =
    ap (λ x. x * 2 ^ width + word / 2 ^ low % 2 ^ width) (sym high) ∙ shr_split (word / 2 ^ low) width in
    cleared_parts (bit_and word (2 ^ 64 - 1 - mask)) (word / 2 ^ low % 2 ^ width) word (word / 2 ^ low)
    (word / 2 ^ (low + width)) (2 ^ width) (2 ^ low) (word % 2 ^ low)
    (omega arith) (shr_split word low) parts

-- a value cut to so many bits, as it is computed
pub masked_value : (value width : ℕ) → width ≤ 32 → bit_and value (1 * 2 ^ width % 2 ^ 64 - 1) ≡ value % 2 ^ width
masked_value value width h = ap (λ m. bit_and value (m - 1)) (one_shl width 64 (omega arith)) ∙ and_mask value width

-- `bits`, as it is computed
pub masked : (word low width : ℕ) → width ≤ 32
    → bit_and (word / 2 ^ low) (1 * 2 ^ width % 2 ^ 64 - 1) ≡ field_of word low width
unfolding field_of
masked word low width h =
    ap (λ m. bit_and (word / 2 ^ low) (m - 1)) (one_shl width 64 (omega arith)) ∙ and_mask (word / 2 ^ low) width

-- `with_bits`, as it is computed
pub masked_in : (word low width value : ℕ) → word < 2 ^ 64 → width ≤ 32 → low + width ≤ 64 → value < 2 ^ width
    → bit_or (bit_and word (2 ^ 64 - 1 - (1 * 2 ^ width % 2 ^ 64 - 1) * 2 ^ low % 2 ^ 64)) (value * 2 ^ low % 2 ^ 64)
    ≡ with_field word low width value
masked_in word low width value lt narrow within fits =
    let h = word / 2 ^ (low + width) in
    let mask : (1 * 2 ^ width % 2 ^ 64 - 1) * 2 ^ low % 2 ^ 64 ≡ (2 ^ width - 1) * 2 ^ low =
    ap (λ m. (m - 1) * 2 ^ low % 2 ^ 64) (one_shl width 64 (omega arith))
    ∙ shl_whole (2 ^ width - 1) width low 64 (omega (arith, pow_pos width)) (omega arith) in
    let put : value * 2 ^ low % 2 ^ 64 ≡ value * 2 ^ low + 0 = shl_whole value width low 64 fits (omega arith) ∙ omega arith in
    ap (λ m. bit_or (bit_and word (2 ^ 64 - 1 - m)) (value * 2 ^ low % 2 ^ 64)) mask
    ∙ ap (λ c. bit_or c (value * 2 ^ low % 2 ^ 64)) (cleared_split word low width lt within)
    ∙ ap (bit_or (h * 2 ^ width * 2 ^ low + word % 2 ^ low)) put
    ∙ or_block low (h * 2 ^ width) value (word % 2 ^ low) 0 (mod_below word (2 ^ low) (pow_pos low)) (pow_pos low)
    ∙ ap (λ x. bit_or (h * 2 ^ width) value * 2 ^ low + x) (or_zero_r (word % 2 ^ low))
    ∙ ap (λ x. x * 2 ^ low + word % 2 ^ low) (or_shifted h width value fits)
    ∙ sym (with_field-split word low width value)

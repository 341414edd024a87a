-- Flags, as numbers in fields of one bit.
use Rattle.std.proofs.Common.{◌≡◌, ℕ, ◌^◌, ◌<◌, ◌⊎◌, inl, inr, Bool, true, false, refl, ap, ◌∙◌, arith}
use Rattle.std.specs.Prelude.{◌==◌}
use Rattle.cq_words.specs.declared.table.BitField.{BitField}
use Rattle.cq_words.specs.Table.{number_in, is_set}
use Rattle.cq_words.proofs.FieldLaws.{field_of-lt}
use Rattle.cq_desc.specs.Descriptor.{bit}

bit-set : (flag : Bool) → (bit flag == 1) ≡ flag
bit-set true = refl
bit-set false = refl

-- what a flag's field says
pub is_set-bit : (word : ℕ) (field : BitField) (flag : Bool) → number_in word field ≡ bit flag → is_set word field ≡ flag
is_set-bit word field flag h = ap (λ n. n == 1) h ∙ bit-set flag

below_two : (n : ℕ) → n < 2 → (n ≡ 0) ⊎ (n ≡ 1)
below_two n h = grind arith

bit-test : (n : ℕ) → n < 2 → n ≡ bit (n == 1)
bit-test n h = elim (below_two n h) [ inl zero ↦ rw zero | inr one ↦ rw one ]

-- a field of one bit is a flag
pub bit-is_set : (word : ℕ) (field : BitField) → field.width ≡ 1 → number_in word field ≡ bit (is_set word field)
bit-is_set word field one =
    let lt : number_in word field < 2 ^ field.width = field_of-lt word field.low field.width in
    let e : 2 ^ field.width ≡ 2 = ap (λ k. 2 ^ k) one in
    bit-test (number_in word field) (omega arith)

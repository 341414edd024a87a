-- A transfer descriptor's words and their tables.
use Rattle.std.proofs.Common.{◌≡◌, ◌≢◌, ℕ, ◌/◌, ◌%◌, ◌^◌, ◌<◌, ◌≤◌, inl, inr, Bool, true, false, cond, refl, ap, ◌∙◌, Ok, Err, arith}
use Rattle.std.specs.Prelude.{◌==◌}
use Rattle.std.proofs.Math.Nat.{mod-eq_of_lt}
use Rattle.std.proofs.lemmas.Bool.{ne_eqb}
use Rattle.std.proofs.lemmas.Bool.Decides.{eqb_tells}
use Rattle.cq_words.specs.Table.{number_in, is_set, Holds}
use Rattle.cq_words.proofs.FieldLaws.{field_of-lt}
use Rattle.cq_desc.specs.Fields.{VALID, END, INT, ACT, ACT_NOP, ACT_TRANSFER, ACT_LINK, DATA_LENGTH, DATA_ADDRESS, DATA_ADDRESS_HIGH, LONGEST_PIECE}
use Rattle.cq_desc.specs.declared.fault.DescFault.TheVariants.{NotValid, BadAct}
use Rattle.cq_desc.specs.declared.xfer.Xfer.{Xfer}
use Rattle.cq_desc.specs.declared.xfer.Xfer.TheVariants.{Piece, Link, Nop}
use Rattle.cq_desc.specs.Descriptor.{bit}
use Rattle.cq_desc.specs.Transfer.{xfer_table, high_table, IsAddress, IsXferInRange, address_of, length_of, xfer_read}
use Rattle.cq_desc.proofs.FlagLaws.{is_set-bit, bit-is_set}

-- ---- how words read, by their act

pub not_valid-reads : (low high : ℕ) (wide : Bool) → is_set low VALID ≡ false → xfer_read low high wide ≡ Err NotValid
unfolding xfer_read
not_valid-reads low high wide h = rw h

pub piece-reads : (low high : ℕ) (wide : Bool) → is_set low VALID ≡ true → number_in low ACT ≡ ACT_TRANSFER
    → xfer_read low high wide ≡ Ok (Piece (is_set low END) (is_set low INT) (length_of low) (address_of low high wide))
unfolding xfer_read
piece-reads low high wide h act = rw (h, act)

pub link-reads : (low high : ℕ) (wide : Bool) → is_set low VALID ≡ true → number_in low ACT ≡ ACT_LINK
    → xfer_read low high wide ≡ Ok (Link (address_of low high wide))
unfolding xfer_read
link-reads low high wide h act = rw (h, act)

pub nop-reads : (low high : ℕ) (wide : Bool) → is_set low VALID ≡ true → number_in low ACT ≡ ACT_NOP
    → xfer_read low high wide ≡ Ok (Nop (is_set low END))
unfolding xfer_read
nop-reads low high wide h act = rw (h, act)

pub bad_act-reads : (low high : ℕ) (wide : Bool) → is_set low VALID ≡ true → number_in low ACT ≢ ACT_TRANSFER → number_in low ACT ≢ ACT_LINK
    → number_in low ACT ≢ ACT_NOP → xfer_read low high wide ≡ Err BadAct
unfolding xfer_read
bad_act-reads low high wide h transfer link nop =
    rw (h, ne_eqb (number_in low ACT) ACT_TRANSFER transfer, ne_eqb (number_in low ACT) ACT_LINK link, ne_eqb (number_in low ACT) ACT_NOP nop)

-- ---- lengths and addresses, both ways

length_cut : (n : ℕ) → n < 65536 → n ≡ cond (n == 0) 65536 n % 65536
length_cut n lt = elim (eqb_tells n 0) [ inl none ↦ rw (none.0, none.1) | inr some ↦ rw (some.0, mod-eq_of_lt lt) ]

pub length-held : (low : ℕ) → number_in low DATA_LENGTH ≡ length_of low % LONGEST_PIECE
length-held low = length_cut (number_in low DATA_LENGTH) (field_of-lt low 16 16)

length_whole : (n len : ℕ) → n ≡ len % 65536 → 1 ≤ len → len ≤ 65536 → cond (n == 0) 65536 n ≡ len
length_whole n len e some most = elim (eqb_tells n 0) [ inl none ↦ rw none.0 (omega arith) | inr much ↦ rw much.0 (omega arith) ]

pub length-read : (low len : ℕ) → number_in low DATA_LENGTH ≡ len % LONGEST_PIECE → 1 ≤ len → len ≤ LONGEST_PIECE → length_of low ≡ len
length-read low len e some most = length_whole (number_in low DATA_LENGTH) len e some most

pub address-held : (low high : ℕ) (wide : Bool) → number_in low DATA_ADDRESS ≡ address_of low high wide % 2 ^ 32
address-held low high true =
    let lt : number_in low DATA_ADDRESS < 2 ^ 32 = field_of-lt low 32 32 in omega arith
address-held low high false =
    let lt : number_in low DATA_ADDRESS < 2 ^ 32 = field_of-lt low 32 32 in omega arith

pub high-held : (low high : ℕ) (wide : Bool) → wide ≡ true → number_in high DATA_ADDRESS_HIGH ≡ address_of low high wide / 2 ^ 32
high-held low high true h =
    let lt : number_in low DATA_ADDRESS < 2 ^ 32 = field_of-lt low 32 32 in omega arith
high-held low high false h = cc

pub address-read : (low high address : ℕ) (wide : Bool) → number_in low DATA_ADDRESS ≡ address % 2 ^ 32
    → (wide ≡ true → number_in high DATA_ADDRESS_HIGH ≡ address / 2 ^ 32) → IsAddress wide address → address_of low high wide ≡ address
address-read low high address true l h small = let high_half = h refl in omega arith
address-read low high address false l h small = let lt = small refl in omega arith

-- ---- the tables

pub piece-holds : (low high : ℕ) (wide : Bool) → is_set low VALID ≡ true → number_in low ACT ≡ ACT_TRANSFER
    → Holds low (xfer_table (Piece (is_set low END) (is_set low INT) (length_of low) (address_of low high wide)))
piece-holds low high wide valid act =
    (bit-is_set low VALID refl ∙ ap bit valid, (act, (bit-is_set low END refl, (bit-is_set low INT refl, (length-held low, (address-held low high wide, tt))))))

pub link-holds : (low high : ℕ) (wide : Bool) → is_set low VALID ≡ true → number_in low ACT ≡ ACT_LINK
    → Holds low (xfer_table (Link (address_of low high wide)))
link-holds low high wide valid act = (bit-is_set low VALID refl ∙ ap bit valid, (act, (address-held low high wide, tt)))

pub nop-holds : (low : ℕ) → is_set low VALID ≡ true → number_in low ACT ≡ ACT_NOP → Holds low (xfer_table (Nop (is_set low END)))
nop-holds low valid act = (bit-is_set low VALID refl ∙ ap bit valid, (act, (bit-is_set low END refl, tt)))

-- words read as the descriptor whose tables they hold
pub xfer_read-holds : (low high : ℕ) (wide : Bool) (xfer : Xfer) → IsXferInRange wide xfer → Holds low (xfer_table xfer)
    → (wide ≡ true → Holds high (high_table xfer)) → xfer_read low high wide ≡ Ok xfer
xfer_read-holds low high wide (Piece end int len address) range (valid, (act, (e, (i, (l, (a, _)))))) h =
    piece-reads low high wide (ap (λ n. n == 1) valid) act
    ∙ rw (
      is_set-bit low END end e,
      is_set-bit low INT int i,
      length-read low len l range.0 range.1,
      address-read low high address wide a (λ w. (h w).0) range.2,
    )
xfer_read-holds low high wide (Link address) range (valid, (act, (a, _))) h =
    link-reads low high wide (ap (λ n. n == 1) valid) act ∙ ap (λ x. Ok (Link x)) (address-read low high address wide a (λ w. (h w).0) range)
xfer_read-holds low high wide (Nop end) range (valid, (act, (e, _))) h =
    nop-reads low high wide (ap (λ n. n == 1) valid) act ∙ ap (λ x. Ok (Nop x)) (is_set-bit low END end e)

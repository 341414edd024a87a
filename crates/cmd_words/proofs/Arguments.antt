-- An argument whose fields end below bit 32 has 32 bits.
use Rattle.std.proofs.Common.{◌≡◌, ℕ, ◌+◌, ◌^◌, ◌<◌, true, List, [], ◌∷◌, sym, subst, arith}
use Rattle.std.specs.Prelude.{nat_le}
use Rattle.std.proofs.lemmas.Bool.{and_parts, leb-true}
use Rattle.cq_words.specs.declared.table.FieldValue.{FieldValue}
use Rattle.cq_words.specs.Table.{is_table, word_with, cut_value}
use Rattle.cq_words.proofs.FieldLaws.{with_field-lt}
use Rattle.cq_words.proofs.TableLaws.{table_parts, cut_value-lt, word_with-nil, word_with-made, with_entry}
use Rattle.cmd_words.specs.Argument.{ends_below_32}

pub word_with-lt : (table : List FieldValue) → is_table table ≡ true → ends_below_32 table ≡ true → word_with table < 2 ^ 32
word_with-lt [] whole low = omega (arith, word_with-nil)
word_with-lt (entry ∷ table) whole low =
    let parts = table_parts entry table whole in
    let both = and_parts (nat_le (entry.field.low + entry.field.width) 32) (ends_below_32 table) low in
    let small : with_entry (word_with table) entry < 2 ^ 32 =
    with_field-lt (word_with table) entry.field.low entry.field.width (cut_value entry) 32 (cut_value-lt entry)
    (leb-true (entry.field.low + entry.field.width) 32 both.0) (word_with-lt table parts.rest both.1) in
    let P : ℕ → Type 0 = λ w. w < 2 ^ 32 in
    subst P (sym (word_with-made entry table whole)) small

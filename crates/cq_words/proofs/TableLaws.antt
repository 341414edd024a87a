-- The rule of every table: a word that is made of a table's fields holds each of them, and nothing elsewhere.
use Rattle.std.proofs.Common.{add-one, drop, drop-cons, get_or, length, ◌≡◌, ℕ, ◌+◌, ◌*◌, ◌^◌, ◌≤◌, ◌<◌, ◌⊎◌, inl, inr, Bool, true, false, ◌&&◌, ◌||◌, List, [], ◌∷◌, refl, sym, ap, subst, ◌∙◌, arith}
use Rattle.std.specs.Prelude.{nat_le}
use Rattle.std.specs.List.{list_all}
use Rattle.std.proofs.Math.Nat.{mod-eq_of_lt}
use Rattle.std.proofs.lemmas.Bool.{and_parts, leb-true}
use Rattle.std.proofs.lemmas.List.{drop_all}
use Rattle.std.proofs.lemmas.List.Sums.{sum_by-cons}
use Rattle.std.proofs.lemmas.Nat.{pow_pos, mod_below}
use Rattle.cq_words.specs.declared.table.BitField.{BitField}
use Rattle.cq_words.specs.declared.table.FieldValue.{FieldValue}
use Rattle.cq_words.specs.Fields.{with_field}
use Rattle.cq_words.specs.Table.{number_in, is_in_word, are_apart, is_table, cut_value, word_with, Holds, Fits}
use Rattle.cq_words.proofs.FieldLaws.{field_of-with_field, field_of-with_field_above, field_of-with_field_below, field_of-zero, with_field-empty}

pub record IsInWord (field : BitField) : Type 0 where
  pub some : 1 ≤ field.width
  pub narrow : field.width ≤ 32
  pub within : field.low + field.width ≤ 64

pub in_word : (field : BitField) → is_in_word field ≡ true → IsInWord field
in_word field h =
    let all = and_parts (nat_le 1 field.width && nat_le field.width 32) (nat_le (field.low + field.width) 64) h in
    let two = and_parts (nat_le 1 field.width) (nat_le field.width 32) all.0 in
    record {
      some = leb-true 1 field.width two.0;
      narrow = leb-true field.width 32 two.1;
      within = leb-true (field.low + field.width) 64 all.1;
    }

-- a field is apart from each field of a table
abbrev pub is_outside : BitField → List FieldValue → Bool
is_outside field table = list_all (λ other. are_apart field other.field) table

pub record IsTable (entry : FieldValue) (table : List FieldValue) : Type 0 where
  pub first : is_in_word entry.field ≡ true
  pub outside : is_outside entry.field table ≡ true
  pub rest : is_table table ≡ true

pub table_parts : (entry : FieldValue) (table : List FieldValue) → is_table (entry ∷ table) ≡ true → IsTable entry table
table_parts entry table h =
    let all = and_parts (is_in_word entry.field && is_outside entry.field table) (is_table table) h in
    let two = and_parts (is_in_word entry.field) (is_outside entry.field table) all.0 in
    record { first = two.0; outside = two.1; rest = all.1 }

either : (x y : Bool) → (x || y) ≡ true → (x ≡ true) ⊎ (y ≡ true)
either true y h = inl refl
either false y h = inr h

pub cut_value-lt : (entry : FieldValue) → cut_value entry < 2 ^ entry.field.width
cut_value-lt entry = mod_below entry.value (2 ^ entry.field.width) (pow_pos entry.field.width)

-- the word with one more field written
abbrev pub with_entry : ℕ → FieldValue → ℕ
with_entry word entry = with_field word entry.field.low entry.field.width (cut_value entry)

-- a field stays where a field apart from it is written
pub number_in-kept : (word : ℕ) (entry : FieldValue) (other : BitField) → are_apart entry.field other ≡ true
    → number_in (with_entry word entry) other ≡ number_in word other
number_in-kept word entry other h =
    let field = entry.field in
    elim (either (nat_le (field.low + field.width) other.low) (nat_le (other.low + other.width) field.low) h) [
      | inl below ↦ field_of-with_field_below word field.low field.width (cut_value entry) other.low other.width
          (cut_value-lt entry) (leb-true (field.low + field.width) other.low below)
      | inr above ↦ field_of-with_field_above word field.low field.width (cut_value entry) other.low other.width
          (leb-true (other.low + other.width) field.low above)
    ]

-- and where it is written, the other stays
number_in-kept_by : (word : ℕ) (entry : FieldValue) (other : BitField) → are_apart other entry.field ≡ true
    → number_in (with_entry word entry) other ≡ number_in word other
number_in-kept_by word entry other h =
    let field = entry.field in
    elim (either (nat_le (other.low + other.width) field.low) (nat_le (field.low + field.width) other.low) h) [
      | inl above ↦ field_of-with_field_above word field.low field.width (cut_value entry) other.low other.width
          (leb-true (other.low + other.width) field.low above)
      | inr below ↦ field_of-with_field_below word field.low field.width (cut_value entry) other.low other.width
          (cut_value-lt entry) (leb-true (field.low + field.width) other.low below)
    ]

pub word_with-nil : word_with [] ≡ 0
unfolding word_with
word_with-nil = refl

pub word_with-cons : (entry : FieldValue) (table : List FieldValue)
    → word_with (entry ∷ table) ≡ cut_value entry * 2 ^ entry.field.low + word_with table
unfolding word_with
word_with-cons entry table = sum_by-cons (λ e. cut_value e * 2 ^ e.field.low) entry table

added : (word : ℕ) (entry : FieldValue) → number_in word entry.field ≡ 0
    → with_entry word entry ≡ word + cut_value entry * 2 ^ entry.field.low
added word entry none = with_field-empty word entry.field.low entry.field.width (cut_value entry) none

-- outside of a table's fields the word is empty
pub number_in-word_with_outside : (field : BitField) (table : List FieldValue) → is_table table ≡ true → is_outside field table ≡ true
    → number_in (word_with table) field ≡ 0
number_in-word_with_outside field [] whole out = ap (λ w. number_in w field) word_with-nil ∙ field_of-zero field.low field.width
number_in-word_with_outside field (entry ∷ table) whole out =
    let parts = table_parts entry table whole in
    let apart = and_parts (are_apart field entry.field) (is_outside field table) out in
    let none : number_in (word_with table) entry.field ≡ 0 = number_in-word_with_outside entry.field table parts.rest parts.outside in
    let made : word_with (entry ∷ table) ≡ with_entry (word_with table) entry =
    word_with-cons entry table ∙ (omega arith) ∙ sym (added (word_with table) entry none) in
    ap (λ w. number_in w field) made
    ∙ number_in-kept_by (word_with table) entry field apart.0
    ∙ number_in-word_with_outside field table parts.rest apart.1

pub word_with-made : (entry : FieldValue) (table : List FieldValue) → is_table (entry ∷ table) ≡ true
    → word_with (entry ∷ table) ≡ with_entry (word_with table) entry
word_with-made entry table whole =
    let parts = table_parts entry table whole in
    let none : number_in (word_with table) entry.field ≡ 0 = number_in-word_with_outside entry.field table parts.rest parts.outside in
    word_with-cons entry table ∙ (omega arith) ∙ sym (added (word_with table) entry none)

Holds-kept : (word : ℕ) (entry : FieldValue) (table : List FieldValue) → is_outside entry.field table ≡ true → Holds word table
    → Holds (with_entry word entry) table
Holds-kept word entry [] out held = tt
Holds-kept word entry (other ∷ table) out held =
    let apart = and_parts (are_apart entry.field other.field) (is_outside entry.field table) out in
    (number_in-kept word entry other.field apart.0 ∙ held.0, Holds-kept word entry table apart.1 held.1)

-- what a table says stands in the word that is made of it
pub word_with-holds : (table : List FieldValue) → is_table table ≡ true → Fits table → Holds (word_with table) table
word_with-holds [] whole fits = tt
word_with-holds (entry ∷ table) whole fits =
    let parts = table_parts entry table whole in
    let made = word_with-made entry table whole in
    let cut : cut_value entry ≡ entry.value = mod-eq_of_lt fits.0 in
    let P : ℕ → Type 0 = λ w. Holds w (entry ∷ table) in
    let Q : Holds (with_entry (word_with table) entry) (entry ∷ table) = (
      field_of-with_field (word_with table) entry.field.low entry.field.width (cut_value entry) (cut_value-lt entry) ∙ cut,
      Holds-kept (word_with table) entry table parts.outside (word_with-holds table parts.rest fits.1),
    ) in
    subst P (sym made) Q

-- ---- a word on the way: the fields to come are empty, and with them it is the whole

abbrev pub AreEmpty : ℕ → List FieldValue → Type 0
AreEmpty word [] = Unit {0}
AreEmpty word (entry ∷ table) = (number_in word entry.field ≡ 0) × AreEmpty word table

pub record IsOnTheWay (word : ℕ) (rest all : List FieldValue) : Type 0 where
  pub whole : is_table rest ≡ true
  pub empty : AreEmpty word rest
  pub sum : word + word_with rest ≡ word_with all

zero-empty : (table : List FieldValue) → AreEmpty 0 table
zero-empty [] = tt
zero-empty (entry ∷ table) = (field_of-zero entry.field.low entry.field.width, zero-empty table)

pub way-begins : (table : List FieldValue) → is_table table ≡ true → IsOnTheWay 0 table table
way-begins table whole = record { whole = whole; empty = zero-empty table; sum = omega arith }

AreEmpty-kept : (word : ℕ) (entry : FieldValue) (table : List FieldValue) → is_outside entry.field table ≡ true → AreEmpty word table
    → AreEmpty (with_entry word entry) table
AreEmpty-kept word entry [] out empty = tt
AreEmpty-kept word entry (other ∷ table) out empty =
    let apart = and_parts (are_apart entry.field other.field) (is_outside entry.field table) out in
    (number_in-kept word entry other.field apart.0 ∙ empty.0, AreEmpty-kept word entry table apart.1 empty.1)

pub way-goes_on : (word : ℕ) (entry : FieldValue) (rest all : List FieldValue) → IsOnTheWay word (entry ∷ rest) all
    → IsOnTheWay (with_entry word entry) rest all
way-goes_on word entry rest all way =
    let parts = table_parts entry rest way.whole in
    record {
      whole = parts.rest;
      empty = AreEmpty-kept word entry rest parts.outside way.empty.1;
      sum = omega (arith, added word entry way.empty.0, word_with-cons entry rest, way.sum);
    }

pub way-ends : (word : ℕ) (all : List FieldValue) → IsOnTheWay word [] all → word ≡ word_with all
way-ends word all way = omega (arith, way.sum, word_with-nil)

-- the entry at place i is written
pub way-steps : (word i : ℕ) (table : List FieldValue) (d : FieldValue) → i < length table → IsOnTheWay word (drop i table) table
    → IsOnTheWay (with_entry word (get_or table i d)) (drop (i + 1) table) table
way-steps word i table d lt way =
    let e : drop i table ≡ get_or table i d ∷ drop (i + 1) table = rw add-one (drop-cons table i d lt) in
    let P : List FieldValue → Type 0 = λ rest. IsOnTheWay word rest table in
    way-goes_on word (get_or table i d) (drop (i + 1) table) table (subst P e way)

pub way-is_done : (word i : ℕ) (table : List FieldValue) → length table ≤ i → IsOnTheWay word (drop i table) table
    → word ≡ word_with table
way-is_done word i table le way =
    let P : List FieldValue → Type 0 = λ rest. IsOnTheWay word rest table in
    way-ends word table (subst P (drop_all i table le) way)

-- What the descriptors have in common: JESD84-B51, annex B; the macros CQHCI_VALID, CQHCI_END, CQHCI_INT and CQHCI_ACT of the
-- Linux driver's cqhci.h.
use Rattle.std.specs.Prelude.{ℕ, Bool, if◌then◌else◌, Result, Ok, Err}
use Rattle.cq_words.specs.declared.table.BitField.{BitField}
use Rattle.cq_words.specs.declared.table.FieldValue.{FieldValue}
use Rattle.cq_words.specs.Table.{is_set}
use Rattle.cq_desc.specs.Fields.{VALID}
use Rattle.cq_desc.specs.declared.fault.DescFault.{DescFault}
use Rattle.cq_desc.specs.declared.fault.DescFault.TheVariants.{NotValid, BadAct}

-- a row of a table: the field and what stands in it
abbrev pub at : BitField → ℕ → FieldValue
at field value = record { field = field; value = value }

-- a flag as a number
abbrev pub bit : Bool → ℕ
bit flag = if flag then 1 else 0

-- a word reads as its fields say, where it is valid and its act is a known one
abbrev pub judged : {T : Type 0} → ℕ → Bool → T → Result T DescFault
judged word known desc = if is_set word VALID then (if known then Ok desc else Err BadAct) else Err NotValid

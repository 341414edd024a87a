pub mod FieldLaws
mod MaskedWrites
pub mod TableLaws
pub mod WordReads
mod WordWrites

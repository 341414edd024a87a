pub mod MeaningLaws
pub mod OneMeaning

pub mod Meanings
pub mod OpTexts
pub mod OpWords

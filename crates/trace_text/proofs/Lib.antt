pub mod ItemMeanings
pub mod ItemTexts
pub mod ItemWords
pub mod OneItem

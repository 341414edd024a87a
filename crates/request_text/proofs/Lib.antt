pub mod Digits
pub mod JobLists
pub mod JobTexts
pub mod JobWords
pub mod Meanings
pub mod Readings
pub mod SettingLists
pub mod SettingTexts

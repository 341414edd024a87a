pub mod BadLines
pub mod Bytes
pub mod HexNumbers
pub mod LineLists
pub mod LineTexts
pub mod Lines
pub mod Sectors
pub mod Spellings

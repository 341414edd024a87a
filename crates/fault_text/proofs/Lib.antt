pub mod Counts
pub mod Lengths
pub mod Letters
pub mod LineWords
pub mod Meanings
pub mod Rises
pub mod Valid

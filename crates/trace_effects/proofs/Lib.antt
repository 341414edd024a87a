pub mod Places
pub mod PhaseFacts
pub mod Puts
pub mod Ranges
pub mod ReadParts
pub mod LineFacts
pub mod Sounds
pub mod Steps

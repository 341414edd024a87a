pub mod ReadyMasks
pub mod Taken

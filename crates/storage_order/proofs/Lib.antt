pub mod Silents
pub mod Settles
pub mod Accepts
pub mod Folds

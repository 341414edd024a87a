pub mod Joins
pub mod Fronts
pub mod Flushes
pub mod Uses

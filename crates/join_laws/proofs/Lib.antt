pub mod Lines
pub mod Joins
pub mod Near
pub mod Fronts
pub mod Idle
pub mod Flushes
pub mod Uses

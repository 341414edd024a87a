pub mod Slots
pub mod Coalesce
pub mod Table
pub mod State
pub mod Effects
pub mod Calm

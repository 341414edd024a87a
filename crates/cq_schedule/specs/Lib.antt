pub mod Held
pub mod Holding
pub mod Order
pub mod Meaning

pub mod Grown
pub mod Writes

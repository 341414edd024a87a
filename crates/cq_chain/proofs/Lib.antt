pub mod ChainLaws
pub mod Exact
pub mod Ranges
pub mod Readings
pub mod Walked

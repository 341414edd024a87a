pub mod Whole
pub mod Quiet

pub mod Behind
mod Cuts
pub mod Ending
pub mod Parts
pub mod Went

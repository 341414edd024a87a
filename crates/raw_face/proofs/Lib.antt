pub mod ByTask
pub mod Filling
pub mod Printing
pub mod Runs
pub mod Standing

pub mod Begins
pub mod First
pub mod Runs

pub mod Argument
pub mod Command
pub mod Status

pub mod Descriptors
pub mod Chain
pub mod Steps

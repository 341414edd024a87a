pub mod Causes
pub mod Falls

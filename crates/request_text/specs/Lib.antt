pub mod Lines
pub mod Meaning
pub mod Requests
pub mod Settings

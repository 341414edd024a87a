pub mod Calls
pub mod Intent
pub mod Steps

pub mod Hits
pub mod Link
pub mod Script

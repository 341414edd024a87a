pub mod Layout
pub mod Pieces
pub mod Task
pub mod Asks
pub mod Changes

pub mod Numbers
pub mod Slots
pub mod Lose
pub mod Darks

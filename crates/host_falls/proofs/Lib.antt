pub mod Sums
pub mod Requests
pub mod Numbers
pub mod Crossings
pub mod Recovering
pub mod Steps
pub mod Dooms
pub mod Hosting
mod Scripts
mod Resting

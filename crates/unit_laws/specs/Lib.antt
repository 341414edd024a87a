pub mod Writes
pub mod Mixes
pub mod Steps
pub mod Rooms
pub mod Laws

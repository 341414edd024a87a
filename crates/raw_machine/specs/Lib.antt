pub mod Machine
pub mod Running
pub mod State
pub mod Answering
pub mod Moving
pub mod Tasks
pub mod Telling

pub mod Stops
pub mod Queued
pub mod Phases
pub mod All

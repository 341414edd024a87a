pub mod GranuleWrites
pub mod Torn
pub mod Meetings
pub mod Scripted
pub mod Reached
pub mod Runs
pub mod Reaching
pub mod Ended

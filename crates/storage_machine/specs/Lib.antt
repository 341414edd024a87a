pub mod Slots
pub mod Jobs
pub mod Commands
pub mod Host
pub mod Cuts
pub mod PutIndex
pub mod Sound

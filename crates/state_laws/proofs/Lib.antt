mod Bits
pub mod Searches
pub mod Tags
pub mod Ringing
pub mod Tasks
mod Bars
mod Ready
mod Dues
pub mod Commands
mod Faults
pub mod ReadOff
mod EngineLaws
mod Notices
pub mod Issues
mod HostWork

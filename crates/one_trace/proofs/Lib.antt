pub mod Slots
pub mod Dues
pub mod Settled
pub mod Lines
pub mod Served
pub mod Keeps
pub mod Traces
pub mod Runs

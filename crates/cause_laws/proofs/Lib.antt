mod Counts
mod Joining
mod Plain
mod Flushing
mod Explaining
mod OfRequest
mod Choosing
mod Stepping

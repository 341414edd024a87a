pub mod Array
pub mod FilePages
pub mod Hits
pub mod Memory
pub mod Script

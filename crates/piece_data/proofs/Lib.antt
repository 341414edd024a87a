pub mod Ranges
pub mod Bytes
pub mod Reading
pub mod Writing
pub mod Kept
pub mod Over
pub mod Blocks

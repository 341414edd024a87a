mod Copies
mod PageLaws
pub mod MemoryLaws

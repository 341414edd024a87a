mod Heads
pub mod Forms
pub mod Images

pub mod Wrote
pub mod Cut
pub mod Loses

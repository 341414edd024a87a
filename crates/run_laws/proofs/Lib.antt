pub mod Plains
pub mod Lasts
pub mod Drops
pub mod Courses
pub mod Whole

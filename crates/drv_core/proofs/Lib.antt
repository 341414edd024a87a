pub mod Words
pub mod Facts
pub mod Plans

pub mod Acts
pub mod Steps
pub mod Laws

pub mod Lost
pub mod Laws

pub mod Behind
pub mod Made

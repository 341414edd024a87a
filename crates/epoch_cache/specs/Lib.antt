pub mod Cache
pub mod Table
pub mod Recent

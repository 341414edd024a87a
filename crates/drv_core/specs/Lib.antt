pub mod State
pub mod SetUp
pub mod Work
pub mod Judge
pub mod Event

pub mod TableSteps
pub mod CacheSteps
pub mod Marks

pub mod EndLines
pub mod Lines
pub mod Acting
pub mod Orders
pub mod Plain
pub mod Back
pub mod Events

pub mod Events
pub mod Order
pub mod Accept
pub mod Silent
pub mod Start

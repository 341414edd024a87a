pub mod Words
pub mod Outcome
pub mod After
pub mod Event
pub mod Ends
pub mod Holds
pub mod Standings

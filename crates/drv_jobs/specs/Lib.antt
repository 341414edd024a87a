pub mod Standings
pub mod Next
pub mod Changes
pub mod Sound

pub mod Hosts
pub mod Engines
pub mod Owns
pub mod Cuts
pub mod Phases
pub mod Powers
pub mod Untold

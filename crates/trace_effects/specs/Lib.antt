pub mod Cuts
pub mod Phases
pub mod Effects

pub mod Lines
pub mod Mores
pub mod Ends
pub mod Hushes
pub mod Turns
pub mod Told
pub mod Lags
pub mod Plans

pub mod Laws
pub mod Anew
pub mod Ends
pub mod Kept

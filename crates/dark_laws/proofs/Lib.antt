pub mod Held
pub mod Pages
pub mod Anew
pub mod TiedAnew
pub mod Back
pub mod Ends
pub mod Kept

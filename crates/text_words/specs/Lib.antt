pub mod HexNumber
pub mod Reads
pub mod Texts
pub mod Words

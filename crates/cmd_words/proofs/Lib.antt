pub mod Arguments
pub mod Decoding
pub mod StatusBits

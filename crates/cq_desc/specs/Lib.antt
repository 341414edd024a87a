pub mod Fields
pub mod Descriptor
pub mod Direct
pub mod Task
pub mod Transfer

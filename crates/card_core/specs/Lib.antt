pub mod Card
pub mod Moving
pub mod Response
pub mod Serving

pub mod Filling
pub mod Finding
pub mod Serving
pub mod Progresses
pub mod HeldLaws
pub mod OneDue
pub mod Idle
pub mod Plain

pub mod Planned
pub mod Called
pub mod Risen
